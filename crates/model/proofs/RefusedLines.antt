-- Document 01, "Lines": lines that are refused, by their form, their code or their last byte, among lines that are not. One table, one claim.
use mathlib.Core.Path.{◌≡◌, refl}
use mathlib.Core.List.{List, [], ◌∷◌}
use Rattle.model.specs.Questions.{every, some, lowest_from, up_to}
use Rattle.model.specs.Messages.{message_of}
use Rattle.model.specs.Calls.{copy_refusal, delete_refusal, lent_refusal, front, open_refusal, open_desk, copy_number, copied, make_copy, receive_number, received, receive, delete_number, deleted, delete, ask_number, asked, ask, step}
use Rattle.model.specs.Tables.{all_below, all_slots_good, own_rows}
use Rattle.model.specs.Lines.{number_of, digits_of, byte_of, line_refusal, read_line, lines_of}
use Rattle.model.specs.Transcript.{answer_line, fresh, opening, answers, session, transcript}
use Rattle.model.proofs.LineTable.{Row, row, characters, joined}

pub refused : List Row
refused =
    row "0300040001" "0000000000000000"
    ∷ row "" "0E00000000000000"
    ∷ row "0100010" "0E00000000000000"
    ∷ row "010001000" "0E00000000000000"
    ∷ row "0100010a" "0E00000000000000"
    ∷ row "0100010G" "0E00000000000000"
    ∷ row "00000000" "0F00000000000000"
    ∷ row "05000000" "0F00000000000000"
    ∷ row "7F0000FF" "0F00000000000000"
    ∷ row "80000000" "1000000000000000"
    ∷ row "FF0000FF" "1000000000000000"
    ∷ row "02000001" "0E00000000000000"
    ∷ row "03000001" "0E00000000000000"
    ∷ row "04000001" "0E00000000000000"
    ∷ row "0100010A" "0300000000000000"
    ∷ row "01010001" "0000000101000001"
    ∷ row "04010100" "0000000000000000"
    ∷ row "04000100" "0D00000000000000"
    ∷ row "02010000" "0300000000000000"
    ∷ []

pub refused_lines : transcript (joined (λ r. r.line) refused) ≡ joined (λ r. r.answer) refused
unfolding refused characters joined transcript session lines_of opening fresh open_desk open_refusal answers answer_line read_line line_refusal byte_of number_of digits_of step front lent_refusal make_copy copy_number copy_refusal copied receive receive_number received delete delete_number delete_refusal deleted ask ask_number asked all_below all_slots_good own_rows every some lowest_from up_to message_of
refused_lines = refl
