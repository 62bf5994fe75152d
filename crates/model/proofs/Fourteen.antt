-- Document 01, "Lines": the fourteen lines and their answers, as steps of the definitions. One table, one claim.
use mathlib.Core.Path.{◌≡◌, refl}
use mathlib.Core.List.{List, [], ◌∷◌}
use Rattle.model.specs.Questions.{every, some, lowest_from, up_to}
use Rattle.model.specs.Messages.{message_of}
use Rattle.model.specs.Calls.{copy_refusal, delete_refusal, lent_refusal, front, open_refusal, open_desk, copy_number, copied, make_copy, receive_number, received, receive, delete_number, deleted, delete, ask_number, asked, ask, step}
use Rattle.model.specs.Tables.{all_below, all_slots_good, own_rows}
use Rattle.model.specs.Lines.{number_of, digits_of, byte_of, line_refusal, read_line, lines_of}
use Rattle.model.specs.Transcript.{answer_line, fresh, opening, answers, session, transcript}
use Rattle.model.proofs.LineTable.{Row, row, characters, joined}

pub table : List Row
table =
    row "03000400" "0000000000000000"
    ∷ row "01000100" "0000000100010000"
    ∷ row "02000000" "0000000000000000"
    ∷ row "01010200" "0000000101020000"
    ∷ row "02000000" "0000000302000100"
    ∷ row "03020000" "0000010202000000"
    ∷ row "02000100" "0900000000000000"
    ∷ row "04000000" "0000000000000000"
    ∷ row "02000000" "0000000200010000"
    ∷ row "02000100" "0000010000000000"
    ∷ row "02000000" "0000000000000000"
    ∷ row "03010000" "0000000201000000"
    ∷ row "02000000" "0000000000000000"
    ∷ row "04000000" "0000010000000000"
    ∷ []

pub fourteen : transcript (joined (λ r. r.line) table) ≡ joined (λ r. r.answer) table
unfolding table characters joined transcript session lines_of opening fresh open_desk open_refusal answers answer_line read_line line_refusal byte_of number_of digits_of step front lent_refusal make_copy copy_number copy_refusal copied receive receive_number received delete delete_number delete_refusal deleted ask ask_number asked all_below all_slots_good own_rows every some lowest_from up_to message_of
fourteen = refl
