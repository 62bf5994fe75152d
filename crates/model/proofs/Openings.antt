-- Document 01, "Lines": whole inputs and what is written for them, by their opening lines; one table, one claim. And inputs that are too long.
use Prim.Native.Nat.{ℕ, ◌<◌, ◌≤◌}
use Prim.Native.String.{String}
use mathlib.Core.Path.{◌≡◌, refl}
use mathlib.Core.List.{List, [], ◌∷◌, ◌++◌}
use lib.ListN.{length}
use borrow.Author.Tests.{lt-ltb, le-ltb}
use Rattle.model.specs.declared.Posted.TheVariants.{IncDec}
use Rattle.model.specs.Questions.{every, some, lowest_from, up_to}
use Rattle.model.specs.Messages.{message_of}
use Rattle.model.specs.Answers.{accepted, refused}
use Rattle.model.specs.Calls.{copy_refusal, delete_refusal, lent_refusal, front, open_refusal, open_desk, copy_number, copied, make_copy, receive_number, received, receive, delete_number, deleted, delete, ask_number, asked, ask, step}
use Rattle.model.specs.Tables.{all_below, all_slots_good, own_rows}
use Rattle.model.specs.Lines.{number_of, digits_of, byte_of, line_refusal, read_line, lines_of}
use Rattle.model.specs.Transcript.{answer_line, fresh, opening, answers, session, transcript}
use Rattle.model.proofs.LineTable.{characters}

-- the lines of an input, and the answer lines
pub record Run : Type 0 where
  pub lines : List String
  pub answered : List String

abbrev run : List String → List String → Run
run lines answered = record { lines = lines; answered = answered }

pub runs : List Run
runs =
    run [] []
    ∷ run ("" ∷ []) ("0E00000000000000" ∷ [])
    ∷ run ("0300" ∷ []) ("0E00000000000000" ∷ [])
    ∷ run ("0300040" ∷ []) ("0E00000000000000" ∷ [])
    ∷ run ("03000G" ∷ []) ("0E00000000000000" ∷ [])
    ∷ run ("00000400" ∷ "04000000" ∷ []) ("0100000000000000" ∷ [])
    ∷ run ("41000400" ∷ "04000000" ∷ []) ("0100000000000000" ∷ [])
    ∷ run ("03040100" ∷ "04000000" ∷ []) ("0100000000000000" ∷ [])
    ∷ run ("03000403" ∷ "04000000" ∷ []) ("0200000000000000" ∷ [])
    ∷ run ("030004" ∷ "04000000" ∷ []) ("0000000000000000" ∷ "0300000000000000" ∷ [])
    ∷ run ("03000400" ∷ "04000000" ∷ []) ("0000000000000000" ∷ "0000010000000000" ∷ [])
    ∷ []

unfoldable texts : List String → List ℕ
texts [] = []
texts (s ∷ ss) = characters s ++ texts ss

-- what is written for each, and what the table says
pub written : List Run → List (List ℕ)
written [] = []
written (r ∷ rs) = transcript (texts r.lines) ∷ written rs

pub listed : List Run → List (List ℕ)
listed [] = []
listed (r ∷ rs) = texts r.answered ∷ listed rs

pub openings : written runs ≡ listed runs
unfolding runs written listed characters texts transcript session lines_of opening fresh open_desk open_refusal answers answer_line read_line line_refusal byte_of number_of digits_of step front lent_refusal make_copy copy_number copy_refusal copied receive receive_number received delete delete_number delete_refusal deleted ask ask_number asked all_below all_slots_good own_rows every some lowest_from up_to message_of
openings = refl

-- An answer line, digit by digit: number, value in two bytes, message as slot bytes; and one of a refusal.
pub answer_lines : answer_line (accepted 1023 (IncDec 63 62 61 255)) ++ answer_line (refused 20) ≡ characters "0003FF033F3E3DFF" ++ characters "1400000000000000"
unfolding answer_line digits_of characters
answer_lines = refl

-- An input above 8,192 bytes gets one answer line, 17, and no other; one of 8,192 or fewer is run.
pub too_long : (input : List ℕ) → 8192 < length input → transcript input ≡ characters "1100000000000000"
unfolding transcript answer_line digits_of characters
too_long input l = rw (lt-ltb 8192 (length input) l)

pub not_too_long : (input : List ℕ) → length input ≤ 8192 → transcript input ≡ session (lines_of input)
unfolding transcript
not_too_long input l = rw (le-ltb 8192 (length input) l)
