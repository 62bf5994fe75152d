-- Document 01, "The calls", "Share and sheet", "The address book", "Lines"; document 02, Three: answers in C's form.
use Rattle.std.specs.Prelude.{ℕ, ◌+◌, ◌/◌, ◌%◌, cond, List, [], ◌∷◌, eqb, length, get_or}
use Rattle.model.specs.Answers.{Answer}
use Rattle.model.specs.Survey.{Share}
use Rattle.model.specs.Lines.{Read}
use Rattle.model.specs.Lines.{Said, Refused}
use Rattle.model.specs.Lines.{Next}
use Rattle.model.specs.Lines.{Line, Ended}
use Rattle.model.specs.Questions.{up_to}
use Rattle.model.specs.Refusals.{BadShape}
use Rattle.model.specs.Messages.{slot_of}
use Rattle.model.specs.Answers.{refused, Outcome}
use Rattle.model.specs.Layout.{Layout}
use Rattle.model.specs.Survey.{sheet_number, sheet}
use Rattle.model.specs.Lines.{bytes_of, read_bytes, write_call, next_at}
use Rattle.model.specs.Places.{moved_to}
use Rattle.book.specs.Book.{entry_at, length_byte, address_number}
use Rattle.pointer_desk.specs.declared.answer.DeskAnswer.{DeskAnswer}
use Rattle.pointer_desk.specs.declared.answer.DeskOrderedAnswer.{DeskOrderedAnswer}
use Rattle.pointer_desk.specs.declared.counts.DeskShare.{DeskShare}
use Rattle.pointer_desk.specs.declared.addresses.DeskPart.{DeskPart}
use Rattle.pointer_desk.specs.declared.line.DeskLine.{DeskLine}

-- an answer: number, value, how many slots were empty before a post, and the message as slot bytes
abbrev pub flat_answer : Answer → DeskAnswer
flat_answer a = record { number = a.number; value = a.value; empty = a.empty; message = slot_of a.posted }

-- the in-order desk's answer: the same fields
abbrev pub ordered_answer : Answer → DeskOrderedAnswer
ordered_answer a = record { number = a.number; value = a.value; empty = a.empty; message = slot_of a.posted }

-- what a host is given: the answer in C's form, and the lent memory as the call leaves it
pub record Given (A D : Type 0) : Type 0 where
  pub answer : A
  pub desk : D

abbrev pub given_as : {A D : Type 0} → (Answer → A) → Outcome D → Given A D
given_as form outcome = record { answer = form outcome.answer; desk = outcome.desk }

abbrev pub given : {D : Type 0} → Outcome D → Given DeskAnswer D
given outcome = given_as flat_answer outcome

abbrev pub given_in_order : {D : Type 0} → Outcome D → Given DeskOrderedAnswer D
given_in_order outcome = given_as ordered_answer outcome

abbrev pub flat_share : Share → DeskShare
flat_share a = record { number = a.number; share = a.share }

-- ---- a sheet as 192 counts, row by row: count k stands in row k / 64, column k % 64
abbrev pub count_of : List (List ℕ) → ℕ → ℕ
count_of rows k = get_or (get_or rows (k / 64) []) (k % 64) 0

unfoldable pub row_by_row : List (List ℕ) → List ℕ
row_by_row rows = up_to 192 (count_of rows)

-- the number, and the lent counts as the call leaves them
pub record Sheet : Type 0 where
  pub number : ℕ
  pub counts : List ℕ

-- an outcome of which C is given the number alone, and the lent list as the call leaves it
abbrev pub numbered : Outcome (List ℕ) → Sheet
numbered outcome = record { number = outcome.answer.number; counts = outcome.desk }

-- another length than 192 gives 1, and nothing is written
unfoldable pub sheet_given : {D : Type 0} → Layout D → D → ℕ → List ℕ → Sheet
sheet_given L d p counts =
    cond (eqb (length counts) 192)
    (record { number = sheet_number L d p; counts = row_by_row (sheet L d p) })
    (record { number = BadShape; counts = counts })

-- the address of a pointer as a place in the lent book and a length; after a refusal both are 0
unfoldable pub part_given : ℕ → List ℕ → List ℕ → ℕ → DeskPart
part_given s owners book p =
    cond (eqb (address_number s owners book p) 0)
    (record { number = 0; at = entry_at book p + 1; length = length_byte book p })
    (record { number = address_number s owners book p; at = 0; length = 0 })

-- ---- lines
-- what a line says, written at the start of a lent text; where it says no call, its number, and nothing is written
abbrev pub read_written : List ℕ → Read → Outcome (List ℕ)
read_written text (Said call) = write_call text call
read_written text (Refused n) = record { answer = refused n; desk = text }

-- the call of four bytes, as the reader takes them (15, 16, 14); then 1 for a text that is too short
abbrev pub line_written : List ℕ → ℕ → ℕ → ℕ → ℕ → Outcome (List ℕ)
line_written text code a b c = read_written text (read_bytes code a b c)

-- no call
abbrev pub no_call : List ℕ
no_call = 0 ∷ 0 ∷ 0 ∷ 0 ∷ []

-- what a line says: a call's four bytes, or the number of its refusal
abbrev pub flat_read : Read → ℕ → DeskLine
flat_read (Said call) at = record { number = 0; ended = 0; call = bytes_of call; at = at }
flat_read (Refused n) at = record { number = n; ended = 0; call = no_call; at = at }

-- that the reader has ended is neither a call nor a refusal
abbrev pub flat_next : Next → ℕ → DeskLine
flat_next (Line read past) at = flat_read read at
flat_next Ended at = record { number = 0; ended = 1; call = no_call; at = at }

-- what the reader that stands at a place answers, and where it stands then
abbrev pub line_given : List ℕ → ℕ → DeskLine
line_given text at = flat_next (next_at text at) (moved_to at (next_at text at))
