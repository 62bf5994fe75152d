-- Document 01, "Lines": what the program `desk` writes for what it reads.
use Rattle.std.specs.Prelude.{ℕ, zero, suc, ◌+◌, ◌-◌, ◌*◌, ◌/◌, ◌%◌, Bool, ◌&&◌, not, cond, List, [], ◌∷◌, ◌++◌, leb, ltb, eqb, length, take, drop, replicate}
use Rattle.model.specs.Answers.{Answer}
use Rattle.model.specs.Lines.{Read}
use Rattle.model.specs.Lines.{Said, Refused}
use Rattle.model.specs.Refusals.{BadLine, TooLong, ◌when◌}
use Rattle.model.specs.Questions.{every, up_to}
use Rattle.model.specs.Messages.{slot_of}
use Rattle.model.specs.Answers.{refused, Outcome, unless}
use Rattle.model.specs.Calls.{open_desk, step}
use Rattle.model.specs.Tables.{Desk, lent}
use Rattle.model.specs.Flat.{flat}
use Rattle.model.specs.Lines.{newline, digits_of, byte_at, is_byte, read_line, lines_of}

-- ---- an answer line of 16 digits: number (1 byte), value (2), posted message as slot bytes (5)
abbrev pub answer_bytes : Answer → List ℕ
answer_bytes a = a.number ∷ a.value / 256 ∷ a.value % 256 ∷ slot_of a.posted

unfoldable pub answer_line : Answer → List ℕ
answer_line a = digits_of (answer_bytes a) ++ (newline ∷ [])

-- ---- the opening line: one byte S, two bytes slot count, then the owners
-- fewer than 6 or more than 518 digits, an odd count or a non-digit breaks its form
abbrev pub opening_form : List ℕ → Bool
opening_form line = leb 6 (length line) && leb (length line) 518 && eqb (length line % 2) 0 && every (length line / 2) (is_byte line)

abbrev pub sites_in : List ℕ → ℕ
sites_in line = byte_at line 0

abbrev pub slots_in : List ℕ → ℕ
slots_in line = byte_at line 1 * 256 + byte_at line 2

abbrev pub owners_in : List ℕ → List ℕ
owners_in line = up_to (length line / 2 - 3) (λ p. byte_at line (p + 3))

-- the program lends parts of the lengths that S, the owners and the slot count ask for
unfoldable pub fresh : ℕ → List ℕ → ℕ → Desk
fresh s owners slots = lent s owners (replicate (s * length owners) 0) (replicate (s * length owners) 0) (replicate (slots * 5) 0)

unfoldable pub opening : List ℕ → Outcome Desk
opening line =
    unless (BadLine when not (opening_form line)) (fresh 0 [] 0)
    (open_desk flat (fresh (sites_in line) (owners_in line) (slots_in line)))

-- ---- the lines after it
-- a refused line leaves the desk as it was
abbrev pub obeyed : Desk → Read → Outcome Desk
obeyed d (Said call) = step flat d call
obeyed d (Refused n) = record { answer = refused n; desk = d }

-- each line gets one answer line; a refusal does not stop it
unfoldable pub answers : Desk → List (List ℕ) → List ℕ
answers d [] = []
answers d (line ∷ lines) =
    let o = obeyed d (read_line line) in
    answer_line o.answer ++ answers o.desk lines

-- the desk before line k of them, of which line 0 finds d
unfoldable pub desk_before : Desk → List (List ℕ) → ℕ → Desk
desk_before d lines zero = d
desk_before d [] (suc k) = d
desk_before d (line ∷ lines) (suc k) = desk_before (obeyed d (read_line line)).desk lines k

-- answer line k of what is written: 16 digits and a newline
abbrev pub answer_line_at : List ℕ → ℕ → List ℕ
answer_line_at text k = take 17 (drop (k * 17) text)

-- ---- the whole
-- after a refused opening it stops
abbrev pub goes_on : ℕ → List ℕ → List ℕ
goes_on zero text = text
goes_on (suc n) text = []

abbrev pub begun : Outcome Desk → List (List ℕ) → List ℕ
begun o lines = answer_line o.answer ++ goes_on o.answer.number (answers o.desk lines)

-- its first line opens; empty input writes nothing
unfoldable pub session : List (List ℕ) → List ℕ
session [] = []
session (line ∷ lines) = begun (opening line) lines

-- program input above 8,192 bytes: with 17, that answer line is all it writes
unfoldable pub transcript : List ℕ → List ℕ
transcript input = cond (ltb 8192 (length input)) (answer_line (refused TooLong)) (session (lines_of input))
