-- Document 01, "Lines": a call as a line, a line as a call, the lines of a text, the writer and the reader.
use Rattle.std.specs.Prelude.{ℕ, zero, suc, ◌+◌, ◌-◌, ◌*◌, ◌/◌, ◌%◌, Bool, ◌&&◌, ◌||◌, not, cond, List, [], ◌∷◌, ◌++◌, leb, ltb, eqb, length, get_or, take, drop}
use Rattle.std.proofs.lemmas.List.Edits.{sets}
use Rattle.model.specs.declared.Posted.TheVariants.{Nothing}
use Rattle.model.specs.declared.Call.{Call}
use Rattle.model.specs.declared.Call.TheVariants.{MakeCopy, Receive, Delete, Ask}
use Rattle.model.specs.Refusals.{BadShape, BadLine, UnknownCode, PrivateCode, ◌when◌, ◌or_else◌}
use Rattle.model.specs.Answers.{accepted, Outcome, unless}

-- ---- digits
-- the digit of a number below 16: 0 to 9 are the characters 48 to 57, A to F are 65 to 70
abbrev pub digit_of : ℕ → ℕ
digit_of n = cond (ltb n 10) (48 + n) (55 + n)

-- the number of a digit; 16 for any other character, lower case among them
unfoldable pub number_of : ℕ → ℕ
number_of c =
    cond (leb 48 c && leb c 57) (c - 48)
    (cond (leb 65 c && leb c 70) (c - 55)
    16)

-- bytes as digits, two a byte, the high one first
unfoldable pub digits_of : List ℕ → List ℕ
digits_of [] = []
digits_of (b ∷ bs) = digit_of (b / 16) ∷ digit_of (b % 16) ∷ digits_of bs

-- the byte of two characters; 256 where one of them is no digit
unfoldable pub byte_of : ℕ → ℕ → ℕ
byte_of high low = cond (ltb (number_of high) 16 && ltb (number_of low) 16) (number_of high * 16 + number_of low) 256

-- byte i of a line of digits
abbrev pub byte_at : List ℕ → ℕ → ℕ
byte_at line i = byte_of (get_or line (i * 2) 0) (get_or line (i * 2 + 1) 0)

abbrev pub is_byte : List ℕ → ℕ → Bool
is_byte line i = ltb (byte_at line i) 256

-- newline ends a line
abbrev pub newline : ℕ
newline = 10

-- ---- a call as a line
-- its code: 01 make copy, 02 receive, 03 delete, 04 ask
abbrev pub code_of : Call → ℕ
code_of (MakeCopy from to p) = 1
code_of (Receive slot) = 2
code_of (Delete site p) = 3
code_of (Ask site p) = 4

-- four bytes: 01 from to pointer; 02 slot high byte, slot low byte, 00; 03 site pointer 00; 04 site pointer 00
abbrev pub bytes_of : Call → List ℕ
bytes_of (MakeCopy from to p) = code_of (MakeCopy from to p) ∷ from ∷ to ∷ p ∷ []
bytes_of (Receive slot) = code_of (Receive slot) ∷ slot / 256 ∷ slot % 256 ∷ 0 ∷ []
bytes_of (Delete site p) = code_of (Delete site p) ∷ site ∷ p ∷ 0 ∷ []
bytes_of (Ask site p) = code_of (Ask site p) ∷ site ∷ p ∷ 0 ∷ []

-- eight digits and a newline
unfoldable pub line_of : Call → List ℕ
line_of call = digits_of (bytes_of call) ++ (newline ∷ [])

-- a lent text that is too short gives 1 and nothing is written; memory past the written text stays as it was
unfoldable pub write_call : List ℕ → Call → Outcome (List ℕ)
write_call text call =
    unless (BadShape when ltb (length text) 9) text
    (record { answer = accepted 0 Nothing; desk = sets text 0 (line_of call) })

-- ---- a line as a call
-- the call of four bytes, where the code is 01 to 04
abbrev pub call_of : ℕ → ℕ → ℕ → ℕ → Call
call_of code a b c =
    cond (eqb code 1) (MakeCopy a b c)
    (cond (eqb code 2) (Receive (a * 256 + b))
    (cond (eqb code 3) (Delete a b)
    (Ask a b)))

-- tests in order: digits (14), code (15 for 00 and 05 to 7F, 16 for 80 to FF), last byte 00 for codes 02 to 04 (14)
unfoldable pub line_refusal : ℕ → ℕ → ℕ → ℕ → ℕ
line_refusal code a b c =
    BadLine when not (ltb code 256 && ltb a 256 && ltb b 256 && ltb c 256)
    or_else UnknownCode when (eqb code 0 || leb 5 code && leb code 127)
    or_else PrivateCode when leb 128 code
    or_else BadLine when (leb 2 code && leb code 4 && not (eqb c 0))

-- what one line says: a call, or the number of its refusal
pub data Read : Type 0 where
  Said : Call → Read
  Refused : ℕ → Read

abbrev pub said_unless : ℕ → Call → Read
said_unless zero call = Said call
said_unless (suc n) call = Refused (suc n)

abbrev pub read_bytes : ℕ → ℕ → ℕ → ℕ → Read
read_bytes code a b c = said_unless (line_refusal code a b c) (call_of code a b c)

-- eight characters (14), then the rest
unfoldable pub read_line : List ℕ → Read
read_line line =
    cond (eqb (length line) 8)
    (read_bytes (byte_at line 0) (byte_at line 1) (byte_at line 2) (byte_at line 3))
    (Refused BadLine)

-- the number of a line; 0 where it says a call
abbrev pub refusal_in : Read → ℕ
refusal_in (Said call) = 0
refusal_in (Refused n) = n

-- ---- the lines of a text
-- a character before the first line of what follows
abbrev pub onto : ℕ → List (List ℕ) → List (List ℕ)
onto c [] = (c ∷ []) ∷ []
onto c (line ∷ lines) = (c ∷ line) ∷ lines

-- newline ends a line; a last line may lack it
unfoldable pub lines_of : List ℕ → List (List ℕ)
lines_of [] = []
lines_of (c ∷ cs) = cond (eqb c newline) ([] ∷ lines_of cs) (onto c (lines_of cs))

-- ---- the reader, at a place of the lent text
-- how many characters stand before the first newline
unfoldable pub width : List ℕ → ℕ
width [] = 0
width (c ∷ cs) = cond (eqb c newline) 0 (suc (width cs))

-- where the line that starts at a place ends
abbrev pub end_at : List ℕ → ℕ → ℕ
end_at text at = at + width (drop at text)

-- the line that starts there
abbrev pub line_at : List ℕ → ℕ → List ℕ
line_at text at = take (width (drop at text)) (drop at text)

-- past that line's newline, or at the end if there is none
abbrev pub past_at : List ℕ → ℕ → ℕ
past_at text at = cond (ltb (end_at text at) (length text)) (end_at text at + 1) (length text)

-- what a reader answers: what the next line says and the place past that line, or that it has ended
pub data Next : Type 0 where
  Line : Read → ℕ → Next
  Ended : Next

-- at the end of the text, where no character is left, the reader has ended
unfoldable pub next_at : List ℕ → ℕ → Next
next_at text at = cond (ltb at (length text)) (Line (read_line (line_at text at)) (past_at text at)) Ended
