-- Document 01, "Lines": what a function answers, in the words of that part.
use Rattle.std.specs.Prelude.{ℕ, ◌≡◌, ◌&&◌, ◌||◌, cond, leb, ltb, eqb, Option, Some, None, Result, Ok, Err, IfOk}
use Rattle.model.specs.declared.Call.{Call}
use Rattle.model.specs.Refusals.{UnknownCode, PrivateCode, ◌when◌, ◌or_else◌}
use Rattle.model.specs.Lines.{Read, Next}
use Rattle.model.specs.Lines.{Said, Refused, Line, Ended}
use Rattle.rules.specs.declared.refusal.Refusal.{Refusal}
use Rattle.rules.specs.Turned.{number_of, number_in}
use Rattle.lines.specs.declared.code.Code.{Code}
use Rattle.lines.specs.declared.code.Code.TheVariants as name

-- a number below a limit; the limit itself stands for none
abbrev pub below : ℕ → ℕ → Option ℕ
below limit n = cond (ltb n limit) (Some n) None

-- what one line says: a call, or the number of its refusal
abbrev pub read_of : Result Call Refusal → Read
read_of (Ok call) = Said call
read_of (Err refusal) = Refused (number_of refusal)

-- what a reader answers, and the place where it then stands
abbrev pub next_of : Option (Result Call Refusal) → ℕ → Next
next_of (Some read) past = Line (read_of read) past
next_of None past = Ended

-- the byte of a code: 01 make copy, 02 receive, 03 delete, 04 ask
abbrev pub code_number : Code → ℕ
code_number name.MakeCopy = 1
code_number name.Receive = 2
code_number name.Delete = 3
code_number name.Ask = 4

-- a byte as a code: 15 for 00 and 05 to 7F, 16 for 80 to FF, or the code of which it is the byte
pub record GivesCode (byte : ℕ) (code : Result Code Refusal) : Type 0 where
  pub refusal : number_in code ≡ UnknownCode when (eqb byte 0 || leb 5 byte && leb byte 127) or_else PrivateCode when leb 128 byte
  pub known : IfOk code (λ k. code_number k ≡ byte)
