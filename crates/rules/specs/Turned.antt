-- Document 01, "The calls" and "Why a call is turned down": what a function answers, as the answer of a call.
use Rattle.std.specs.Prelude.{ℕ, Result, Ok, Err, Option, Some, None}
use Rattle.model.specs.declared.Posted.TheVariants.{Nothing}
use Rattle.model.specs.Answers.{Answer, refused}
use Rattle.model.specs.Messages.{Effect}
use Rattle.rules.specs.declared.refusal.Refusal.{Refusal}
use Rattle.rules.specs.declared.refusal.Refusal.TheVariants as name
use Rattle.rules.specs.declared.answer.Accepted.{Accepted}
use Rattle.rules.specs.declared.answer.Answer as any
use Rattle.rules.specs.declared.effect.Becomes.{Becomes}
use Rattle.model.specs.Refusals as number

-- the number of a refusal
abbrev pub number_of : Refusal → ℕ
number_of name.BadShape = number.BadShape
number_of name.BadTable = number.BadTable
number_of name.BadName = number.BadName
number_of name.SameSite = number.SameSite
number_of name.NotHeld = number.NotHeld
number_of name.CounterFull = number.CounterFull
number_of name.PoolFull = number.PoolFull
number_of name.EmptySlot = number.EmptySlot
number_of name.Held = number.Held
number_of name.CounterZero = number.CounterZero
number_of name.IsOwner = number.IsOwner
number_of name.StillCounted = number.StillCounted
number_of name.NotOwner = number.NotOwner
number_of name.BadLine = number.BadLine
number_of name.UnknownCode = number.UnknownCode
number_of name.PrivateCode = number.PrivateCode
number_of name.TooLong = number.TooLong
number_of name.BadBook = number.BadBook
number_of name.Twins = number.Twins
number_of name.NotListed = number.NotListed
number_of name.OutOfOrder = 21

-- the number of what is answered; 0 where it is accepted
abbrev pub number_in : {A : Type 0} → Result A Refusal → ℕ
number_in (Ok a) = 0
number_in (Err refusal) = number_of refusal

-- a number for whatever may stand for a refusal
abbrev pub Numbering : Type 0 → Type 0
Numbering E = E → ℕ

-- the number of what is answered, by such numbers
abbrev pub number_by : {A E : Type 0} → Numbering E → Result A E → ℕ
number_by f (Ok a) = 0
number_by f (Err refusal) = f refusal

-- the answer of a call: an accepted call has number 0; each refusal returns its number, value 0 and no message
abbrev pub told : Result Accepted Refusal → Answer
told (Ok a) = record { number = 0; value = a.value; empty = a.empty; posted = a.posted }
told (Err refusal) = refused (number_of refusal)

-- an answer as it is told
abbrev pub answer_of : any.Answer → Answer
answer_of a = record { number = a.number; value = a.value; empty = a.empty; posted = a.posted }

-- the answer of a call, by what is told where it is not accepted
abbrev pub told_by : {E : Type 0} → (E → Answer) → Result Accepted E → Answer
told_by f (Ok a) = record { number = 0; value = a.value; empty = a.empty; posted = a.posted }
told_by f (Err refusal) = f refusal

-- the lowest empty slot; the slot count where none is empty
abbrev pub slot_in : ℕ → Option ℕ → ℕ
slot_in slots (Some slot) = slot
slot_in slots None = slots

-- what a receive decides: after a refusal counter and cell stay, and nothing is posted
abbrev pub effect_in : ℕ → ℕ → Result Becomes Refusal → Effect
effect_in counter cell (Ok e) = record { number = 0; counter = e.counter; cell = e.cell; posted = e.posted }
effect_in counter cell (Err refusal) = record { number = number_of refusal; counter = counter; cell = cell; posted = Nothing }

-- what a receive decides, by such numbers
abbrev pub effect_by : {E : Type 0} → Numbering E → ℕ → ℕ → Result Becomes E → Effect
effect_by f counter cell (Ok e) = record { number = 0; counter = e.counter; cell = e.cell; posted = e.posted }
effect_by f counter cell (Err refusal) = record { number = f refusal; counter = counter; cell = cell; posted = Nothing }
