-- Document 01, "The calls" and "Why a call is turned down": an answer, and what a call gives.
use Rattle.std.specs.Prelude.{ℕ, zero, suc}
use Rattle.model.specs.declared.Posted.{Posted}
use Rattle.model.specs.declared.Posted.TheVariants.{Nothing}

-- a refusal number (0: accepted), a value, the posted message, and how many slots were empty before a post, 0: not told (Document 02, One)
pub record Answer : Type 0 where
  pub number : ℕ
  pub value : ℕ
  pub empty : ℕ
  pub posted : Posted

-- an accepted call has number 0; most tell no count of empty slots
abbrev pub accepted : ℕ → Posted → Answer
accepted value posted = record { number = 0; value = value; empty = 0; posted = posted }

-- make copy and delete hand it on (Document 02, One)
abbrev pub accepted_telling : ℕ → ℕ → Posted → Answer
accepted_telling empty value posted = record { number = 0; value = value; empty = empty; posted = posted }

-- each refusal returns its number, value 0 and no message
abbrev pub refused : ℕ → Answer
refused number = record { number = number; value = 0; empty = 0; posted = Nothing }

-- what a call gives: its answer, and the lent memory as it leaves it
pub record Outcome (D : Type 0) : Type 0 where
  pub answer : Answer
  pub desk : D

-- a refusal leaves all lent memory as it was; number 0 is none
abbrev pub unless : {D : Type 0} → ℕ → D → Outcome D → Outcome D
unless zero d outcome = outcome
unless (suc n) d outcome = record { answer = refused (suc n); desk = d }
