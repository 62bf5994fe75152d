-- A refusal's number is not 0, so it is the first of an order of tests that gives it.
use Rattle.std.specs.Prelude.{ℕ, zero, suc, ◌≡◌}
use mathlib.Core.Path.{refl}
use native.Mathlib.Omega.{arith}
use Rattle.model.specs.Refusals.{◌or_else◌}
use Rattle.model.specs.Answers.{Outcome, unless, refused}
use Rattle.model.proofs.TestLaws.{number_first}
use Rattle.rules.specs.declared.refusal.Refusal.{Refusal}
use Rattle.rules.specs.declared.refusal.Refusal.TheVariants as name
use Rattle.rules.specs.Turned.{number_of}

pub number_given : (refusal : Refusal) → number_of refusal ≡ 0 → ⊥
number_given name.BadShape e = absurd (omega arith)
number_given name.BadTable e = absurd (omega arith)
number_given name.BadName e = absurd (omega arith)
number_given name.SameSite e = absurd (omega arith)
number_given name.NotHeld e = absurd (omega arith)
number_given name.CounterFull e = absurd (omega arith)
number_given name.PoolFull e = absurd (omega arith)
number_given name.EmptySlot e = absurd (omega arith)
number_given name.Held e = absurd (omega arith)
number_given name.CounterZero e = absurd (omega arith)
number_given name.IsOwner e = absurd (omega arith)
number_given name.StillCounted e = absurd (omega arith)
number_given name.NotOwner e = absurd (omega arith)
number_given name.BadLine e = absurd (omega arith)
number_given name.UnknownCode e = absurd (omega arith)
number_given name.PrivateCode e = absurd (omega arith)
number_given name.TooLong e = absurd (omega arith)
number_given name.BadBook e = absurd (omega arith)
number_given name.Twins e = absurd (omega arith)
number_given name.NotListed e = absurd (omega arith)
number_given name.OutOfOrder e = absurd (omega arith)

pub err_first : (refusal : Refusal) (m k : ℕ) → number_of refusal ≡ m → number_of refusal ≡ m or_else k
err_first refusal m k e = number_first (number_of refusal) m k (number_given refusal) e

-- a refusal with the number of an outcome is that outcome's answer, and the desk stays
pub err_unless : {D : Type 0} (refusal : Refusal) (m : ℕ) (d : D) (o : Outcome D) → number_of refusal ≡ m → record { answer = refused (number_of refusal); desk = d } ≡ unless m d o
err_unless {D} refusal m d o e = go (number_of refusal) (number_given refusal) e
  where
    go : (n : ℕ) → (n ≡ 0 → ⊥) → n ≡ m → record { answer = refused n; desk = d } ≡ unless m d o
    go zero given q = absurd (given refl)
    go (suc n) given q = rw (← q)
