-- Laws of an order of refusals.
use Prim.Native.Nat.{ℕ}
use mathlib.Core.Path.{◌≡◌, ap, ◌∙◌}
use Rattle.std.specs.Prelude.{Result, Ok, Err}
use Rattle.std.specs.Result.{result_and}
use Rattle.model.specs.Refusals.{◌or_else◌}
use Rattle.rules.specs.declared.refusal.Refusal.{Refusal}
use Rattle.rules.specs.Turned.{number_in}
use Rattle.rules.proofs.TurnedLaws.{err_first}

-- after a test that passes the order of tests gives what follows
pub after_passed : (m k : ℕ) {n : ℕ} → 0 ≡ m → n ≡ k → n ≡ m or_else k
after_passed m k e f = rw (← e) f

-- two tests in their order
pub and_refusal : {A B : Type 0} (a : Result A Refusal) (b : Result B Refusal) (m k : ℕ) → number_in a ≡ m → number_in b ≡ k → number_in (result_and a b) ≡ m or_else k
and_refusal (Ok x) b m k e f = after_passed m k e f
and_refusal (Err refusal) b m k e f = err_first refusal m k e

pub ruleset refusing = (err_first, after_passed, and_refusal)

-- both have passed
pub both_passed : {A B : Type 0} (a : Result A Refusal) (b : Result B Refusal) (m k : ℕ) {x : B} → Ok x ≡ result_and a b
    → number_in a ≡ m → number_in b ≡ k → 0 ≡ m or_else k
both_passed a b m k q e f = ap number_in q ∙ and_refusal a b m k e f
