-- Whether a question holds of some number below an end, where the search has come to a number and found none.
use Prim.Native.Nat.{ℕ, ◌+◌, ◌≤◌}
use mathlib.Core.Path.{◌≡◌, sym, ◌∙◌}
use mathlib.Core.Bool.{Bool, true, false}
use native.Mathlib.Omega.{arith}
use Rattle.model.specs.Questions.{some}
use Rattle.model.proofs.QuestionLaws.{some_more, some_there, some_has}

module _ (P : ℕ → Bool) where
  pub none_more : (i : ℕ) → some i P ≡ false → P i ≡ false → some (i + 1) P ≡ false
  none_more i e f = sym (some_more P i (sym e)) ∙ f

  -- what some number before an end has, some number before a later one has
  pub some_longer : (k n : ℕ) → some k P ≡ true → k ≤ n → some n P ≡ true
  some_longer k n e l = let h = some_has P k e in some_there P n _ (omega (arith, h.0)) h.1
