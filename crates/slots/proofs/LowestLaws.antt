-- The lowest number below an end, where the search has come to a number and found none.
use Prim.Native.Nat.{ℕ, ◌+◌, ◌≤◌, ◌<◌}
use mathlib.Core.Path.{◌≡◌, refl}
use mathlib.Core.Bool.{Bool, true, false}
use native.Mathlib.Omega.{arith}
use lib.Dec.{ltb}
use borrow.Author.Tests.{ltb-true, ltb-false}
use Rattle.model.specs.Questions.{lowest}
use Rattle.model.proofs.TestLaws.{true_not_false}
use Rattle.model.proofs.QuestionLaws.{lowest_has, lowest_most, lowest_below, lowest_low}

-- a number that has it is the lowest where none below it has it
lowest_at : (P : ℕ → Bool) (n i : ℕ) → i < n → P i ≡ true → ((k : ℕ) → k < i → P k ≡ false) → lowest n P ≡ i
lowest_at P n i l e none = go (ltb (lowest n P) i) refl
  where
    go : (b : Bool) → ltb (lowest n P) i ≡ b → lowest n P ≡ i
    go true t =
        let low = ltb-true (lowest n P) i t in
        let f = none (lowest n P) low in
        let h = lowest_has P 0 n (omega arith) in true_not_false cc
    go false t = omega (arith, lowest_low P n i e, ltb-false (lowest n P) i t)

module _ (P : ℕ → Bool) where
  pub lowest_found : (n i : ℕ) → lowest i P ≡ i → i < n → P i ≡ true → lowest n P ≡ i
  lowest_found n i none l e = lowest_at P n i l e (λ k lk. lowest_below P 0 i k (omega arith) (omega arith))

  pub lowest_past : (i : ℕ) → lowest i P ≡ i → P i ≡ false → lowest (i + 1) P ≡ i + 1
  lowest_past i none f = go (ltb (lowest (i + 1) P) (i + 1)) refl
    where
      last : (b : Bool) → ltb (lowest (i + 1) P) i ≡ b → lowest (i + 1) P < i + 1 → P (lowest (i + 1) P) ≡ false
      last true t l = let low = ltb-true (lowest (i + 1) P) i t in lowest_below P 0 i (lowest (i + 1) P) (omega arith) (omega arith)
      last false t l = let high = ltb-false (lowest (i + 1) P) i t in let q : lowest (i + 1) P ≡ i = omega arith in rw q f

      go : (b : Bool) → ltb (lowest (i + 1) P) (i + 1) ≡ b → lowest (i + 1) P ≡ i + 1
      go true t =
          let l = ltb-true (lowest (i + 1) P) (i + 1) t in
          let h = lowest_has P 0 (i + 1) (omega arith) in
          let g = last (ltb (lowest (i + 1) P) i) refl l in true_not_false cc
      go false t = omega (arith, lowest_most P 0 (i + 1), ltb-false (lowest (i + 1) P) (i + 1) t)

  -- what is found before an end is found before a later one
  pub lowest_longer : (k n : ℕ) → lowest k P < k → k ≤ n → lowest n P ≡ lowest k P
  lowest_longer k n l le = lowest_at P n (lowest k P) (omega arith) (lowest_has P 0 k (omega arith)) (λ i li. lowest_below P 0 k i (omega arith) li)
