-- Totals over the slots of a pool, and one slot changed.
use Prim.Native.Nat.{ℕ, zero, suc, ◌+◌, ◌≤◌, ◌<◌}
use mathlib.Core.Path.{◌≡◌, refl, ap, ap₂}
use mathlib.Core.Logic.{◌≢◌, ⊎_elim}
use mathlib.Core.Bool.{cond}
use native.Mathlib.Decide.{ℕ_discrete, dec_lt}
use native.Mathlib.Nat.{eq-or-lt_of_le, le_of_suc-le-suc, not-suc-le-zero}
use native.Mathlib.Omega.{arith}
use lib.Dec.{eqb}
use borrow.Author.Tests.{eq-eqb, ne_eqb}
use Rattle.model.specs.declared.Posted.{Posted}
use Rattle.model.specs.Questions.{total}
use Rattle.model.specs.Laws.{with_slot}
use Rattle.model.proofs.PlaceLaws.{changed_slot, other_slot}

-- terms that agree add up to the same
pub total_same : (n : ℕ) (f g : ℕ → ℕ) → ((i : ℕ) → i < n → f i ≡ g i) → total n f ≡ total n g
unfolding total
total_same zero f g h = refl
total_same (suc n) f g h = ap₂ (λ x y. x + y) (total_same n f g (λ i l. h i (omega arith))) (h n (omega arith))

-- terms that are all 0 add up to 0, and a total of 0 has no other term
pub total_of_zeros : (n : ℕ) (f : ℕ → ℕ) → ((i : ℕ) → i < n → f i ≡ 0) → total n f ≡ 0
unfolding total
total_of_zeros zero f h = refl
total_of_zeros (suc n) f h = omega (arith, total_of_zeros n f (λ i l. h i (omega arith)), h n (omega arith))

pub term_in_total : (n : ℕ) (f : ℕ → ℕ) (i : ℕ) → i < n → f i ≤ total n f
unfolding total
term_in_total zero f i l = absurd (not-suc-le-zero l)
term_in_total (suc n) f i l =
    ⊎_elim (λ q. rw q (omega arith)) (λ lt. omega (arith, term_in_total n f i lt)) (eq-or-lt_of_le (le_of_suc-le-suc l))

-- one term changed: a new term for an old one
pub total_changed : (n : ℕ) (f g : ℕ → ℕ) (i : ℕ) → i < n → ((j : ℕ) → j < n → j ≢ i → g j ≡ f j) → total n g + f i ≡ total n f + g i
unfolding total
total_changed zero f g i l h = absurd (not-suc-le-zero l)
total_changed (suc n) f g i l h = go (ℕ_discrete n i) (λ ln. total_changed n f g i ln (λ j lj. h j (omega arith)))
  where
    go : Dec (n ≡ i) → (i < n → total n g + f i ≡ total n f + g i) → total n g + g n + f i ≡ total n f + f n + g i
    go (yes q) below = omega (arith, total_same n g f (λ j lj. h j (omega arith) (omega arith)), ap f q, ap g q)
    go (no apart) below = omega (arith, below (omega arith), h n (omega arith) apart)

-- terms that are no larger add up to no more
pub total_le : (n : ℕ) (f g : ℕ → ℕ) → ((i : ℕ) → i < n → f i ≤ g i) → total n f ≤ total n g
unfolding total
total_le zero f g h = omega arith
total_le (suc n) f g h = omega (arith, total_le n f g (λ i l. h i (omega arith)), h n (omega arith))

-- sums of two terms add up to the sum of two totals
pub total_add : (n : ℕ) (f g : ℕ → ℕ) → total n (λ i. f i + g i) ≡ total n f + total n g
unfolding total
total_add zero f g = refl
total_add (suc n) f g = omega (arith, total_add n f g)

-- a total has room for two of its terms
pub total_two : (n : ℕ) (f : ℕ → ℕ) (i j : ℕ) → i < n → j < n → j ≢ i → f i + f j ≤ total n f
total_two n f i j li lj apart =
    let g : ℕ → ℕ = λ k. cond (eqb k i) 0 (f k) in
    let here : g i ≡ 0 = rw (eq-eqb i i refl) in
    let there : (k : ℕ) → k ≢ i → g k ≡ f k = λ k d. rw (ne_eqb k i d) in
    omega (arith, total_changed n f g i li (λ k lk d. there k d), here, there j apart, term_in_total n g j lj)

-- a total above 0 has a term above 0
pub total_has : (n : ℕ) (f : ℕ → ℕ) → 0 < total n f → (i : ℕ) × (i < n) × (0 < f i)
unfolding total
total_has zero f h = absurd (not-suc-le-zero h)
total_has (suc n) f h = go (dec_lt 0 (f n)) (total_has n f)
  where
    go : Dec (0 < f n) → (0 < total n f → (i : ℕ) × (i < n) × (0 < f i)) → (i : ℕ) × (i < suc n) × (0 < f i)
    go (yes l) rest = (n, omega arith, l)
    go (no l) rest = let r = rest (omega arith) in (r.0, omega (arith, r.1), r.2)

-- a slot's new message for its old one
pub total_with_slot : (weight : Posted → ℕ) (pool : ℕ → Posted) (i : ℕ) (m : Posted) (n : ℕ) → i < n
    → total n (λ j. weight (with_slot pool i m j)) + weight (pool i) ≡ total n (λ j. weight (pool j)) + weight m
total_with_slot weight pool i m n l =
    omega (arith, total_changed n (λ j. weight (pool j)) (λ j. weight (with_slot pool i m j)) i l (λ j lj apart. ap weight (other_slot pool i m j apart)), ap weight (changed_slot pool i m))
