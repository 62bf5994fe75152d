-- Numbers from n on, weights by stamps, and numbers that wrap.
use Prim.Native.Nat.{ℕ, zero, suc, ◌+◌, ◌%◌, ◌≤◌, ◌<◌}
use mathlib.Core.Path.{◌≡◌, sym, ap, ◌∙◌}
use mathlib.Core.Bool.{cond}
use native.Mathlib.Decide.{ℕ_discrete, dec_lt}
use native.Mathlib.Omega.{arith}
use lib.Dec.{leb}
use borrow.Author.Tests.{le-leb, lt-leb}
use Rattle.moreau.specs.Counts.{◌if◌is◌}
use Rattle.moreau.proofs.Sums.{if_same, if_other, if_zero}
use Rattle.model.specs.Refusals.{◌when◌}
use Rattle.model.proofs.TestLaws.{at_most_1}

-- ---- 1 from n on, 0 below n
unfoldable pub from : ℕ → ℕ → ℕ
from n k = 1 when leb n k

pub from_on : (n k : ℕ) → n ≤ k → from n k ≡ 1
unfolding from
from_on n k h = rw (le-leb n k h)

pub from_off : (n k : ℕ) → k < n → from n k ≡ 0
unfolding from
from_off n k h = rw (lt-leb n k h)

pub from_most : (n k : ℕ) → from n k ≤ 1
unfolding from
from_most n k = at_most_1 (leb n k)

-- a number that advances by 1, or not
pub advance : (n w k : ℕ) → w ≤ 1 → from (n + w) k + (w if n is k) ≡ from n k
advance n w k h = go (dec_lt k n) (ℕ_discrete n k) (ℕ_discrete w 0)
  where
    go : Dec (k < n) → Dec (n ≡ k) → Dec (w ≡ 0) → from (n + w) k + (w if n is k) ≡ from n k
    go (yes l) _ _ = omega (arith, from_off (n + w) k (omega arith), from_off n k l, if_other w n k (omega arith))
    go (no l) (yes e) (yes z) = rw (e, z) (omega (arith, if_same 0 k, from_on (k + 0) k (omega arith), from_on k k (omega arith)))
    go (no l) (yes e) (no z) = rw e (omega (arith, if_same w k, from_off (k + w) k (omega arith), from_on k k (omega arith)))
    go (no l) (no apart) _ = omega (arith, from_on (n + w) k (omega arith), from_on n k (omega arith), if_other w n k apart)

-- ---- w where a stamp s is t or later, else 0
unfoldable pub late : ℕ → ℕ → ℕ → ℕ
late t s w = cond (leb t s) w 0

pub late_on : (t s w : ℕ) → t ≤ s → late t s w ≡ w
unfolding late
late_on t s w h = rw (le-leb t s h)

pub late_off : (t s w : ℕ) → s < t → late t s w ≡ 0
unfolding late
late_off t s w h = rw (lt-leb t s h)

pub late_le : (t s w : ℕ) → late t s w ≤ w
late_le t s w = go (dec_lt s t)
  where
    go : Dec (s < t) → late t s w ≤ w
    go (yes l) = omega (arith, late_off t s w l)
    go (no l) = omega (arith, late_on t s w (omega arith))

-- ---- numbers that wrap: two of the same turn with the same remainder
pub one_turn : (x y z : ℕ) → x ≤ y → y < x + 65536 → x ≤ z → z < x + 65536 → y % 65536 ≡ z % 65536 → y ≡ z
one_turn x y z a b c d e = omega arith

-- ---- a weight at a place that is the same where the weight is not 0
pub if_moved : (w s t k : ℕ) → (0 < w → s ≡ t) → (w if s is k) ≡ (w if t is k)
if_moved zero s t k h = if_zero s k ∙ sym (if_zero t k)
if_moved (suc w) s t k h = ap (λ (x : ℕ). suc w if x is k) (h (omega arith))
