-- Plus less minus: of which sign it is, that it fits, and between which ends it lies.
use Prim.Native.Nat.{ℕ, zero, suc, ◌+◌, ◌-◌, ◌^◌, ◌≤◌, ◌<◌}
use mathlib.Core.Path.{◌≡◌, ap₂}
use native.Mathlib.Decide.{dec_lt}
use lib.IntN.{ℤ, pos, negsuc, ◌-ℤ◌}
use lib.Signed.{mag, ◌≤ℤ◌}
use borrow.Author.Tests.{lt-ltb, le-ltb}
use mir.Syntax.{w32}
use mir.Val.{SFits, to_z}
use mir.ValLaws.{to_z_pos}
use Rattle.std.proofs.Common.{arith}
use Rattle.std.proofs.lemmas.Int.{ints}
use Rattle.model.specs.Survey.{balance}

-- ---- which sign
data Side (plus minus : ℕ) : ℤ → Type 0 where
  above : minus ≤ plus → Side plus minus (pos (plus - minus))
  below : plus < minus → Side plus minus (negsuc (minus - suc plus))

side : (plus minus : ℕ) → Side plus minus (balance plus minus)
unfolding balance
side plus zero = let e : plus + 0 ≡ plus - 0 = omega arith in rw e (above (omega arith))
side plus (suc minus) = go (dec_lt plus (suc minus))
  where
    go : Dec (plus < suc minus) → Side plus (suc minus) (pos plus -ℤ pos (suc minus))
    go (yes l) = rw (lt-ltb plus (suc minus) l) (below l)
    go (no l) = rw (le-ltb plus (suc minus) (omega arith)) (above (omega arith))

-- ---- at i32
small : (limit plus minus : ℕ) {z : ℤ} → Side plus minus z → plus < limit → minus < limit → mag z < limit
small limit plus minus (above h) lp lm = omega arith
small limit plus minus (below h) lp lm = omega arith

module _ (plus minus : ℕ) (lp : plus < 2 ^ 31) (lm : minus < 2 ^ 31) where
  read_back : to_z w32 plus -ℤ to_z w32 minus ≡ balance plus minus
  unfolding balance
  read_back = ap₂ (λ (x y : ℤ). x -ℤ y) (to_z_pos w32 plus lp) (to_z_pos w32 minus lm)

  pub difference_fits : SFits w32 (to_z w32 plus -ℤ to_z w32 minus)
  difference_fits = rw read_back (record { sfits = small (2 ^ 31) plus minus (side plus minus) lp lm })

-- ---- between two ends
pub balance_between : (up down plus minus : ℕ) → plus ≤ up → minus ≤ suc down → (negsuc down ≤ℤ balance plus minus) × (balance plus minus ≤ℤ pos up)
unfolding balance
balance_between up down plus minus lp lm = (omega (arith, ints), omega (arith, ints))
