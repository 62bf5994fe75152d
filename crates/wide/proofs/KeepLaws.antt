-- What each kind keeps of a slot of seven bytes as one number: the byte above seven does not matter, and the kind stays.
use Prim.Native.Nat.{ℕ, zero, suc, ◌%◌, ◌^◌, ◌-◌, ◌<◌}
use mathlib.Core.Path.{◌≡◌, refl, sym, ap, ◌∙◌}
use native.Mathlib.Omega.{arith}
use lib.Bits.{bit_and, and_mask}
use lib.ListN.{get_or}
use Rattle.wide.specs.Wide.{keeps}

-- what is kept of n low bits does not change with what stands above them
kept : (n x y : ℕ) → x % 2 ^ n ≡ y % 2 ^ n → bit_and x (2 ^ n - 1) ≡ bit_and y (2 ^ n - 1)
kept n x y e = and_mask x n ∙ e ∙ sym (and_mask y n)

-- kinds 1 to 3 are cut alike
pub full_keep : (j : ℕ) → j < 3 → get_or keeps (suc j) 0 ≡ 1099511627775
full_keep zero l = refl
full_keep (suc zero) l = refl
full_keep (suc (suc zero)) l = refl
full_keep (suc (suc (suc j))) l = absurd (omega arith)

pub same_kept : (j x : ℕ) → j < 4 → bit_and x (get_or keeps j 0) ≡ bit_and (x % 72057594037927936) (get_or keeps j 0)
same_kept zero x l = kept 56 x (x % 72057594037927936) (omega arith)
same_kept (suc j) x l = rw (full_keep j (omega arith)) (kept 40 x (x % 72057594037927936) (omega arith))

-- the kind is in the lowest byte
pub kind_kept : (j x : ℕ) → j < 4 → bit_and x (get_or keeps j 0) % 256 ≡ x % 256
kind_kept zero x l = ap (λ (n : ℕ). n % 256) (and_mask x 56) ∙ omega arith
kind_kept (suc j) x l = rw (full_keep j (omega arith)) (ap (λ (n : ℕ). n % 256) (and_mask x 40) ∙ omega arith)
