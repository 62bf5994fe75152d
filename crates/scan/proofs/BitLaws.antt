-- `&` over `|`, where an `|` is 0, and tests in pairs.
use Prim.Native.Nat.{ℕ, ◌+◌, ◌*◌, ◌/◌, ◌%◌, min, max}
use mathlib.Core.Path.{◌≡◌, refl, sym, ap₂, ◌∙◌}
use mathlib.Core.Bool.{Bool, true, false, ◌&&◌}
use native.Mathlib.Omega.{arith}
use lib.Arith.{bin_ind}
use lib.Bits.{bit_and, bit_or, and_step, or_step, or_add_and, and_le_l, and_le_r}
use lib.Dec.{eqb}
use borrow.Author.Tests.{eqb-true}
use Rattle.model.proofs.TestLaws.{same_test, and_both}

-- ---- digit by digit
and_half : (a b : ℕ) → bit_and a b / 2 ≡ bit_and (a / 2) (b / 2)
and_half a b = omega (arith, and_step a b)

and_odd : (a b : ℕ) → bit_and a b % 2 ≡ min (a % 2) (b % 2)
and_odd a b = omega (arith, and_step a b)

or_half : (a b : ℕ) → bit_or a b / 2 ≡ bit_or (a / 2) (b / 2)
or_half a b = omega (arith, or_step a b)

or_odd : (a b : ℕ) → bit_or a b % 2 ≡ max (a % 2) (b % 2)
or_odd a b = omega (arith, or_step a b)

min_over_max : (x y z : ℕ) → min (max x y) z ≡ max (min x z) (min y z)
min_over_max x y z = omega arith

pub and_over_or : (a b m : ℕ) → bit_and (bit_or a b) m ≡ bit_or (bit_and a m) (bit_and b m)
and_over_or a =
    bin_ind (λ (n : ℕ). (b m : ℕ) → bit_and (bit_or n b) m ≡ bit_or (bit_and n m) (bit_and b m)) (λ b m. refl)
    (λ n by-halves b m.
    and_step (bit_or n b) m
    ∙ ap₂ (λ (x y : ℕ). bit_and x (m / 2) * 2 + min y (m % 2)) (or_half n b) (or_odd n b)
    ∙ ap₂ (λ (x y : ℕ). x * 2 + y) (by-halves (b / 2) (m / 2)) (min_over_max (n % 2) (b % 2) (m % 2))
    ∙ sym (or_step (bit_and n m) (bit_and b m)
    ∙ (λ w. bit_or (and_half n m w) (and_half b m w) * 2 + max (and_odd n m w) (and_odd b m w))))
    a

pub or_zero : (a b : ℕ) → eqb (bit_or a b) 0 ≡ (eqb a 0 && eqb b 0)
or_zero a b =
    same_test (eqb (bit_or a b) 0) (eqb a 0 && eqb b 0)
    (λ e.
    let z = eqb-true (bit_or a b) 0 e in
    let no_a : a ≡ 0 = omega (arith, or_add_and a b, and_le_r a b) in
    let no_b : b ≡ 0 = omega (arith, or_add_and a b, and_le_l a b) in
    rw (no_a, no_b))
    (λ e.
    let both = and_both (eqb a 0) (eqb b 0) e in
    rw (eqb-true a 0 both.0, eqb-true b 0 both.1))

-- ---- pairs of tests
pub and_pairs : (a b c d : Bool) → ((a && b) && (c && d)) ≡ ((a && c) && (b && d))
and_pairs true true c d = refl
and_pairs true false true d = refl
and_pairs true false false d = refl
and_pairs false b c d = refl
