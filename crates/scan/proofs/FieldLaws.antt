-- A packed number shows none of the mask's bits where each field is below its top bit.
use Prim.Native.Nat.{ℕ, ◌+◌, ◌*◌, ◌/◌, ◌%◌, ◌≤◌, ◌<◌}
use mathlib.Core.Path.{◌≡◌, sym, ap, ap₂, ◌∙◌}
use mathlib.Core.Bool.{Bool, true, ◌&&◌}
use native.Mathlib.Omega.{arith}
use lib.Bits.{bit_and, bit_or, and_block, and_high}
use lib.Dec.{eqb, leb, ltb}
use borrow.Author.Tests.{eqb-true, eq-eqb, leb-true, le-leb, ltb-true, lt-ltb}
use Rattle.model.proofs.TestLaws.{and_both}
use Rattle.model.specs.Questions.{every}
use Rattle.model.proofs.QuestionLaws.{every_more}
use Rattle.scan.specs.Word.{packed, clear, slot_mask}
use Rattle.scan.proofs.BitLaws.{and_over_or, or_zero}

-- ---- what is seen so far
pub clear_or : (mask a b : ℕ) → clear mask (bit_or a b) ≡ (clear mask a && clear mask b)
clear_or mask a b = ap (λ (n : ℕ). eqb n 0) (and_over_or a b mask) ∙ or_zero (bit_and a mask) (bit_and b mask)

-- one more is seen
pub seen_more : (mask : ℕ) (P : ℕ → Bool) (i next seen x : ℕ) → i + 1 ≡ next → clear mask seen ≡ every i P → clear mask x ≡ P i → clear mask (bit_or seen x) ≡ every next P
seen_more mask P i next seen x q before e =
    clear_or mask seen x ∙ ap (λ (b : Bool). clear mask seen && b) e ∙ every_more P i before ∙ ap (λ (n : ℕ). every n P) q

-- ---- five fields below limits: of the kind 4, of from and to a, of third b, of the pointer c
abbrev pub fields_below : ℕ → ℕ → ℕ → ℕ → ℕ → ℕ → ℕ → ℕ → Bool
fields_below a b c kind from to third p = leb kind 3 && ltb from a && ltb to a && ltb third b && ltb p c

pub record Below (a b c kind from to third p : ℕ) : Type 0 where
  pub low_kind : kind ≤ 3
  pub low_from : from < a
  pub low_to : to < a
  pub low_third : third < b
  pub low_pointer : p < c

module _ (a b c kind from to third p : ℕ) where
  pub tested_below : fields_below a b c kind from to third p ≡ true → Below a b c kind from to third p
  tested_below e =
      let e1 = and_both (leb kind 3 && ltb from a && ltb to a && ltb third b) (ltb p c) e in
      let e2 = and_both (leb kind 3 && ltb from a && ltb to a) (ltb third b) e1.0 in
      let e3 = and_both (leb kind 3 && ltb from a) (ltb to a) e2.0 in
      let e4 = and_both (leb kind 3) (ltb from a) e3.0 in
      record {
        low_kind = leb-true kind 3 e4.0;
        low_from = ltb-true from a e4.1;
        low_to = ltb-true to a e3.1;
        low_third = ltb-true third b e2.1;
        low_pointer = ltb-true p c e1.1;
      }

  pub below_tested : Below a b c kind from to third p → fields_below a b c kind from to third p ≡ true
  below_tested l = rw (le-leb kind 3 l.low_kind, lt-ltb from a l.low_from, lt-ltb to a l.low_to, lt-ltb third b l.low_third, lt-ltb p c l.low_pointer)

-- ---- the mask takes each field's own bits
pub masked_block : (x m r s : ℕ) {x' r' : ℕ} → r < 256 → s < 256 → bit_and x m ≡ x' → bit_and r s ≡ r' → bit_and (x * 256 + r) (m * 256 + s) ≡ x' * 256 + r'
masked_block x m r s lr ls ex er = and_block 8 x m r s lr ls ∙ ap₂ (λ (a b : ℕ). a * 256 + b) ex er

pub no_field : (p third to from kind : ℕ) → (((p * 256 * 256 + third * 128) * 256 + to * 128) * 256 + from * 128) * 256 + kind * 4 ≡ 0
    → (p ≡ 0) × (third ≡ 0) × (to ≡ 0) × (from ≡ 0) × (kind ≡ 0)
no_field p third to from kind e = (omega arith, omega arith, omega arith, omega arith, omega arith)

module _ (kind from to third p : ℕ) (k : kind < 256) (f : from < 256) (t : to < 256) (h : third < 256) where
  pub masked : bit_and (packed kind from to third p) slot_mask
      ≡ (((p / 256 % 2 * 256 * 256 + third / 128 % 2 * 128) * 256 + to / 128 % 2 * 128) * 256 + from / 128 % 2 * 128) * 256 + kind / 4 % 64 * 4
  masked =
      let e : packed kind from to third p ≡ (((p * 256 + third) * 256 + to) * 256 + from) * 256 + kind = omega arith in
      let with_third = masked_block p 256 third 128 h (omega arith) (and_high p 1 8) (and_high third 1 7) in
      let with_to = masked_block (p * 256 + third) 65664 to 128 t (omega arith) with_third (and_high to 1 7) in
      let with_from = masked_block ((p * 256 + third) * 256 + to) 16810112 from 128 f (omega arith) with_to (and_high from 1 7) in
      let with_kind = masked_block (((p * 256 + third) * 256 + to) * 256 + from) 4303388800 kind 252 k (omega arith) with_from (and_high kind 6 2) in
      ap (λ (n : ℕ). bit_and n slot_mask) e ∙ with_kind

  pub clear_below : p < 512 → clear slot_mask (packed kind from to third p) ≡ true → Below 128 128 256 kind from to third p
  clear_below l e =
      let z = no_field (p / 256 % 2) (third / 128 % 2) (to / 128 % 2) (from / 128 % 2) (kind / 4 % 64) (sym masked ∙ eqb-true (bit_and (packed kind from to third p) slot_mask) 0 e) in
      record {
        low_kind = omega (arith, z.4);
        low_from = omega (arith, z.3);
        low_to = omega (arith, z.2);
        low_third = omega (arith, z.1);
        low_pointer = omega (arith, z.0);
      }

pub below_clear : (kind from to third p : ℕ) → Below 128 128 256 kind from to third p → clear slot_mask (packed kind from to third p) ≡ true
below_clear kind from to third p l = eq-eqb _ 0 (masked kind from to third p (omega arith) (omega arith) (omega arith) (omega arith) ∙ omega arith)
