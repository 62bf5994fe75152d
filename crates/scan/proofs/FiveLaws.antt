-- The test of a slot as one number is the plain test: each field over its limit carries into its own top bit.
use Prim.Native.Nat.{ℕ, zero, suc, ◌+◌, ◌-◌, ◌*◌, ◌%◌, ◌≤◌, ◌<◌}
use mathlib.Core.Path.{◌≡◌, sym, ap, ◌∙◌}
use mathlib.Core.Bool.{Bool, true, ◌&&◌}
use mathlib.Core.List.{List}
use native.Mathlib.Omega.{arith}
use lib.Dec.{eqb, ltb}
use lib.ListN.{get_or}
use borrow.Author.Tests.{eqb-true, eq-eqb, ne_eqb, ltb-true, lt-ltb, lt-leb}
use Rattle.model.specs.Questions.{every}
use Rattle.model.specs.Tables.{at_slot, slot_good, slots_of, empty_at, all_slots_good}
use Rattle.model.proofs.TestLaws.{same_test, true_not_false, and_both}
use Rattle.scan.specs.Word.{packed, eight, eight_at, clear, slot_mask, rooms}
use Rattle.scan.specs.Form.{Sound, five, number_at, word_good, good_at, counted_at}
use Rattle.scan.proofs.FieldLaws.{fields_below, tested_below, below_tested, clear_below, below_clear}

-- the test of a slot's five bytes as one number
abbrev pub packed_good : List ℕ → ℕ → Bool
packed_good room x = clear slot_mask x && clear slot_mask (x + get_or room (x % 4) 0)

-- what fields below a, b, c lack at most of their top bits
abbrev room : ℕ → ℕ → ℕ → ℕ
room a b c = packed 0 (128 - a) (128 - a) (128 - b) (256 - c)

-- 0 is what is below 1
zero_below_one : (n : ℕ) → ltb n 1 ≡ eqb n 0
zero_below_one n =
    same_test (ltb n 1) (eqb n 0)
    (λ e. let l = ltb-true n 1 e in eq-eqb n 0 (omega arith))
    (λ e. let z = eqb-true n 0 e in lt-ltb n 1 (omega arith))

-- ---- one slot of bytes
module _ (s g from to third p : ℕ) (f : from < 256) (t : to < 256) (h : third < 256) (q : p < 256) where
  abbrev word : ℕ → ℕ
  word kind = packed kind from to third p

  -- the test of the code, with the room of a kind
  abbrev tested : ℕ → ℕ → Bool
  tested kind j = clear slot_mask (word kind) && clear slot_mask (word kind + get_or (rooms s g) j 0)

  within_room : (kind a b c : ℕ) → kind < 256 → a ≤ 128 → b ≤ 128 → c ≤ 256 → (clear slot_mask (word kind) && clear slot_mask (word kind + room a b c)) ≡ fields_below a b c kind from to third p
  within_room kind a b c k la lb lc =
      let from' = from + (128 - a) in
      let to' = to + (128 - a) in
      let third' = third + (128 - b) in
      let p' = p + (256 - c) in
      let e : word kind + room a b c ≡ packed kind from' to' third' p' = omega arith in
      rw e (same_test (clear slot_mask (word kind) && clear slot_mask (packed kind from' to' third' p')) (fields_below a b c kind from to third p)
      (λ tests.
      let both = and_both (clear slot_mask (word kind)) (clear slot_mask (packed kind from' to' third' p')) tests in
      let u = clear_below kind from to third p k f t h (omega arith) both.0 in
      let v = clear_below kind from' to' third' p' k (omega arith) (omega arith) (omega arith) (omega arith) both.1 in
      below_tested a b c kind from to third p (omega arith))
      (λ tests.
      let l = tested_below a b c kind from to third p tests in
      rw (below_clear kind from to third p (omega arith)) (below_clear kind from' to' third' p' (omega arith))))

  pub packed_good_lem : (kind : ℕ) → kind < 256 → s ≤ 64 → g ≤ 256 → packed_good (rooms s g) (word kind) ≡ slot_good s g kind from to third p
  packed_good_lem zero k ls lg =
      let e : word 0 % 4 ≡ 0 = omega arith in
      ap (tested 0) e ∙ within_room 0 1 1 1 k (omega arith) (omega arith) (omega arith)
      ∙ rw (zero_below_one from, zero_below_one to, zero_below_one third, zero_below_one p)
  packed_good_lem (suc zero) k ls lg =
      let e : word 1 % 4 ≡ 1 = omega arith in
      ap (tested 1) e ∙ within_room 1 s 1 g k (omega arith) (omega arith) lg ∙ rw (zero_below_one third)
  packed_good_lem (suc (suc zero)) k ls lg =
      let e : word 2 % 4 ≡ 2 = omega arith in
      ap (tested 2) e ∙ within_room 2 s 1 g k (omega arith) (omega arith) lg ∙ rw (zero_below_one third)
  packed_good_lem (suc (suc (suc zero))) k ls lg =
      let e : word 3 % 4 ≡ 3 = omega arith in
      ap (tested 3) e ∙ within_room 3 s s g k (omega arith) (omega arith) lg
  packed_good_lem (suc (suc (suc (suc n)))) k ls lg =
      let kind = suc (suc (suc (suc n))) in
      same_test (packed_good (rooms s g) (word kind)) (slot_good s g kind from to third p)
      (λ e. let low = clear_below kind from to third p k f t h (omega arith) (and_both (clear slot_mask (word kind)) _ e).0 in absurd (omega arith))
      (λ e. true_not_false (sym e ∙ simp (ne_eqb kind 0 (λ z. omega arith), lt-leb kind 3 (omega arith))))

-- a room is far below 2 ^ 56
pub rooms_low : (s g j : ℕ) → get_or (rooms s g) j 0 < 2199023255552
rooms_low s g zero = omega arith
rooms_low s g (suc zero) = omega arith
rooms_low s g (suc (suc zero)) = omega arith
rooms_low s g (suc (suc (suc zero))) = omega arith
rooms_low s g (suc (suc (suc (suc j)))) = omega arith

-- ---- a slot of a pool of bytes
-- cut to 40 bits eight bytes are the first five
pub eight_cut : (a b c d e f g h : ℕ) → a < 256 → b < 256 → c < 256 → d < 256 → e < 256 → eight a b c d e f g h % 1099511627776 ≡ packed a b c d e
eight_cut a b c d e f g h la lb lc ld le = omega arith

-- the bits that are looked at hold the kind
cut_good : (room : List ℕ) (x : ℕ) → word_good five room x ≡ packed_good room (x % 1099511627776)
cut_good room x =
    let k : x % 4 ≡ x % 1099511627776 % 4 = omega arith in
    ap (λ (k : ℕ). clear slot_mask (x % 1099511627776) && clear slot_mask (x % 1099511627776 + get_or room k 0)) k

-- the test of five bytes by themselves, in the form of the code
pub word_good_lem : (s g from to third p : ℕ) → from < 256 → to < 256 → third < 256 → p < 256 → (kind : ℕ) → kind < 256 → s ≤ 64 → g ≤ 256
    → word_good five (rooms s g) (packed kind from to third p) ≡ slot_good s g kind from to third p
word_good_lem s g from to third p f t h q kind k ls lg =
    let whole : packed kind from to third p % 1099511627776 ≡ packed kind from to third p = omega arith in
    cut_good (rooms s g) (packed kind from to third p) ∙ ap (packed_good (rooms s g)) whole ∙ packed_good_lem s g from to third p f t h q kind k ls lg

module _ (pool : List ℕ) (byte : (j : ℕ) → get_or pool j 0 < 256) where
  pub slot_cut : (i : ℕ) → eight_at pool (i * 5) % 1099511627776 ≡ at_slot 5 packed pool i
  slot_cut i = eight_cut _ _ _ _ _ _ _ _ (byte (i * 5)) (byte (i * 5 + 1)) (byte (i * 5 + 2)) (byte (i * 5 + 3)) (byte (i * 5 + 4))

  five_good : (room : List ℕ) (i : ℕ) → good_at five room pool i ≡ packed_good room (at_slot 5 packed pool i)
  five_good room i = cut_good room (number_at five pool i) ∙ ap (packed_good room) (slot_cut i)

  slot_good_lem : (s g : ℕ) → s ≤ 64 → g ≤ 256 → (i : ℕ) → good_at five (rooms s g) pool i ≡ at_slot 5 (slot_good s g) pool i
  slot_good_lem s g ls lg i =
      five_good (rooms s g) i ∙ packed_good_lem s g _ _ _ _ (byte (i * 5 + 1)) (byte (i * 5 + 2)) (byte (i * 5 + 3)) (byte (i * 5 + 4)) _ (byte (i * 5)) ls lg

  all_fives : (s g : ℕ) → s ≤ 64 → g ≤ 256 → every (slots_of 5 pool) (good_at five (rooms s g) pool) ≡ all_slots_good 5 s g pool
  unfolding all_slots_good
  all_fives s g ls lg = (λ w. every (slots_of 5 pool) (λ k. slot_good_lem s g ls lg k w))

  kind_kept : (room : List ℕ) (i : ℕ) → good_at five room pool i ≡ true → counted_at five pool i ≡ empty_at 5 pool i
  kind_kept room i e =
      let x = at_slot 5 packed pool i in
      let kind = get_or pool (i * 5) 0 in
      let low = clear_below kind _ _ _ _ (byte (i * 5)) (byte (i * 5 + 1)) (byte (i * 5 + 2)) (byte (i * 5 + 3)) (omega (arith, byte (i * 5 + 4))) (and_both (clear slot_mask x) _ (sym (five_good room i) ∙ e)).0 in
      let q : number_at five pool i % 4 ≡ kind = omega (arith, low.low_kind) in
      ap (λ (k : ℕ). eqb k 0) q

pub five_sound : (s g : ℕ) → s ≤ 64 → g ≤ 256 → Sound five s g (rooms s g)
five_sound s g ls lg = record {
  tested = λ pool byte. all_fives pool byte s g ls lg;
  counted = λ pool byte i. kind_kept pool byte (rooms s g) i;
}
