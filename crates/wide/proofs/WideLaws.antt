-- The test of a slot of seven bytes as one number is the plain test: its five bytes as those of five, and its number where it is empty.
use Prim.Native.Nat.{ℕ, zero, suc, ◌+◌, ◌*◌, ◌/◌, ◌%◌, ◌≤◌, ◌<◌}
use mathlib.Core.Path.{◌≡◌, refl, sym, ap, ap₂, ◌∙◌}
use mathlib.Core.Bool.{Bool, true, ◌&&◌, cond}
use mathlib.Core.List.{List}
use native.Mathlib.Omega.{arith}
use lib.Bits.{bit_and, and_block, and_high, and_mask, and_le_r}
use lib.Dec.{eqb}
use lib.ListN.{get_or}
use borrow.Author.Tests.{eqb-true, ne_eqb, lt-leb}
use Rattle.model.specs.Questions.{every}
use Rattle.model.specs.Tables.{at_slot, slot_good, slots_of, empty_at, all_slots_good}
use Rattle.in_order.specs.Ordered.{number_good, all_numbers_good}
use Rattle.model.proofs.TestLaws.{same_test, true_not_false, and_both, and_true}
use Rattle.scan.specs.Word.{packed, eight, clear, slot_mask, rooms, Low}
use Rattle.scan.specs.Form.{number_at, word_good, good_at, counted_at, Sound}
use Rattle.scan.proofs.FieldLaws.{masked_block, masked, no_field}
use Rattle.scan.proofs.FiveLaws.{packed_good_lem, rooms_low, eight_cut}
use Rattle.scan.proofs.EightLaws.{both}
use Rattle.wide.proofs.KeepLaws.{full_keep, same_kept, kind_kept}
use Rattle.wide.specs.Wide.{keeps, wide_mask, wide_rooms, looked, seven}

-- ---- sums within 64 bits
keeps_low : (j : ℕ) → get_or keeps j 0 < 72057594037927936
keeps_low zero = omega arith
keeps_low (suc zero) = omega arith
keeps_low (suc (suc zero)) = omega arith
keeps_low (suc (suc (suc zero))) = omega arith
keeps_low (suc (suc (suc (suc j)))) = omega arith

pub kept_low : (keep : List ℕ) (x j : ℕ) → keep ≡ keeps → bit_and x (get_or keep j 0) < 72057594037927936
kept_low keep x j e = rw e (omega (arith, and_le_r x (get_or keeps j 0), keeps_low j))

pub rooms_wide : (s g : ℕ) → Low (wide_rooms s g)
rooms_wide s g zero = omega arith
rooms_wide s g (suc zero) = omega arith
rooms_wide s g (suc (suc zero)) = omega arith
rooms_wide s g (suc (suc (suc zero))) = omega arith
rooms_wide s g (suc (suc (suc (suc j)))) = omega arith

-- ---- the test of what is looked at, with a room
abbrev tested : ℕ → ℕ → Bool
tested y room = clear wide_mask y && clear wide_mask (y + room)

abbrev pub wide_good : List ℕ → ℕ → Bool
wide_good room x = word_good seven room x

-- ---- the byte above seven does not matter
seven_same : (room : List ℕ) (x : ℕ) → wide_good room x ≡ wide_good room (x % 72057594037927936)
seven_same room x =
    let y = x % 72057594037927936 in
    let q : x % 4 ≡ y % 4 = omega arith in
    ap₂ (λ (n k : ℕ). tested n (get_or room k 0)) (same_kept (x % 4) x (omega arith) ∙ ap (λ (k : ℕ). bit_and y (get_or keeps k 0)) q) q

seven_cut : (a b c d e f g h : ℕ) → a < 256 → b < 256 → c < 256 → d < 256 → e < 256 → f < 256 → g < 256
    → eight a b c d e f g h % 72057594037927936 ≡ eight a b c d e f g 0
seven_cut a b c d e f g h la lb lc ld le lf lg = omega arith

-- ---- the mask below its highest bit, and the highest bit
low_clear : (n : ℕ) → n < 72057594037927936 → clear wide_mask n ≡ clear slot_mask n
low_clear n l =
    let e : n ≡ 0 * 72057594037927936 + n = omega arith in
    let none : 0 * 72057594037927936 + bit_and n slot_mask ≡ bit_and n slot_mask = omega arith in
    ap (λ (y : ℕ). eqb y 0) (ap (λ (y : ℕ). bit_and y wide_mask) e ∙ and_block 56 0 1 n slot_mask l (omega arith) ∙ none)

clear_low : (n : ℕ) → n < 144115188075855872 → clear wide_mask n ≡ true → n < 72057594037927936
clear_low n l t =
    let a = n / 72057594037927936 in
    let r = n % 72057594037927936 in
    let e : n ≡ a * 72057594037927936 + r = omega arith in
    let m = and_block 56 a 1 r slot_mask (omega arith) (omega arith) in
    let z = sym (ap (λ (y : ℕ). bit_and y wide_mask) e ∙ m) ∙ eqb-true (bit_and n wide_mask) 0 t in
    omega (arith, z, and_mask a 1)

-- ---- the kind shows above 3
below_four : (kind : ℕ) → kind < 256 → kind / 4 % 64 ≡ 0 → kind < 4
below_four kind l z = omega arith

low_kind : (above kind : ℕ) → kind < 256 → above * 256 + kind / 4 % 64 * 4 ≡ 0 → kind < 4
low_kind above kind l e = below_four kind l (omega arith)

clear_kind : (y : ℕ) → clear wide_mask y ≡ true → y % 256 < 4
clear_kind y t =
    let e : y ≡ y / 256 * 256 + y % 256 = omega arith in
    let m = masked_block (y / 256) 281479280099456 (y % 256) 252 (omega arith) (omega arith) refl (and_high (y % 256) 6 2) in
    low_kind (bit_and (y / 256) 281479280099456) (y % 256) (omega arith) (sym (ap (λ (n : ℕ). bit_and n wide_mask) e ∙ m) ∙ eqb-true (bit_and y wide_mask) 0 t)

looked_kind : (room : List ℕ) (x : ℕ) → wide_good room x ≡ true → x % 256 < 4
looked_kind room x t =
    let l = clear_kind (looked x) (and_both (clear wide_mask (looked x)) _ t).0 in
    omega (arith, l, kind_kept (x % 4) x (omega arith))

-- ---- one slot of bytes
zero_field : (n : ℕ) → n + 127 < 256 → (n + 127) / 128 % 2 ≡ 0 → n ≡ 0
zero_field n l e = omega arith

module _ (s g from to third p high low : ℕ) (f : from < 256) (t : to < 256) (h : third < 256) (q : p < 256) (u : high < 256) (v : low < 256) where
  abbrev word : ℕ → ℕ
  word kind = packed kind from to third p

  abbrev bytes : ℕ → ℕ
  bytes kind = eight kind from to third p high low 0

  abbrev number : ℕ → Bool
  number kind = cond (eqb kind 0) (eqb high 0 && eqb low 0) true

  -- a full one: five bytes are looked at
  full_good : (kind j : ℕ) → kind < 256 → j < 3 → bytes kind % 4 ≡ suc j → get_or (wide_rooms s g) (suc j) 0 ≡ get_or (rooms s g) (suc j) 0
      → s ≤ 64 → g ≤ 256 → wide_good (wide_rooms s g) (bytes kind) ≡ slot_good s g kind from to third p
  full_good kind j k l e er ls lg =
      let x = bytes kind in
      let y = word kind in
      let e' : y % 4 ≡ suc j = omega arith in
      let cut : looked x ≡ y = ap (λ (i : ℕ). bit_and x (get_or keeps i 0)) e ∙ ap (bit_and x) (full_keep j l) ∙ and_mask x 40 ∙ eight_cut kind from to third p high low 0 k f t h q in
      let room : get_or (wide_rooms s g) (x % 4) 0 ≡ get_or (rooms s g) (y % 4) 0 = ap (λ (i : ℕ). get_or (wide_rooms s g) i 0) e ∙ er ∙ sym (ap (λ (i : ℕ). get_or (rooms s g) i 0) e') in
      ap₂ tested cut room
      ∙ ap₂ ◌&&◌ (low_clear y (omega arith)) (low_clear (y + get_or (rooms s g) (y % 4) 0) (omega (arith, rooms_low s g (y % 4))))
      ∙ packed_good_lem s g from to third p f t h q kind k ls lg

  -- an empty one: all seven are
  zeros : tested (bytes 0) (get_or (wide_rooms s g) 0 0) ≡ true → (from ≡ 0) × (to ≡ 0) × (third ≡ 0) × (p ≡ 0) × (high ≡ 0) × (low ≡ 0)
  zeros tests =
      let x = bytes 0 in
      let sum = x + get_or (wide_rooms s g) 0 0 in
      let b = and_both (clear wide_mask x) (clear wide_mask sum) tests in
      let n = high + low * 256 in
      let p' = p + n * 256 in
      let e : x ≡ packed 0 from to third p' = omega arith in
      let first = sym (ap (clear slot_mask) e) ∙ sym (low_clear x (omega arith)) ∙ b.0 in
      let z = no_field (p' / 256 % 2) (third / 128 % 2) (to / 128 % 2) (from / 128 % 2) 0 (sym (masked 0 from to third p' (omega arith) f t h) ∙ eqb-true (bit_and (packed 0 from to third p') slot_mask) 0 first) in
      let under = clear_low sum (omega arith) b.1 in
      let p'' = p + 255 + (n + 65534) * 256 in
      let e' : sum ≡ packed 0 (from + 127) (to + 127) (third + 127) p'' = omega arith in
      let second = sym (ap (clear slot_mask) e') ∙ sym (low_clear sum under) ∙ b.1 in
      let no_number : n ≡ 0 = omega (arith, under, z.0) in
      let z' = no_field (p'' / 256 % 2) ((third + 127) / 128 % 2) ((to + 127) / 128 % 2) ((from + 127) / 128 % 2) 0
      (sym (masked 0 (from + 127) (to + 127) (third + 127) p'' (omega arith) (omega (arith, z.3)) (omega (arith, z.2)) (omega (arith, z.1)))
      ∙ eqb-true (bit_and (packed 0 (from + 127) (to + 127) (third + 127) p'') slot_mask) 0 second) in
      (zero_field from (omega (arith, z.3)) z'.3, zero_field to (omega (arith, z.2)) z'.2, zero_field third (omega (arith, z.1)) z'.1, omega (arith, z'.0, no_number), omega arith, omega arith)

  empty_good : wide_good (wide_rooms s g) (bytes 0) ≡ (slot_good s g 0 from to third p && (eqb high 0 && eqb low 0))
  empty_good =
      let x = bytes 0 in
      let e : x % 4 ≡ 0 = omega arith in
      let whole : x % 72057594037927936 ≡ x = omega arith in
      let cut : looked x ≡ x = ap (λ (i : ℕ). bit_and x (get_or keeps i 0)) e ∙ and_mask x 56 ∙ whole in
      ap₂ tested cut (ap (λ (i : ℕ). get_or (wide_rooms s g) i 0) e)
      ∙ same_test (tested x (get_or (wide_rooms s g) 0 0)) (slot_good s g 0 from to third p && (eqb high 0 && eqb low 0))
      (λ tests. let z = zeros tests in rw (z.0, z.1, z.2, z.3, z.4, z.5))
      (λ tests.
      let a = and_both (slot_good s g 0 from to third p) (eqb high 0 && eqb low 0) tests in
      let numbers = and_both (eqb high 0) (eqb low 0) a.1 in
      let a3 = and_both (eqb from 0 && eqb to 0 && eqb third 0) (eqb p 0) a.0 in
      let a2 = and_both (eqb from 0 && eqb to 0) (eqb third 0) a3.0 in
      let a1 = and_both (eqb from 0) (eqb to 0) a2.0 in
      rw (eqb-true from 0 a1.0, eqb-true to 0 a1.1, eqb-true third 0 a2.1, eqb-true p 0 a3.1, eqb-true high 0 numbers.0, eqb-true low 0 numbers.1))

  wide_good_lem : (kind : ℕ) → kind < 256 → s ≤ 64 → g ≤ 256 → wide_good (wide_rooms s g) (bytes kind) ≡ (slot_good s g kind from to third p && number kind)
  wide_good_lem zero k ls lg = empty_good
  wide_good_lem (suc zero) k ls lg = full_good 1 0 k (omega arith) (omega arith) refl ls lg ∙ sym (and_true (slot_good s g 1 from to third p))
  wide_good_lem (suc (suc zero)) k ls lg = full_good 2 1 k (omega arith) (omega arith) refl ls lg ∙ sym (and_true (slot_good s g 2 from to third p))
  wide_good_lem (suc (suc (suc zero))) k ls lg = full_good 3 2 k (omega arith) (omega arith) refl ls lg ∙ sym (and_true (slot_good s g 3 from to third p))
  wide_good_lem (suc (suc (suc (suc n)))) k ls lg =
      let kind = suc (suc (suc (suc n))) in
      same_test (wide_good (wide_rooms s g) (bytes kind)) (slot_good s g kind from to third p && number kind)
      (λ e. let l = looked_kind (wide_rooms s g) (bytes kind) e in absurd (omega arith))
      (λ e.
      let good = (and_both (slot_good s g kind from to third p) (number kind) e).0 in
      true_not_false (sym good ∙ simp (ne_eqb kind 0 (λ z. omega arith), lt-leb kind 3 (omega arith))))

-- ---- a slot of a pool of bytes
module _ (pool : List ℕ) (byte : (j : ℕ) → get_or pool j 0 < 256) where
  -- the seven bytes of slot i as one number
  abbrev pub seven_at : ℕ → ℕ
  seven_at i =
      eight (get_or pool (i * 7) 0) (get_or pool (i * 7 + 1) 0) (get_or pool (i * 7 + 2) 0) (get_or pool (i * 7 + 3) 0)
      (get_or pool (i * 7 + 4) 0) (get_or pool (i * 7 + 5) 0) (get_or pool (i * 7 + 6) 0) 0

  pub cut_at : (i : ℕ) → number_at seven pool i % 72057594037927936 ≡ seven_at i
  cut_at i = seven_cut _ _ _ _ _ _ _ _ (byte (i * 7)) (byte (i * 7 + 1)) (byte (i * 7 + 2)) (byte (i * 7 + 3)) (byte (i * 7 + 4)) (byte (i * 7 + 5)) (byte (i * 7 + 6))

  -- so they are looked at alone, and hold the kind
  pub alone_at : (i : ℕ) {x : ℕ} → x ≡ seven_at i → (x % 4 ≡ number_at seven pool i % 4) × (looked x ≡ looked (number_at seven pool i))
  alone_at i e =
      let n = number_at seven pool i in
      let cut : n % 72057594037927936 ≡ _ = cut_at i ∙ sym e in
      let k : n % 4 ≡ n % 72057594037927936 % 4 = omega arith in (
        sym (k ∙ ap (λ (y : ℕ). y % 4) cut),
        sym (same_kept (n % 4) n (omega arith) ∙ ap₂ (λ (y j : ℕ). bit_and y (get_or keeps j 0)) cut (k ∙ ap (λ (y : ℕ). y % 4) cut)),
      )

  -- what is read with the byte that follows
  pub seven_good_lem : (room : List ℕ) (i : ℕ) → good_at seven room pool i ≡ wide_good room (seven_at i)
  seven_good_lem room i = seven_same room (number_at seven pool i) ∙ ap (wide_good room) (cut_at i)

  slot_good_lem : (s g i : ℕ) → s ≤ 64 → g ≤ 256 → good_at seven (wide_rooms s g) pool i ≡ (at_slot 7 (slot_good s g) pool i && number_good pool i)
  slot_good_lem s g i ls lg =
      seven_good_lem (wide_rooms s g) i
      ∙ wide_good_lem s g _ _ _ _ _ _ (byte (i * 7 + 1)) (byte (i * 7 + 2)) (byte (i * 7 + 3)) (byte (i * 7 + 4)) (byte (i * 7 + 5)) (byte (i * 7 + 6)) _ (byte (i * 7)) ls lg

  -- every slot and every number is good where every slot as one number is
  sevens_good : (s g : ℕ) → s ≤ 64 → g ≤ 256 → every (slots_of 7 pool) (good_at seven (wide_rooms s g) pool) ≡ (all_slots_good 7 s g pool && all_numbers_good pool)
  unfolding all_slots_good all_numbers_good
  sevens_good s g ls lg =
      let n = slots_of 7 pool in
      (λ w. every n (λ k. slot_good_lem s g k ls lg w)) ∙ both (at_slot 7 (slot_good s g) pool) (number_good pool) n

  -- where all slots are good, those that are counted are the empty ones
  kind_read : (room : List ℕ) (i : ℕ) → good_at seven room pool i ≡ true → counted_at seven pool i ≡ empty_at 7 pool i
  kind_read room i e =
      let l = looked_kind room (number_at seven pool i) e in
      let k : number_at seven pool i % 4 ≡ get_or pool (i * 7) 0 = omega (arith, l, byte (i * 7)) in
      ap (λ (n : ℕ). eqb n 0) k

pub seven_sound : (s g : ℕ) → s ≤ 64 → g ≤ 256 → Sound seven s g (wide_rooms s g)
seven_sound s g ls lg = record {
  tested = λ pool byte. sevens_good pool byte s g ls lg;
  counted = λ pool byte i. kind_read pool byte (wide_rooms s g) i;
}
