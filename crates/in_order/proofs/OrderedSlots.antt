-- A message stored in a slot of seven bytes reads back with its number, and every other slot reads as before.
use Prim.Native.Nat.{ℕ, ◌+◌, ◌*◌, ◌/◌, ◌%◌, ◌≤◌, ◌<◌}
use mathlib.Core.Path.{◌≡◌, refl}
use mathlib.Core.Logic.{◌≢◌}
use mathlib.Core.Bool.{true}
use mathlib.Core.List.{List, [], ◌∷◌}
use native.Mathlib.Decide.{ℕ_discrete}
use native.Mathlib.Nat.{add-zero}
use native.Mathlib.Omega.{arith}
use lib.ListN.{length, get_or, replicate, get_or-append}
use lib.Seq.{sets, length-sets}
use Rattle.model.specs.declared.Posted.{Posted}
use Rattle.model.specs.declared.Posted.TheVariants.{Copy, Dec as Decr, IncDec, Nothing}
use Rattle.model.specs.Messages.{slot_of, is_nothing}
use Rattle.model.specs.Laws.{with_slot, Inside}
use Rattle.model.specs.Tables.{slots_of, all_slots_good, message_at}
use Rattle.in_order.specs.Ordered.{number_at, numbered_slot, number_good, all_numbers_good}
use Rattle.model.proofs.QuestionLaws.{every_at, every_all}
use Rattle.model.proofs.SlotLaws.{inside_a_run, run_leaves_other_slot, five_bytes, run_in_slot_changes_one_message, run_in_slot_keeps_slots_good}
use Rattle.model.proofs.PartLaws.{zeros_at}

-- ---- seven bytes: a message's five, then the number's two
seven_bytes : (m : Posted) (n : ℕ) → length (numbered_slot m n) ≡ 7
seven_bytes (Copy a b p) n = refl
seven_bytes (Decr a b p) n = refl
seven_bytes (IncDec a b c p) n = refl
seven_bytes Nothing n = refl

starts : (m : Posted) (n k : ℕ) → k < 5 → get_or (numbered_slot m n) k 0 ≡ get_or (slot_of m) k 0
starts m n k lk = get_or-append (slot_of m) (n / 256 ∷ n % 256 ∷ []) 0 k (omega (arith, five_bytes m))

number_bytes : (m : Posted) (n : ℕ) → (get_or (numbered_slot m n) 5 0 ≡ n / 256) × (get_or (numbered_slot m n) 6 0 ≡ n % 256)
number_bytes (Copy a b p) n = (refl, refl)
number_bytes (Decr a b p) n = (refl, refl)
number_bytes (IncDec a b c p) n = (refl, refl)
number_bytes Nothing n = (refl, refl)

-- one slot alone
number_good_lem : (m : Posted) (n : ℕ) → (is_nothing m ≡ true → n ≡ 0) → number_good (numbered_slot m n) 0 ≡ true
number_good_lem (Copy a b p) n z = refl
number_good_lem (Decr a b p) n z = refl
number_good_lem (IncDec a b c p) n z = refl
number_good_lem Nothing n z = rw (z refl)

-- ---- stored in slot i
module _ (l : List ℕ) (i : ℕ) (m : Posted) (n : ℕ) where
  abbrev stored : List ℕ
  stored = sets l (i * 7) (numbered_slot m n)

  byte_back : (k : ℕ) → k < 7 → i * 7 + 7 ≤ length l → get_or stored (i * 7 + k) 0 ≡ get_or (numbered_slot m n) k 0
  byte_back k lk h = inside_a_run (numbered_slot m n) l (i * 7) k (omega (arith, seven_bytes m n)) (omega (arith, seven_bytes m n))

  byte_other : (k j : ℕ) → k < 7 → j ≢ i → get_or stored (j * 7 + k) 0 ≡ get_or l (j * 7 + k) 0
  byte_other k j lk apart = run_leaves_other_slot 7 (numbered_slot m n) l i j k (seven_bytes m n) lk apart

  -- the number of slot i is n, that of another slot as before
  pub number_reads_back : i * 7 + 7 ≤ length l → number_at stored i ≡ n
  number_reads_back h = omega (arith, byte_back 5 (omega arith) h, byte_back 6 (omega arith) h, (number_bytes m n).0, (number_bytes m n).1)

  pub number_of_other : (j : ℕ) → j ≢ i → number_at stored j ≡ number_at l j
  number_of_other j apart = omega (arith, byte_other 5 j (omega arith) apart, byte_other 6 j (omega arith) apart)

  -- its message alone is changed
  pub numbered_store_in_slot : i * 7 + 7 ≤ length l → (j : ℕ) → message_at 7 stored j ≡ with_slot (message_at 7 l) i m j
  numbered_store_in_slot = run_in_slot_changes_one_message 7 (omega arith) l (numbered_slot m n) i (seven_bytes m n) m (starts m n)

  -- a message whose names are in range leaves a pool good
  pub numbered_store_keeps_slots_good : i * 7 + 7 ≤ length l → (s g : ℕ) → Inside s g m → all_slots_good 7 s g l ≡ true → all_slots_good 7 s g stored ≡ true
  numbered_store_keeps_slots_good = run_in_slot_keeps_slots_good 7 (omega arith) l (numbered_slot m n) i (seven_bytes m n) m (starts m n)

  -- and its numbers, where no message has number 0
  pub numbered_store_keeps_numbers_good : i * 7 + 7 ≤ length l → (is_nothing m ≡ true → n ≡ 0) → all_numbers_good l ≡ true → all_numbers_good stored ≡ true
  unfolding all_numbers_good
  numbered_store_keeps_numbers_good h z e =
      rw (length-sets l (i * 7) (numbered_slot m n)) (every_all (number_good stored) (slots_of 7 l) (λ j lj. go j lj (ℕ_discrete j i)))
    where
      go : (j : ℕ) → j < slots_of 7 l → Dec (j ≡ i) → number_good stored j ≡ true
      go j lj (yes q) =
          let first = rw (add-zero (i * 7)) at (byte_back 0 (omega arith) h) in
          rw (q, first, byte_back 5 (omega arith) h, byte_back 6 (omega arith) h) (number_good_lem m n z)
      go j lj (no apart) =
          let first = rw (add-zero (j * 7)) at (byte_other 0 j (omega arith) apart) in
          rw (first, byte_other 5 j (omega arith) apart, byte_other 6 j (omega arith) apart) (every_at (number_good l) (slots_of 7 l) j lj e)

-- ---- zeros
pub zero_numbers_good : (n : ℕ) → all_numbers_good (replicate n 0) ≡ true
unfolding all_numbers_good
zero_numbers_good n = every_all (number_good (replicate n 0)) (slots_of 7 (replicate n 0)) (λ i l. rw (zeros_at n (i * 7), zeros_at n (i * 7 + 5), zeros_at n (i * 7 + 6)))
