-- A message stored in a slot reads back, and every other slot reads as before.
use Prim.Native.Nat.{ℕ, zero, suc, ◌+◌, ◌*◌, ◌≤◌, ◌<◌}
use mathlib.Core.Path.{◌≡◌, refl, sym, ◌∙◌}
use mathlib.Core.Logic.{◌≢◌}
use mathlib.Core.Bool.{Bool, true, ◌&&◌, cond}
use mathlib.Core.List.{List, [], ◌∷◌}
use native.Mathlib.Decide.{ℕ_discrete, dec_lt}
use native.Mathlib.Nat.{not-suc-le-zero, add-zero, suc-mul, mul-le-mul_right}
use native.Mathlib.Omega.{arith}
use lib.Dec.{eqb, leb, ltb}
use lib.ListN.{length, get_or, set, length-set}
use lib.Seq.{sets, length-sets, get_or-set_same, get_or-set_other}
use borrow.Author.Tests.{eqb-true, ne_eqb, leb-true, ltb-true, lt-ltb}
use Rattle.model.specs.declared.Posted.{Posted}
use Rattle.model.specs.declared.Posted.TheVariants.{Copy, Dec as Decr, IncDec, Nothing}
use Rattle.model.specs.Messages.{slot_of, message_of, is_nothing}
use Rattle.model.specs.Laws.{with_slot, Inside}
use Rattle.model.specs.Tables.{at_slot, slot_good, slots_of, all_slots_good, message_at}
use Rattle.model.proofs.TestLaws.{and_both}
use Rattle.model.proofs.QuestionLaws.{every_at, every_all}
use Rattle.model.proofs.PlaceLaws.{changed_slot, other_slot}

-- ---- a run of stores
pub below_a_run : (vs l : List ℕ) (i j : ℕ) → j < i → get_or (sets l i vs) j 0 ≡ get_or l j 0
below_a_run [] l i j h = refl
below_a_run (v ∷ vs) l i j h = below_a_run vs (set l i v) (suc i) j (omega arith) ∙ get_or-set_other l i j v 0 (omega arith)

pub above_a_run : (vs l : List ℕ) (i j : ℕ) → i + length vs ≤ j → get_or (sets l i vs) j 0 ≡ get_or l j 0
above_a_run [] l i j h = refl
above_a_run (v ∷ vs) l i j h = above_a_run vs (set l i v) (suc i) j (omega arith) ∙ get_or-set_other l i j v 0 (omega arith)

pub inside_a_run : (vs l : List ℕ) (i k : ℕ) → i + length vs ≤ length l → k < length vs → get_or (sets l i vs) (i + k) 0 ≡ get_or vs k 0
inside_a_run [] l i k h lk = absurd (not-suc-le-zero lk)
inside_a_run (v ∷ vs) l i zero h lk = rw (add-zero i) (below_a_run vs (set l i v) (suc i) i (omega arith) ∙ get_or-set_same l i v 0 (omega arith))
inside_a_run (v ∷ vs) l i (suc k) h lk =
    let e : i + suc k ≡ suc i + k = omega arith in
    rw e (inside_a_run vs (set l i v) (suc i) k (omega (arith, length-set l i v)) (omega arith))

-- a run of w bytes in slot i leaves every other slot of w bytes
pub run_leaves_other_slot : (w : ℕ) (vs l : List ℕ) (i j k : ℕ) → length vs ≡ w → k < w → j ≢ i → get_or (sets l (i * w) vs) (j * w + k) 0 ≡ get_or l (j * w + k) 0
run_leaves_other_slot w vs l i j k long lk apart = go (dec_lt j i)
  where
    go : Dec (j < i) → get_or (sets l (i * w) vs) (j * w + k) 0 ≡ get_or l (j * w + k) 0
    go (yes less) = below_a_run vs l (i * w) (j * w + k) (omega (arith, suc-mul j w, mul-le-mul_right w less))
    go (no not-less) =
        let more : i < j = omega arith in
        above_a_run vs l (i * w) (j * w + k) (omega (arith, suc-mul i w, mul-le-mul_right w more))

-- ---- five bytes stored in slot i
pub five_bytes : (m : Posted) → length (slot_of m) ≡ 5
five_bytes (Copy a b p) = refl
five_bytes (Decr a b p) = refl
five_bytes (IncDec a b c p) = refl
five_bytes Nothing = refl

-- the bytes of a message one by one
pub one_by_one : (m : Posted) {l : List ℕ} → l ≡ slot_of m → get_or l 0 0 ∷ get_or l 1 0 ∷ get_or l 2 0 ∷ get_or l 3 0 ∷ get_or l 4 0 ∷ [] ≡ slot_of m
one_by_one m e = rw e (go m)
  where
    go : (m : Posted) → let l = slot_of m in get_or l 0 0 ∷ get_or l 1 0 ∷ get_or l 2 0 ∷ get_or l 3 0 ∷ get_or l 4 0 ∷ [] ≡ l
    go (Copy from to p) = refl
    go (Decr from to p) = refl
    go (IncDec from to third p) = refl
    go Nothing = refl

-- as a message, and as a good slot where its names are in range
read_back : (m : Posted) → let b = slot_of m in message_of (get_or b 0 0) (get_or b 1 0) (get_or b 2 0) (get_or b 3 0) (get_or b 4 0) ≡ m
unfolding message_of
read_back (Copy from to p) = refl
read_back (Decr from to p) = refl
read_back (IncDec from to third p) = refl
read_back Nothing = refl

good_bytes : (s g : ℕ) (m : Posted) → Inside s g m → let b = slot_of m in slot_good s g (get_or b 0 0) (get_or b 1 0) (get_or b 2 0) (get_or b 3 0) (get_or b 4 0) ≡ true
good_bytes s g (Copy a b p) w = rw (lt-ltb a s w.0, lt-ltb b s w.1, lt-ltb p g w.2)
good_bytes s g (Decr a b p) w = rw (lt-ltb a s w.0, lt-ltb b s w.1, lt-ltb p g w.2)
good_bytes s g (IncDec a b c p) w = rw (lt-ltb a s w.0, lt-ltb b s w.1, lt-ltb c s w.2, lt-ltb p g w.3)
good_bytes s g Nothing w = refl

-- ---- a run of w bytes in slot i, where slots are w bytes wide
module _ (w : ℕ) (wide : 5 ≤ w) (l vs : List ℕ) (i : ℕ) (long : length vs ≡ w) where
  -- it reads back
  pub run_in_slot_reads_back : {A : Type 0} (f : ℕ → ℕ → ℕ → ℕ → ℕ → A) → i * w + w ≤ length l
      → at_slot w f (sets l (i * w) vs) i ≡ f (get_or vs 0 0) (get_or vs 1 0) (get_or vs 2 0) (get_or vs 3 0) (get_or vs 4 0)
  run_in_slot_reads_back f h =
      let at : (k : ℕ) → k < 5 → get_or (sets l (i * w) vs) (i * w + k) 0 ≡ get_or vs k 0 = λ k lk. inside_a_run vs l (i * w) k (omega arith) (omega arith) in
      let first : get_or (sets l (i * w) vs) (i * w) 0 ≡ get_or vs 0 0 = rw (add-zero (i * w)) at (at 0 (omega arith)) in
      λ t. f (first t) (at 1 (omega arith) t) (at 2 (omega arith) t) (at 3 (omega arith) t) (at 4 (omega arith) t)

  -- every other slot reads as before
  pub run_in_slot_leaves_others : {A : Type 0} (f : ℕ → ℕ → ℕ → ℕ → ℕ → A) (j : ℕ) → j ≢ i → at_slot w f (sets l (i * w) vs) j ≡ at_slot w f l j
  run_in_slot_leaves_others f j apart =
      let at : (k : ℕ) → k < 5 → get_or (sets l (i * w) vs) (j * w + k) 0 ≡ get_or l (j * w + k) 0 = λ k lk. run_leaves_other_slot w vs l i j k long (omega arith) apart in
      let first : get_or (sets l (i * w) vs) (j * w) 0 ≡ get_or l (j * w) 0 = rw (add-zero (j * w)) at (at 0 (omega arith)) in
      λ t. f (first t) (at 1 (omega arith) t) (at 2 (omega arith) t) (at 3 (omega arith) t) (at 4 (omega arith) t)

  -- ---- whose first five bytes are those of a message
  module _ (m : Posted) (starts : (k : ℕ) → k < 5 → get_or vs k 0 ≡ get_or (slot_of m) k 0) (h : i * w + w ≤ length l) where
    message_in_slot_reads_back : {A : Type 0} (f : ℕ → ℕ → ℕ → ℕ → ℕ → A)
        → let b = slot_of m in at_slot w f (sets l (i * w) vs) i ≡ f (get_or b 0 0) (get_or b 1 0) (get_or b 2 0) (get_or b 3 0) (get_or b 4 0)
    message_in_slot_reads_back f =
        run_in_slot_reads_back f h
        ∙ (λ t. f (starts 0 (omega arith) t) (starts 1 (omega arith) t) (starts 2 (omega arith) t) (starts 3 (omega arith) t) (starts 4 (omega arith) t))

    -- it changes the message of that slot alone
    pub run_in_slot_changes_one_message : (j : ℕ) → message_at w (sets l (i * w) vs) j ≡ with_slot (message_at w l) i m j
    run_in_slot_changes_one_message j = go (ℕ_discrete j i)
      where
        go : Dec (j ≡ i) → message_at w (sets l (i * w) vs) j ≡ with_slot (message_at w l) i m j
        go (yes e) = rw e (message_in_slot_reads_back message_of ∙ read_back m ∙ sym (changed_slot (message_at w l) i m))
        go (no apart) = run_in_slot_leaves_others message_of j apart ∙ sym (other_slot (message_at w l) i m j apart)

    -- it makes a good slot where the names are in range
    pub run_in_slot_is_good : (s g : ℕ) → Inside s g m → at_slot w (slot_good s g) (sets l (i * w) vs) i ≡ true
    run_in_slot_is_good s g r = message_in_slot_reads_back (slot_good s g) ∙ good_bytes s g m r

    -- and leaves a pool good
    pub run_in_slot_keeps_slots_good : (s g : ℕ) → Inside s g m → all_slots_good w s g l ≡ true → all_slots_good w s g (sets l (i * w) vs) ≡ true
    unfolding all_slots_good
    run_in_slot_keeps_slots_good s g r e =
        rw (length-sets l (i * w) vs) (every_all (at_slot w (slot_good s g) (sets l (i * w) vs)) (slots_of w l) (λ j lj. go j lj (ℕ_discrete j i)))
      where
        go : (j : ℕ) → j < slots_of w l → Dec (j ≡ i) → at_slot w (slot_good s g) (sets l (i * w) vs) j ≡ true
        go j lj (yes q) = rw q (run_in_slot_is_good s g r)
        go j lj (no apart) = run_in_slot_leaves_others (slot_good s g) j apart ∙ every_at (at_slot w (slot_good s g) l) (slots_of w l) j lj e

-- ---- a message stored in a slot of five bytes
module _ (l : List ℕ) (i : ℕ) (m : Posted) (h : i * 5 + 5 ≤ length l) where
  -- it changes that slot alone
  pub store_in_slot : (j : ℕ) → message_at 5 (sets l (i * 5) (slot_of m)) j ≡ with_slot (message_at 5 l) i m j
  store_in_slot = run_in_slot_changes_one_message 5 (omega arith) l (slot_of m) i (five_bytes m) m (λ k lk. refl) h

  -- where its names are in range it leaves a pool good
  pub store_keeps_slots_good : (s g : ℕ) → Inside s g m → all_slots_good 5 s g l ≡ true → all_slots_good 5 s g (sets l (i * 5) (slot_of m)) ≡ true
  store_keeps_slots_good = run_in_slot_keeps_slots_good 5 (omega arith) l (slot_of m) i (five_bytes m) m (λ k lk. refl) h

-- ---- good slots
-- what a good slot says of its bytes: an empty one has zeros
pub empty_zeros : (from to third p : ℕ) → (eqb from 0 && eqb to 0 && eqb third 0 && eqb p 0) ≡ true → (from ≡ 0) × (to ≡ 0) × (third ≡ 0) × (p ≡ 0)
empty_zeros from to third p e =
    let e1 = and_both (eqb from 0 && eqb to 0 && eqb third 0) (eqb p 0) e in
    let e2 = and_both (eqb from 0 && eqb to 0) (eqb third 0) e1.0 in
    let e3 = and_both (eqb from 0) (eqb to 0) e2.0 in
    (eqb-true from 0 e3.0, eqb-true to 0 e3.1, eqb-true third 0 e2.1, eqb-true p 0 e1.1)

-- and another
pub record Full (s g kind from to third p : ℕ) : Type 0 where
  pub known_kind : kind ≤ 3
  pub from_site : from < s
  pub to_site : to < s
  pub third_site : cond (eqb kind 3) (ltb third s) (eqb third 0) ≡ true
  pub a_pointer : p < g

pub full : (s g kind from to third p : ℕ) → slot_good s g kind from to third p ≡ true → kind ≢ 0 → Full s g kind from to third p
full s g kind from to third p e n =
    let third_good : Bool = cond (eqb kind 3) (ltb third s) (eqb third 0) in
    let e1 : (leb kind 3 && ltb from s && ltb to s && third_good && ltb p g) ≡ true = rw (ne_eqb kind 0 n) at e in
    let e2 = and_both (leb kind 3 && ltb from s && ltb to s && third_good) (ltb p g) e1 in
    let e3 = and_both (leb kind 3 && ltb from s && ltb to s) third_good e2.0 in
    let e4 = and_both (leb kind 3 && ltb from s) (ltb to s) e3.0 in
    let e5 = and_both (leb kind 3) (ltb from s) e4.0 in
    record {
      known_kind = leb-true kind 3 e5.0;
      from_site = ltb-true from s e5.1;
      to_site = ltb-true to s e4.1;
      third_site = e3.1;
      a_pointer = ltb-true p g e2.1;
    }

-- the names of a good slot's message are in range
pub good_slot_inside : (s g kind from to third p : ℕ) → slot_good s g kind from to third p ≡ true → Inside s g (message_of kind from to third p)
unfolding message_of
good_slot_inside s g zero a b c p e = tt
good_slot_inside s g (suc zero) a b c p e = let f = full s g 1 a b c p e (omega arith) in (f.from_site, f.to_site, f.a_pointer)
good_slot_inside s g (suc (suc zero)) a b c p e = let f = full s g 2 a b c p e (omega arith) in (f.from_site, f.to_site, f.a_pointer)
good_slot_inside s g (suc (suc (suc zero))) a b c p e =
    let f = full s g 3 a b c p e (omega arith) in
    (f.from_site, f.to_site, ltb-true c s f.third_site, f.a_pointer)
good_slot_inside s g (suc (suc (suc (suc k)))) a b c p e = tt

-- a good slot is empty just where it holds no message
pub good_slot_empty : (s g kind from to third p : ℕ) → slot_good s g kind from to third p ≡ true → eqb kind 0 ≡ is_nothing (message_of kind from to third p)
unfolding message_of
good_slot_empty s g zero a b c p e = refl
good_slot_empty s g (suc zero) a b c p e = refl
good_slot_empty s g (suc (suc zero)) a b c p e = refl
good_slot_empty s g (suc (suc (suc zero))) a b c p e = refl
good_slot_empty s g (suc (suc (suc (suc k)))) a b c p e =
    let f = full s g (suc (suc (suc (suc k)))) a b c p e (omega arith) in
    absurd (omega (arith, f.known_kind))
