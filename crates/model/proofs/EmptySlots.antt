-- Document 02, One: an accepted make copy or delete tells how many slots were empty before its post; no other answer tells a count.
use Prim.Native.Nat.{ℕ, zero, suc, ◌+◌, ◌≤◌, ◌<◌}
use mathlib.Core.Path.{◌≡◌, refl, sym, ap, ◌∙◌, subst}
use mathlib.Core.Logic.{◌≢◌, ◌↔◌, inl, inr}
use mathlib.Core.Bool.{Bool, true, false, cond}
use mathlib.Core.List.{List, [], ◌∷◌, ◌++◌}
use native.Mathlib.Omega.{arith}
use Rattle.model.specs.declared.Posted.{Posted}
use Rattle.model.specs.declared.Posted.TheVariants.{Copy, Dec as Decr, Nothing}
use Rattle.model.specs.Answers.{Answer}
use Rattle.model.specs.declared.Call.{Call}
use Rattle.model.specs.declared.Call.TheVariants.{MakeCopy, Receive, Delete, Ask}
use Rattle.model.specs.Refusals.{PoolFull}
use Rattle.model.specs.Questions.{how_many, total}
use Rattle.model.specs.Messages.{is_nothing}
use Rattle.model.specs.Answers.{Outcome, unless}
use Rattle.model.specs.Layout.{Layout}
use Rattle.model.specs.Calls.{lent_refusal, empty_slots, lowest_empty, open_refusal, open_desk, copy_number, copied, make_copy, receive_number, received, receive, delete_number, deleted, delete, ask_number, asked, ask, step}
use Rattle.model.specs.Laws.{Frame, with_slot, Reads, Laws}
use Rattle.model.specs.Transcript.{answer_line}
use Rattle.model.specs.Demands.{Row, ◌because◌, FirstOf, NoSlotEmpty, lent_rows, copy_rows_when, delete_rows_when}
use Rattle.model.proofs.PoolLaws.{total_same, total_of_zeros, term_in_total, total_with_slot}
use Rattle.model.proofs.Exactly.{number_of_unless, copy_exactly, delete_exactly}
use Rattle.model.proofs.Accepted.{copy_accepted, delete_accepted}
use Rattle.model.proofs.ReadsLaws.{copied_reads, deleted_reads}
use Rattle.model.proofs.OpeningLaws.{opening_leaves}
use Rattle.model.proofs.Demand2.{accepted_as, copy_answer, delete_answer}

-- ---- how many
-- a count is a total of ones
how_many_is_total : (n : ℕ) (P : ℕ → Bool) → how_many n P ≡ total n (λ i. cond (P i) 1 0)
unfolding how_many total
how_many_is_total zero P = refl
how_many_is_total (suc n) P = ap (λ k. k + cond (P n) 1 0) (how_many_is_total n P)

-- it is 0 just where P holds of none
pub none_when_zero : (n : ℕ) (P : ℕ → Bool) → how_many n P ≡ 0 → (i : ℕ) → i < n → P i ≡ false
none_when_zero n P e i l = go (P i) refl
  where
    go : (b : Bool) → P i ≡ b → P i ≡ false
    go false q = q
    go true q = absurd (omega (arith, how_many_is_total n P, term_in_total n (λ i. cond (P i) 1 0) i l, ap (λ (b : Bool). cond {A = ℕ} b 1 0) q))

pub zero_when_none : (n : ℕ) (P : ℕ → Bool) → ((i : ℕ) → i < n → P i ≡ false) → how_many n P ≡ 0
zero_when_none n P h = how_many_is_total n P ∙ total_of_zeros n (λ i. cond (P i) 1 0) (λ i l. ap (λ (b : Bool). cond {A = ℕ} b 1 0) (h i l))

-- it is at most n
pub at_most_all : (n : ℕ) (P : ℕ → Bool) → how_many n P ≤ n
unfolding how_many
at_most_all zero P = omega arith
at_most_all (suc n) P = go (P n) (at_most_all n P)
  where
    go : (b : Bool) → how_many n P ≤ n → how_many n P + cond b 1 0 ≤ suc n
    go true h = omega arith
    go false h = omega arith

total_of_ones : (n : ℕ) → total n (λ i. 1) ≡ n
unfolding total
total_of_ones zero = refl
total_of_ones (suc n) = omega (arith, total_of_ones n)

-- ---- another reason for the last row
last_row : (rows : List Row) (k n : ℕ) (A B : Type 0) → (A → B) → (B → A) → FirstOf (rows ++ (k because A ∷ [])) n → FirstOf (rows ++ (k because B ∷ [])) n
unfolding FirstOf
last_row [] k n A B to back (inl h) = inl (to h.0, h.1)
last_row [] k n A B to back (inr h) = inr ((λ b. h.0 (back b)), h.1)
last_row (row ∷ rows) k n A B to back (inl h) = inl h
last_row (row ∷ rows) k n A B to back (inr h) = inr (h.0, last_row rows k n A B to back h.1)

-- The answer line of `desk` is the same whatever count is told.
pub line_tells_no_count : (a : Answer) (n : ℕ) → answer_line (record { number = a.number; value = a.value; empty = n; posted = a.posted }) ≡ answer_line a
unfolding answer_line
line_tells_no_count a n = refl

-- where an outcome tells none, a refusal or it tells none
untold : {D : Type 0} (n : ℕ) (d : D) (o : Outcome D) → o.answer.empty ≡ 0 → (unless n d o).answer.empty ≡ 0
untold zero d o e = e
untold (suc n) d o e = refl

untold_refusal : {D : Type 0} (n : ℕ) (d : D) (o : Outcome D) → o.answer.number ≡ 0 → (unless n d o).answer.number ≢ 0 → (unless n d o).answer.empty ≡ 0
untold_refusal zero d o e given = absurd (given e)
untold_refusal (suc n) d o e given = refl

-- 1 where there is no message
abbrev weight : Posted → ℕ
weight m = cond (is_nothing m) 1 0

module _ {D : Type 0} (L : Layout D) where
  -- No slot is empty just where the count is 0.
  pub full_when_count_zero : (d : D) → NoSlotEmpty L d ↔ (empty_slots L d ≡ 0)
  full_when_count_zero d = (zero_when_none (L.slots d) (L.empty d), none_when_zero (L.slots d) (L.empty d))

  -- So 7 is given exactly where no earlier reason holds and the count is 0.
  pub copy_full_when_count_zero : (d : D) (from to p : ℕ) → FirstOf (lent_rows L d (copy_rows_when L (empty_slots L d ≡ 0) d from to p)) (step L d (MakeCopy from to p)).answer.number
  unfolding step make_copy copied
  copy_full_when_count_zero d from to p =
      rw (number_of_unless (copy_number L d from to p) d (copied L d from to p) refl)
      (last_row (_ ∷ _ ∷ _ ∷ _ ∷ _ ∷ _ ∷ []) PoolFull _ (NoSlotEmpty L d) (empty_slots L d ≡ 0) (full_when_count_zero d).0 (full_when_count_zero d).1 (copy_exactly L d from to p))

  pub delete_full_when_count_zero : (d : D) (site p : ℕ) → FirstOf (lent_rows L d (delete_rows_when L (empty_slots L d ≡ 0) d site p)) (step L d (Delete site p)).answer.number
  unfolding step delete deleted
  delete_full_when_count_zero d site p =
      rw (number_of_unless (delete_number L d site p) d (deleted L d site p) refl)
      (last_row (_ ∷ _ ∷ _ ∷ _ ∷ _ ∷ _ ∷ []) PoolFull _ (NoSlotEmpty L d) (empty_slots L d ≡ 0) (full_when_count_zero d).0 (full_when_count_zero d).1 (delete_exactly L d site p))

  -- An accepted make copy or delete tells how many slots are empty in the memory before.
  pub copy_tells : (d : D) (from to p : ℕ) → (step L d (MakeCopy from to p)).answer.number ≡ 0 → (step L d (MakeCopy from to p)).answer.empty ≡ empty_slots L d
  copy_tells d from to p e = ap (λ (a : Answer). a.empty) (copy_answer L d from to p e)

  pub delete_tells : (d : D) (site p : ℕ) → (step L d (Delete site p)).answer.number ≡ 0 → (step L d (Delete site p)).answer.empty ≡ empty_slots L d
  delete_tells d site p e = ap (λ (a : Answer). a.empty) (delete_answer L d site p e)

  -- No other answer tells a count: that of another call, and that of a refusal.
  pub receive_tells_nothing : (d : D) (slot : ℕ) → (step L d (Receive slot)).answer.empty ≡ 0
  unfolding step receive received
  receive_tells_nothing d slot = untold (receive_number L d slot) d (received L d slot) refl

  pub ask_tells_nothing : (d : D) (site p : ℕ) → (step L d (Ask site p)).answer.empty ≡ 0
  unfolding step ask asked
  ask_tells_nothing d site p = untold (ask_number L d site p) d (asked L d p) refl

  pub refusals_tell_nothing : (d : D) (c : Call) → (step L d c).answer.number ≢ 0 → (step L d c).answer.empty ≡ 0
  unfolding step make_copy receive delete ask copied received deleted asked
  refusals_tell_nothing d (MakeCopy from to p) = untold_refusal (copy_number L d from to p) d (copied L d from to p) refl
  refusals_tell_nothing d (Receive slot) = untold_refusal (receive_number L d slot) d (received L d slot) refl
  refusals_tell_nothing d (Delete site p) = untold_refusal (delete_number L d site p) d (deleted L d site p) refl
  refusals_tell_nothing d (Ask site p) = untold_refusal (ask_number L d site p) d (asked L d p) refl

  pub opening_tells_nothing : (d : D) → (open_desk L d).answer.empty ≡ 0
  unfolding open_desk
  opening_tells_nothing d = untold (open_refusal L d) d _ refl

module _ {D : Type 0} (L : Layout D) (W : Laws L) where
  open L use {slots, empty, message}

  -- the empty slots are those that hold no message
  empties_by_messages : (d : D) → lent_refusal L d ≡ 0 → empty_slots L d ≡ total (slots d) (λ i. weight (message d i))
  empties_by_messages d good =
      how_many_is_total (slots d) (empty d)
      ∙ total_same (slots d) (λ i. cond (empty d i) 1 0) (λ i. weight (message d i)) (λ i l. ap (λ (b : Bool). cond {A = ℕ} b 1 0) (W.empties d good i l))

  -- After an accepted opening every slot is empty.
  pub all_empty_after_opening : (d : D) → (open_desk L d).answer.number ≡ 0 → empty_slots L (open_desk L d).desk ≡ slots d
  all_empty_after_opening d e =
      let o = (open_desk L d).desk in
      let r = opening_leaves L W d e in
      let as_many : slots o ≡ slots d = ap (λ (f : Frame). f.slots) r.same in
      empties_by_messages o r.good
      ∙ subst (λ n. total n (λ i. weight (message o i)) ≡ slots d) (sym as_many)
      (total_same (slots d) (λ i. weight (message o i)) (λ i. 1) (λ i l. ap weight (r.as_messages i l)) ∙ total_of_ones (slots d))

  -- memory that reads as d's with a message in a slot that had none has one empty slot less
  one_less : (d e : D) (counters cells : ℕ → ℕ → ℕ) (i : ℕ) (m : Posted) → lent_refusal L d ≡ 0 → i < slots d → message d i ≡ Nothing → is_nothing m ≡ false
      → Reads L d e counters cells (with_slot (message d) i m) → empty_slots L e + 1 ≡ empty_slots L d
  one_less d e counters cells i m good l none some r =
      let as_many : slots e ≡ slots d = ap (λ (f : Frame). f.slots) r.same in
      let after : empty_slots L e ≡ total (slots d) (λ j. weight (with_slot (message d) i m j)) =
      empties_by_messages e r.good ∙ subst (λ n. total n (λ j. weight (message e j)) ≡ total (slots d) (λ j. weight (with_slot (message d) i m j))) (sym as_many)
      (total_same (slots d) (λ j. weight (message e j)) (λ j. weight (with_slot (message d) i m j)) (λ j lj. ap weight (r.as_messages j lj))) in
      omega (arith, after, empties_by_messages d good, total_with_slot weight (message d) i m (slots d) l, ap weight none, ap (λ (b : Bool). cond {A = ℕ} b 1 0) some)

  -- After the call that number is one less.
  pub copy_fills_one : (d : D) (from to p : ℕ) → (step L d (MakeCopy from to p)).answer.number ≡ 0 → empty_slots L (step L d (MakeCopy from to p)).desk + 1 ≡ empty_slots L d
  unfolding step make_copy
  copy_fills_one d from to p = accepted_as (λ e. empty_slots L e + 1 ≡ empty_slots L d) (copy_number L d from to p) d (copied L d from to p) (λ z.
      let c = copy_accepted L W d from to p z in
      one_less d _ _ _ (lowest_empty L d) (Copy from to p) c.good c.room.in_pool c.room.unused refl (copied_reads L W d from to p c))

  pub delete_fills_one : (d : D) (site p : ℕ) → (step L d (Delete site p)).answer.number ≡ 0 → empty_slots L (step L d (Delete site p)).desk + 1 ≡ empty_slots L d
  unfolding step delete
  delete_fills_one d site p = accepted_as (λ e. empty_slots L e + 1 ≡ empty_slots L d) (delete_number L d site p) d (deleted L d site p) (λ z.
      let c = delete_accepted L W d site p z in
      one_less d _ _ _ (lowest_empty L d) (Decr site (L.owner d p) p) c.good c.room.in_pool c.room.unused refl (deleted_reads L W d site p c))

  -- So it is at least 1, and at most 1,024: 0 always means that it is not told.
  some_told : (d : D) (told after : ℕ) → lent_refusal L d ≡ 0 → told ≡ empty_slots L d → after + 1 ≡ empty_slots L d → (1 ≤ told) × (told ≤ 1024)
  some_told d told after good e less = (omega arith, omega (arith, at_most_all (slots d) (empty d), W.few_slots d good))

  pub copy_tells_some : (d : D) (from to p : ℕ) → (step L d (MakeCopy from to p)).answer.number ≡ 0
      → (1 ≤ (step L d (MakeCopy from to p)).answer.empty) × ((step L d (MakeCopy from to p)).answer.empty ≤ 1024)
  unfolding step make_copy copied
  copy_tells_some d from to p e =
      let z : copy_number L d from to p ≡ 0 = sym (number_of_unless (copy_number L d from to p) d (copied L d from to p) refl) ∙ e in
      some_told d _ _ (copy_accepted L W d from to p z).good (copy_tells L d from to p e) (copy_fills_one d from to p e)

  pub delete_tells_some : (d : D) (site p : ℕ) → (step L d (Delete site p)).answer.number ≡ 0
      → (1 ≤ (step L d (Delete site p)).answer.empty) × ((step L d (Delete site p)).answer.empty ≤ 1024)
  unfolding step delete deleted
  delete_tells_some d site p e =
      let z : delete_number L d site p ≡ 0 = sym (number_of_unless (delete_number L d site p) d (deleted L d site p) refl) ∙ e in
      some_told d _ _ (delete_accepted L W d site p z).good (delete_tells L d site p e) (delete_fills_one d site p e)
