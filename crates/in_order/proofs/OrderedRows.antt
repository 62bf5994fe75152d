-- 21 is given exactly where the slot's number is not its pair's next to receive, and 9 never; what an opening and an accepted call leave in the numbers.
use Prim.Native.Nat.{ℕ, ◌*◌, ◌≤◌, ◌<◌}
use mathlib.Core.Path.{◌≡◌, refl, sym, ◌∙◌, subst}
use mathlib.Core.Logic.{◌≢◌, inl, inr}
use mathlib.Core.Bool.{Bool, true, false, ◌&&◌, not}
use mathlib.Core.List.{List, [], ◌∷◌}
use native.Mathlib.Omega.{arith}
use lib.Dec.{ltb, eqb}
use lib.ListN.{length}
use lib.Seq.{sets}
use borrow.Author.Tests.{eqb-false, eqb-true, eq-eqb, ne_eqb, lt-ltb, not-true, not-false}
use Rattle.model.specs.declared.Posted.{Posted}
use Rattle.model.specs.declared.Posted.TheVariants.{Copy, Dec as Decr, IncDec, Nothing}
use Rattle.model.specs.declared.Call.{Call}
use Rattle.model.specs.declared.Call.TheVariants.{MakeCopy, Receive, Delete, Ask}
use Rattle.model.specs.Refusals.{◌or_else◌}
use Rattle.model.specs.Messages.{is_nothing, pointer_of, receive_refusal}
use Rattle.model.specs.Calls.{lent_refusal, front, open_refusal, open_desk, lowest_empty, counter_there, cell_there, replied, copy_number, copied, make_copy, receive_number, received, receive, delete_number, deleted, delete, step}
use Rattle.model.specs.Laws.{Inside}
use Rattle.model.specs.Tables.{place}
use Rattle.model.specs.Demands.{◌among◌, TellsEarly}
use Rattle.in_order.specs.Ordered.{OutOfOrder, numbered_slot, number_for, advanced, OrderedDesk, lent_in_order, ordered}
use Rattle.in_order.specs.InOrder.{number_of, next_to_post, next_to_receive, next_for, order_rows, listed_in_order, Numbers}
use Rattle.model.proofs.TestLaws.{and_both, when_not, or_else_most, when_most}
use Rattle.model.proofs.PartLaws.{zeros_at}
use Rattle.model.proofs.RowLaws.{by_test, not_equal_when}
use Rattle.model.proofs.Exactly.{number_of_unless}
use Rattle.model.proofs.ReplyLaws.{inside_there, reply_inside}
use Rattle.model.proofs.Accepted.{Copied, Deleted, Received, copy_accepted, delete_accepted, receive_accepted}
use Rattle.model.proofs.Demand1.{refused_by_listed}
use Rattle.model.proofs.Demand2.{accepted_as}
use Rattle.in_order.proofs.PairLaws.{advanced_at}
use Rattle.in_order.proofs.OrderedSlots.{number_reads_back, number_of_other}
use Rattle.in_order.proofs.OrderedLaws.{ordered_laws, fitted_desk}

-- ---- 21
pub tells : TellsEarly ordered order_rows
tells d slot rows rest f = by_test 20 (not (eqb (number_of d slot) (next_for d slot))) (number_of d slot ≢ next_for d slot) rows rest
    (λ e. eqb-false _ _ (not-true _ e)) (not_equal_when _ _) f

-- it lets pass just what carries its pair's next number
pub passes_at_next : (d : OrderedDesk) (slot : ℕ) → ordered.early d slot ≡ 0 → number_of d slot ≡ next_for d slot
passes_at_next d slot e = eqb-true _ _ (not-false _ (when_not 20 _ e))

pub next_passes : (d : OrderedDesk) (slot : ℕ) → number_of d slot ≡ next_for d slot → ordered.early d slot ≡ 0
next_passes d slot e = rw (eq-eqb (number_of d slot) (next_for d slot) e)

-- a message's own refusals are others
own_small : (m : Posted) (counter : ℕ) → receive_refusal m counter ≤ 20
own_small (Copy a b p) counter = when_most 4 (eqb a b) 20 (omega arith)
own_small (Decr a b p) counter = when_most 10 (eqb counter 0) 20 (omega arith)
own_small (IncDec a b c p) counter = when_most 6 (eqb counter 65535) 20 (omega arith)
own_small Nothing counter = omega arith

-- so what 21 lets pass is not refused by 21
pub not_21 : (d : OrderedDesk) (slot : ℕ) → ordered.early d slot ≡ 0 → (step ordered d (Receive slot)).answer.number ≢ 21
unfolding step receive received receive_number front lent_refusal
not_21 d slot e given = omega (arith, given, number_of_unless (receive_number ordered d slot) d (received ordered d slot) refl, small)
  where
    small : receive_number ordered d slot ≤ 20
    small =
        or_else_most _ _ 20 (or_else_most _ _ 20 (or_else_most _ _ 20 (when_most 1 (not (ordered.shaped d)) 20 (omega arith)) (when_most 2 (not (ordered.sound d)) 20 (omega arith))) (when_most 3 (not (ltb slot (ordered.slots d))) 20 (omega arith)))
        (or_else_most _ _ 20 (when_most 8 (ordered.empty d slot) 20 (omega arith)) (subst (λ n. (n or_else receive_refusal (ordered.message d slot) (counter_there ordered d slot)) ≤ 20) (sym e) (own_small (ordered.message d slot) _)))

-- and a message of a good desk that does not carry its pair's next number is
pub late_is_21 : (d : OrderedDesk) (slot : ℕ) → lent_refusal ordered d ≡ 0 → slot < ordered.slots d → is_nothing (ordered.message d slot) ≡ false → number_of d slot ≢ next_for d slot
    → (step ordered d (Receive slot)).answer.number ≡ 21
unfolding step receive receive_number front
late_is_21 d slot good l used apart = rw (good, lt-ltb slot (ordered.slots d) l, ordered_laws.empties d good slot l, used, ne_eqb (number_of d slot) (next_for d slot) apart)

-- ---- listed numbers
pub by_listed : (d : OrderedDesk) (c : Call) → (step ordered d c).answer.number ≢ 0 → (step ordered d c).answer.number among listed_in_order c
by_listed = refused_by_listed ordered order_rows (OutOfOrder ∷ []) tells (λ d slot n m. m)

abbrev lacks : ℕ → List ℕ → Bool
lacks n [] = true
lacks n (k ∷ ks) = not (eqb n k) && lacks n ks

not_among : (n : ℕ) (ks : List ℕ) → lacks n ks ≡ true → n among ks → ⊥
unfolding ◌among◌
not_among n [] e m = m
not_among n (k ∷ ks) e (inl q) = eqb-false n k (not-true _ (and_both (not (eqb n k)) (lacks n ks) e).0) q
not_among n (k ∷ ks) e (inr m) = not_among n ks (and_both (not (eqb n k)) (lacks n ks) e).1 m

lacks_9 : (c : Call) → lacks 9 (listed_in_order c) ≡ true
lacks_9 (MakeCopy from to p) = refl
lacks_9 (Receive slot) = refl
lacks_9 (Delete site p) = refl
lacks_9 (Ask site p) = refl

pub never_9 : (d : OrderedDesk) (c : Call) → (step ordered d c).answer.number ≢ 9
never_9 d c e = not_among 9 (listed_in_order c) (lacks_9 c) (rw e at (by_listed d c (λ z. let q : ◌≡◌ {A = ℕ} 9 0 = sym e ∙ z in omega arith)))

-- ---- the numbers after an opening
pub opening_numbers : (d : OrderedDesk) → (open_desk ordered d).answer.number ≡ 0 → let e = (open_desk ordered d).desk in
    (a b : ℕ) → (next_to_post e a b ≡ 0) × (next_to_receive e a b ≡ 0)
unfolding open_desk
opening_numbers d = accepted_as (λ e. (a b : ℕ) → (next_to_post e a b ≡ 0) × (next_to_receive e a b ≡ 0)) (open_refusal ordered d) d _ (λ z a b.
    (zeros_at (length d.pool.to_post) (place d.S a b), zeros_at (length d.pool.to_receive) (place d.S a b)))

-- ---- the numbers after an accepted call
module _ (d : OrderedDesk) where
  -- x received and m posted in a slot, whatever is written in the other tables
  exchanged : lent_refusal ordered d ≡ 0 → (slot : ℕ) → slot < ordered.slots d → (x m : Posted) → Inside d.S (length d.owners) x → Inside d.S (length d.owners) m → (send receive : List ℕ)
      → Numbers d
      (lent_in_order d.S d.owners send receive (sets d.pool.bytes (slot * 7) (numbered_slot m (number_for d.S d.pool.to_post m)))
      (advanced d.S d.pool.to_post m) (advanced d.S d.pool.to_receive x)) slot x m
  exchanged good slot in_pool x m inside-x inside-m send receive =
      let n = number_for d.S d.pool.to_post m in
      let f = fitted_desk d good in
      record {
        in_pool = in_pool;
        given = number_reads_back d.pool.bytes slot m n (omega arith);
        kept = number_of_other d.pool.bytes slot m n;
        to_post = λ a b la lb. advanced_at d.S d.pool.to_post f.post_length (length d.owners) m inside-m a b lb;
        to_receive = λ a b la lb. advanced_at d.S d.pool.to_receive f.take_length (length d.owners) x inside-x a b lb;
      }

  pub copied_numbers : (from to p : ℕ) → Copied ordered ordered_laws d from to p → Numbers d (copied ordered d from to p).desk (lowest_empty ordered d) Nothing (Copy from to p)
  unfolding copied
  copied_numbers from to p c = exchanged c.good (lowest_empty ordered d) c.room.in_pool Nothing (Copy from to p) tt (c.from_site, c.to_site, c.a_pointer) _ _

  pub deleted_numbers : (site p : ℕ) → Deleted ordered ordered_laws d site p → Numbers d (deleted ordered d site p).desk (lowest_empty ordered d) Nothing (Decr site (ordered.owner d p) p)
  unfolding deleted
  deleted_numbers site p c =
      exchanged c.good (lowest_empty ordered d) c.room.in_pool Nothing (Decr site (ordered.owner d p) p) tt (c.a_site, ordered_laws.owner_inside d c.good p c.a_pointer, c.a_pointer) _ _

  -- the names of a reply are in range
  pub reply_in_range : (slot : ℕ) → Received ordered ordered_laws d slot → Inside d.S (length d.owners) (replied ordered d slot)
  reply_in_range slot c =
      let x = ordered.message d slot in
      let w = ordered_laws.inside d c.good slot c.in_pool in
      let there = inside_there d.S (length d.owners) x c.used w in
      reply_inside d.S (length d.owners) x (cell_there ordered d slot) (ordered.owner d (pointer_of x)) (ordered_laws.owner_inside d c.good (pointer_of x) there.1) w

  pub received_numbers : (slot : ℕ) → Received ordered ordered_laws d slot → Numbers d (received ordered d slot).desk slot (ordered.message d slot) (replied ordered d slot)
  unfolding received
  received_numbers slot c =
      exchanged c.good slot c.in_pool (ordered.message d slot) (replied ordered d slot) (ordered_laws.inside d c.good slot c.in_pool) (reply_in_range slot c) _ _

  -- ---- of the calls
  pub copy_numbers : (from to p : ℕ) → (step ordered d (MakeCopy from to p)).answer.number ≡ 0 → Numbers d (step ordered d (MakeCopy from to p)).desk (lowest_empty ordered d) Nothing (Copy from to p)
  unfolding step make_copy
  copy_numbers from to p = accepted_as (λ e. Numbers d e (lowest_empty ordered d) Nothing (Copy from to p)) (copy_number ordered d from to p) d (copied ordered d from to p)
      (λ z. copied_numbers from to p (copy_accepted ordered ordered_laws d from to p z))

  pub delete_numbers : (site p : ℕ) → (step ordered d (Delete site p)).answer.number ≡ 0
      → Numbers d (step ordered d (Delete site p)).desk (lowest_empty ordered d) Nothing (Decr site (ordered.owner d p) p)
  unfolding step delete
  delete_numbers site p = accepted_as (λ e. Numbers d e (lowest_empty ordered d) Nothing (Decr site (ordered.owner d p) p)) (delete_number ordered d site p) d (deleted ordered d site p)
      (λ z. deleted_numbers site p (delete_accepted ordered ordered_laws d site p z))

  -- what is received, of any kind, carried its pair's next number
  pub receive_numbers : (slot : ℕ) → (step ordered d (Receive slot)).answer.number ≡ 0
      → (number_of d slot ≡ next_for d slot) × Numbers d (step ordered d (Receive slot)).desk slot (ordered.message d slot) (replied ordered d slot)
  unfolding step receive
  receive_numbers slot = accepted_as (λ e. (number_of d slot ≡ next_for d slot) × Numbers d e slot (ordered.message d slot) (replied ordered d slot)) (receive_number ordered d slot) d (received ordered d slot)
      (λ z. let c = receive_accepted ordered ordered_laws d slot z in (passes_at_next d slot c.in_time, received_numbers slot c))
