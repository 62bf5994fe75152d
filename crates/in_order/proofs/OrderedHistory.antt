-- Every reached in_order desk has a history: the lent numbers are its numbers' remainders by 65,536, and its links keep their order.
use Prim.Native.Nat.{ℕ, ◌+◌, ◌%◌, ◌≤◌, ◌<◌}
use mathlib.Core.Path.{◌≡◌, refl, sym, ap, ap₂, ◌∙◌, subst}
use mathlib.Core.Logic.{◌≢◌}
use mathlib.Core.Bool.{false}
use native.Mathlib.Decide.{ℕ_discrete}
use native.Mathlib.Omega.{arith}
use lib.ListN.{length}
use borrow.Author.Tests.{eq-eqb, ne_eqb}
use Rattle.moreau.specs.Counts.{◌if◌is◌}
use Rattle.moreau.specs.Transformers.{assign}
use Rattle.moreau.proofs.Sums.{if_zero}
use Rattle.moreau.proofs.Tables.{assign_site, assign_pointer}
use Rattle.model.specs.declared.Posted.{Posted}
use Rattle.model.specs.declared.Posted.TheVariants.{Copy, Dec as Decr, Nothing}
use Rattle.model.specs.declared.Call.{Call}
use Rattle.model.specs.declared.Call.TheVariants.{MakeCopy, Receive, Delete, Ask}
use Rattle.model.specs.Messages.{message_of, is_nothing, receiver, pointer_of}
use Rattle.model.specs.Calls.{lent_refusal, open_desk, lowest_empty, copy_number, copied, make_copy, replied, receive_number, received, receive, delete_number, deleted, delete, step}
use Rattle.model.specs.Laws.{Frame, with_slot, Inside, Reads}
use Rattle.model.specs.Survey.{decs, inc_decs}
use Rattle.model.specs.Tables.{place}
use Rattle.model.specs.Demands.{Opened, opened, Reached}
use Rattle.in_order.specs.Ordered.{OrderedDesk, ordered}
use Rattle.in_order.specs.InOrder.{number_of, next_to_receive, on_link, Numbers}
use Rattle.model.proofs.TestLaws.{true_not_false}
use Rattle.model.proofs.PlaceLaws.{changed_slot, other_slot}
use Rattle.model.proofs.PoolLaws.{total_of_zeros}
use Rattle.model.proofs.PartLaws.{zeros_at}
use Rattle.model.proofs.FlatLaws.{empty_slots_lem}
use Rattle.model.proofs.ReplyLaws.{inside_there}
use Rattle.model.proofs.Accepted.{copy_accepted, delete_accepted, receive_accepted}
use Rattle.model.proofs.ReadsLaws.{copied_reads, deleted_reads, received_reads}
use Rattle.model.proofs.Demand1.{ask_changes_nothing}
use Rattle.model.proofs.ReachedLaws.{of_all_reached, by_number}
use Rattle.in_order.proofs.StampLaws.{late, late_le}
use Rattle.in_order.proofs.LinkLaws.{on_link_most, ends, link_inside, Balanced, all_three, balanced_receive}
use Rattle.in_order.proofs.Channels.{History, onward, Channels, Tail, still, tail_still, oldest_by_number}
use Rattle.in_order.proofs.PairLaws.{Tracks, turned, numbered_as}
use Rattle.in_order.proofs.OrderedLaws.{ordered_laws}
use Rattle.in_order.proofs.OrderedRows.{passes_at_next, copied_numbers, deleted_numbers, received_numbers}

-- ---- what holds of every reached desk
pub record InOrder (d : OrderedDesk) : Type 0 where
  pub history : History
  pub channels : Channels (ordered.slots d) (ordered.message d) history
  pub tails : (a p : ℕ) → a < d.S → p < length d.owners → a ≢ ordered.owner d p
      → (t : ℕ) → Tail (ordered.slots d) (ordered.message d) history (ordered.cell d a p) a (ordered.owner d p) p t
  pub posts : Tracks d.S d.pool.to_post history.sent
  pub takes : Tracks d.S d.pool.to_receive history.taken
  pub stamps : (i : ℕ) → i < ordered.slots d → is_nothing (ordered.message d i) ≡ false → number_of d i ≡ history.stamp i % 65536

-- ---- m for the message of slot i, which was the oldest of its pair if it was one
module _ (d e : OrderedDesk) (o : InOrder d) (i : ℕ) (m : Posted) {counters cells : ℕ → ℕ → ℕ} (r : Reads ordered d e counters cells (with_slot (ordered.message d) i m))
    (n : Numbers d e i (ordered.message d i) m) (oldest : (a b : ℕ) → 0 < on_link a b (ordered.message d i) → o.history.stamp i ≡ o.history.taken a b)
    (balanced : (a p : ℕ) → a < d.S → p < length d.owners → Balanced a (ordered.owner d p) p (ordered.cell d a p) (cells a p) (ordered.message d i) m) where
  abbrev history' : History
  history' = onward o.history i (ordered.message d i) m

  posted_there : ordered.message e i ≡ m
  posted_there = r.as_messages i n.in_pool ∙ changed_slot (ordered.message d) i m

  inside : Inside d.S (length d.owners) m
  inside =
      subst (λ (f : Frame). Inside f.sites f.pointers m) r.same
      (subst (Inside e.S (length e.owners)) posted_there (ordered_laws.inside e r.good i (subst (λ (f : Frame). i < f.slots) (sym r.same) n.in_pool)))

  stamped : (j : ℕ) → j < ordered.slots d → is_nothing (ordered.message e j) ≡ false → Dec (j ≡ i) → number_of e j ≡ history'.stamp j % 65536
  stamped j lj used (yes q) =
      let m_used : is_nothing m ≡ false = sym (ap is_nothing posted_there) ∙ subst (λ k. is_nothing (ordered.message e k) ≡ false) q used in
      rw (q, eq-eqb i i refl) (n.given ∙ numbered_as d.S (length d.owners) d.pool.to_post o.history.sent m m_used inside o.posts)
  stamped j lj used (no apart) =
      let same : ordered.message e j ≡ ordered.message d j = r.as_messages j lj ∙ other_slot (ordered.message d) i m j apart in
      rw (ne_eqb j i apart) (n.kept j apart ∙ o.stamps j lj (sym (ap is_nothing same) ∙ used))

  -- the pairs advance with the history
  site_of : {a : ℕ} → a < e.S → a < d.S
  site_of {a} l = subst (λ (f : Frame). a < f.sites) r.same l

  pub stays : InOrder e
  stays = record {
    history = history';
    channels = subst (λ (f : Frame). Channels f.slots (ordered.message e) history') (sym r.same) (still o.channels i n.in_pool m r.as_messages oldest);
    tails = λ a p la lp apart t.
        let lb = subst (λ (f : Frame). p < f.pointers) r.same lp in
        let far : a ≢ ordered.owner d p = subst (λ (f : Frame). a ≢ f.owner p) r.same apart in
        let kept = subst (λ k. Balanced a (ordered.owner d p) p (ordered.cell d a p) k (ordered.message d i) m) (sym (r.as_cells a p (site_of la) lb)) (balanced a p (site_of la) lb) in
        subst (λ (f : Frame). Tail f.slots (ordered.message e) history' (ordered.cell e a p) a (f.owner p) p t) (sym r.same)
        (tail_still o.channels i n.in_pool m r.as_messages oldest (ordered.cell d a p) (ordered.cell e a p) a (ordered.owner d p) p (o.tails a p (site_of la) lb far) kept t);
    posts = λ a b la lb. n.to_post a b (site_of la) (site_of lb) ∙ turned (on_link a b m) _ _ (on_link_most a b m) (o.posts a b (site_of la) (site_of lb));
    takes = λ a b la lb. n.to_receive a b (site_of la) (site_of lb) ∙ turned (on_link a b (ordered.message d i)) _ _ (on_link_most a b (ordered.message d i)) (o.takes a b (site_of la) (site_of lb));
    stamps = λ j lj used. stamped j (subst (λ (f : Frame). j < f.slots) r.same lj) used (ℕ_discrete j i);
  }

-- ---- an opening
abbrev begun : History
begun = record { sent = λ a b. 0; taken = λ a b. 0; stamp = λ i. 0 }

opens : (d : OrderedDesk) → InOrder (ordered.cleared d)
unfolding message_of
opens d =
    let n = ordered.slots (ordered.cleared d) in
    let f : ℕ → Posted = ordered.message (ordered.cleared d) in
    let none : (i : ℕ) → f i ≡ Nothing = λ i. empty_slots_lem 7 message_of (length d.pool.bytes) i in
    record {
      history = begun;
      channels = record {
        once = λ a b k. omega (arith, total_of_zeros n (λ i. on_link a b (f i) if 0 is k) (λ i li. ap (λ (x : Posted). on_link a b x if 0 is k) (none i) ∙ if_zero 0 k));
        many = λ a b. omega (arith, total_of_zeros n (λ i. on_link a b (f i)) (λ i li. ap (on_link a b) (none i)));
      };
      tails = λ a p la lp apart t. let o = ordered.owner d p in omega (
        arith,
        total_of_zeros n (λ i. late t 0 (inc_decs a o p (f i))) (λ i li. omega (arith, late_le t 0 (inc_decs a o p (f i)), ap (inc_decs a o p) (none i))),
      );
      posts = λ a b la lb. zeros_at (length d.pool.to_post) (place d.S a b);
      takes = λ a b la lb. zeros_at (length d.pool.to_receive) (place d.S a b);
      stamps = λ i li used. true_not_false (sym (sym used ∙ ap is_nothing (none i)));
    }

opening_in_order : (d : OrderedDesk) → Opened ordered d → InOrder d
unfolding open_desk
opening_in_order _ (opened d e) = rw e (opens d)

-- ---- the slot whose number is its pair's next holds the oldest message of its pair
module _ (d : OrderedDesk) (o : InOrder d) where
  pub oldest_passes : lent_refusal ordered d ≡ 0 → (slot : ℕ) → slot < ordered.slots d → is_nothing (ordered.message d slot) ≡ false → ordered.early d slot ≡ 0
      → (a b : ℕ) → 0 < on_link a b (ordered.message d slot) → o.history.stamp slot ≡ o.history.taken a b
  oldest_passes good slot l used in_time a b on =
      let x = ordered.message d slot in
      let q = ends a b x on in
      let l2 = link_inside d.S (length d.owners) a b x (ordered_laws.inside d good slot l) on in
      oldest_by_number o.channels (ordered_laws.few_slots d good) a b slot l on
      (sym (o.stamps slot l used) ∙ passes_at_next d slot in_time ∙ ap₂ (next_to_receive d) q.0 q.1 ∙ o.takes a b l2.0 l2.1)

  -- ---- each call
  -- m posted in an empty slot
  module _ (e : OrderedDesk) (i : ℕ) (m : Posted) (unused : ordered.message d i ≡ Nothing) {counters cells : ℕ → ℕ → ℕ} (r : Reads ordered d e counters cells (with_slot (ordered.message d) i m)) (n : Numbers d e i Nothing m) where
    posted_stays : ((a p : ℕ) → a < d.S → p < length d.owners → Balanced a (ordered.owner d p) p (ordered.cell d a p) (cells a p) Nothing m) → InOrder e
    posted_stays balanced =
        stays d e o i m r (subst (λ x. Numbers d e i x m) (sym unused) n) (λ a b on. absurd (omega (arith, on, ap (on_link a b) unused)))
        (λ a p la lp. subst (λ x. Balanced a (ordered.owner d p) p (ordered.cell d a p) (cells a p) x m) (sym unused) (balanced a p la lp))

  copy_kept : (from to p : ℕ) → InOrder (make_copy ordered d from to p).desk
  unfolding make_copy
  copy_kept from to p = by_number InOrder (copy_number ordered d from to p) d (copied ordered d from to p) o (λ z.
      let c = copy_accepted ordered ordered_laws d from to p z in
      posted_stays (copied ordered d from to p).desk (lowest_empty ordered d) (Copy from to p) c.room.unused (copied_reads ordered ordered_laws d from to p c) (copied_numbers d from to p c)
      (λ a q la lq. omega arith))

  delete_kept : (site p : ℕ) → InOrder (delete ordered d site p).desk
  unfolding delete
  delete_kept site p = by_number InOrder (delete_number ordered d site p) d (deleted ordered d site p) o (λ z.
      let c = delete_accepted ordered ordered_laws d site p z in
      posted_stays (deleted ordered d site p).desk (lowest_empty ordered d) (Decr site (ordered.owner d p) p) c.room.unused (deleted_reads ordered ordered_laws d site p c) (deleted_numbers d site p c)
      (λ a q la lq. omega (arith, off a q c.held (ℕ_discrete site a) (ℕ_discrete p q))))
    where
      off : (a q : ℕ) → ordered.cell d site p ≡ 1 → Dec (site ≡ a) → Dec (p ≡ q)
          → ordered.cell d a q ≤ assign (ordered.cell d) site p 0 a q + decs a (ordered.owner d q) q (Decr site (ordered.owner d p) p)
      off a q held (yes e) (yes f) = rw (← e, ← f) (omega (arith, held, all_three site (ordered.owner d p) p site (ordered.owner d p) p refl refl refl))
      off a q held (yes e) (no apart) = omega (arith, assign_pointer (ordered.cell d) site p 0 a q apart)
      off a q held (no apart) _ = omega (arith, assign_site (ordered.cell d) site p 0 a q apart)

  receive_kept : (slot : ℕ) → InOrder (receive ordered d slot).desk
  unfolding receive
  receive_kept slot = by_number InOrder (receive_number ordered d slot) d (received ordered d slot) o (λ z.
      let c = receive_accepted ordered ordered_laws d slot z in
      let x = ordered.message d slot in
      let there = inside_there d.S (length d.owners) x c.used (ordered_laws.inside d c.good slot c.in_pool) in
      let bit = ordered_laws.cell_bit d c.good (receiver x) (pointer_of x) there.0 there.1 in
      stays d (received ordered d slot).desk o slot (replied ordered d slot) (received_reads ordered ordered_laws d slot c) (received_numbers d slot c)
      (oldest_passes c.good slot c.in_pool c.used c.in_time)
      (λ a p la lp. balanced_receive (ordered.cell d) (ordered.owner d) x a p bit))

  call_kept : (c : Call) → InOrder (step ordered d c).desk
  unfolding step
  call_kept (MakeCopy from to p) = copy_kept from to p
  call_kept (Receive slot) = receive_kept slot
  call_kept (Delete site p) = delete_kept site p
  call_kept (Ask site p) = subst InOrder (sym (ask_changes_nothing ordered d site p)) o

-- Every reached desk is in order.
pub in_order_lem : {d : OrderedDesk} → Reached ordered d → InOrder d
in_order_lem = of_all_reached InOrder opening_in_order (λ d r o c. call_kept d o c)
