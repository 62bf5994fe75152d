-- On a reached desk each pair is a queue, told by its numbers alone: what is posted goes last, what is received was first, what was behind it moves up.
use Prim.Native.Nat.{ℕ, zero, suc, ◌+◌, ◌-◌, ◌%◌, ◌≤◌, ◌<◌}
use mathlib.Core.Path.{◌≡◌, sym, ap, ap₂, ◌∙◌, subst}
use mathlib.Core.Logic.{◌≢◌, ◌↔◌}
use native.Mathlib.Omega.{arith}
use Rattle.moreau.specs.Counts.{◌if◌is◌}
use Rattle.moreau.proofs.Sums.{if_same}
use Rattle.model.specs.declared.Posted.{Posted}
use Rattle.model.specs.declared.Posted.TheVariants.{Copy, Dec as Decr, Nothing}
use Rattle.model.specs.declared.Call.TheVariants.{MakeCopy, Receive, Delete}
use Rattle.model.specs.Calls.{lent_refusal, lowest_empty, replied, step}
use Rattle.model.specs.Laws.{Frame, with_slot, Reads}
use Rattle.model.specs.Survey.{in_flight}
use Rattle.model.proofs.PlaceLaws.{changed_slot, other_slot}
use Rattle.model.proofs.PoolLaws.{term_in_total, total_two}
use Rattle.model.proofs.Placed.{copy_leaves, delete_leaves, receive_leaves}
use Rattle.in_order.specs.Ordered.{OrderedDesk, ordered}
use Rattle.in_order.specs.InOrder.{number_of, next_to_receive, next_for, on_link, moved, Numbers, before, Queued}
use Rattle.in_order.proofs.StampLaws.{from_most}
use Rattle.in_order.proofs.LinkLaws.{on_link_most, ends, link_inside}
use Rattle.in_order.proofs.Channels.{between}
use Rattle.in_order.proofs.PairLaws.{number_on}
use Rattle.in_order.proofs.OrderedLaws.{ordered_laws}
use Rattle.in_order.proofs.OrderedHistory.{InOrder}
use Rattle.in_order.proofs.OrderedFlight.{few, used_on_link, numbers_end}
use Rattle.in_order.proofs.OrderedRows.{passes_at_next, next_passes, copy_numbers, delete_numbers, receive_numbers}

-- ---- numbers that wrap
moved_up : (number start w : ℕ) → number < 65536 → start < 65536 → w ≤ 1 → (0 < w → 0 < (number + 65536 - start) % 65536)
    → (number + 65536 - moved w start) % 65536 + w ≡ (number + 65536 - start) % 65536
moved_up number start zero ln ls h behind = omega arith
moved_up number start (suc w) ln ls h behind = omega (arith, behind (omega arith))

end_of : (start many w : ℕ) → start < 65536 → many ≤ 1024 → w ≤ 1 → w ≤ many → ((start + many) % 65536 + 65536 - moved w start) % 65536 + w ≡ many
end_of start many zero ls lm h k = omega arith
end_of start many (suc w) ls lm h k = omega arith

module _ (d : OrderedDesk) (o : InOrder d) (good : lent_refusal ordered d ≡ 0) where
  next_of : (a b slot : ℕ) → 0 < on_link a b (ordered.message d slot) → next_for d slot ≡ next_to_receive d a b
  next_of a b slot on = let q = ends a b (ordered.message d slot) on in ap₂ (next_to_receive d) q.0 q.1

  -- by the history
  before_by_stamp : (a b slot : ℕ) → a < d.S → b < d.S → slot < ordered.slots d → 0 < on_link a b (ordered.message d slot) → before d slot + o.history.taken a b ≡ o.history.stamp slot
  before_by_stamp a b slot la lb l on =
      let r = between o.channels a b slot l on in
      omega (arith, r.0, r.1, o.channels.many a b, few d o good a b la lb, next_of a b slot on, o.takes a b la lb, o.stamps slot l (used_on_link a b (ordered.message d slot) on))

  -- no two messages of a pair have the same place
  pub apart_in_queue : (a b slot other : ℕ) → slot < ordered.slots d → other < ordered.slots d → other ≢ slot → 0 < on_link a b (ordered.message d slot) → 0 < on_link a b (ordered.message d other)
      → before d other ≢ before d slot
  apart_in_queue a b slot other l lo apart on on-too e =
      let w = link_inside d.S (ordered.pointers d) a b (ordered.message d slot) (ordered_laws.inside d good slot l) on in
      let k = o.history.stamp slot in
      let same : o.history.stamp other ≡ k = omega (arith, e, before_by_stamp a b slot w.0 w.1 l on, before_by_stamp a b other w.0 w.1 lo on-too) in
      omega (
        arith,
        on,
        on-too,
        total_two (ordered.slots d) (λ i. on_link a b (ordered.message d i) if o.history.stamp i is k) slot other l lo apart,
        if_same (on_link a b (ordered.message d slot)) k,
        ap (λ (s : ℕ). on_link a b (ordered.message d other) if s is k) same ∙ if_same (on_link a b (ordered.message d other)) k,
        o.channels.once a b k,
        from_most (o.history.taken a b) k,
      )

  -- ---- a call: x of the slot received, if any, and m posted there
  module _ (e : OrderedDesk) (slot : ℕ) (x m : Posted) (l : slot < ordered.slots d) {counters cells : ℕ → ℕ → ℕ} (r : Reads ordered d e counters cells (with_slot (ordered.message d) slot m))
      (n : Numbers d e slot x m) (fits : (a b : ℕ) → on_link a b x ≤ in_flight ordered d (on_link a b))
      (first : (a b other : ℕ) → other < ordered.slots d → other ≢ slot → 0 < on_link a b x → 0 < on_link a b (ordered.message d other) → 0 < before d other) where
    next_after : (a b i : ℕ) → i < ordered.slots d → a < d.S → b < d.S → 0 < on_link a b (ordered.message e i) → next_for e i ≡ moved (on_link a b x) (next_to_receive d a b)
    next_after a b i li la lb on =
        let q = ends a b (ordered.message e i) on in
        ap₂ (next_to_receive e) q.0 q.1 ∙ n.to_receive a b la lb

    names_after : (a b i : ℕ) → i < ordered.slots d → 0 < on_link a b (ordered.message e i) → (a < d.S) × (b < d.S)
    names_after a b i li on =
        let le = subst (λ (f : Frame). i < f.slots) (sym r.same) li in
        let w = link_inside e.S (ordered.pointers e) a b (ordered.message e i) (ordered_laws.inside e r.good i le) on in
        (subst (λ (f : Frame). a < f.sites) r.same w.0, subst (λ (f : Frame). b < f.sites) r.same w.1)

    -- m goes to its pair's end, and what was behind x moves up
    pub queued : Queued d e slot x m
    queued = record {
      last = λ a b on.
          let there : 0 < on_link a b (ordered.message e slot) = subst (λ (y : Posted). 0 < on_link a b y) (sym (r.as_messages slot l ∙ changed_slot (ordered.message d) slot m)) on in
          let w = names_after a b slot l there in
          let start = next_to_receive d a b in
          let number : number_of e slot ≡ (start + in_flight ordered d (on_link a b)) % 65536 = n.given ∙ number_on d.S d.pool.to_post a b m on ∙ numbers_end d o good a b w.0 w.1 in
          ap₂ (λ (p q : ℕ). (p + 65536 - q) % 65536 + on_link a b x) number (next_after a b slot l w.0 w.1 there)
          ∙ end_of start (in_flight ordered d (on_link a b)) (on_link a b x) (omega (arith, o.takes a b w.0 w.1)) (few d o good a b w.0 w.1) (on_link_most a b x) (fits a b);
      rest = λ a b other lo apart on.
          let there : 0 < on_link a b (ordered.message e other) = subst (λ (y : Posted). 0 < on_link a b y) (sym (r.as_messages other lo ∙ other_slot (ordered.message d) slot m other apart)) on in
          let w = names_after a b other lo there in
          let start = next_to_receive d a b in
          let same : before d other ≡ (number_of d other + 65536 - start) % 65536 = ap (λ (q : ℕ). (number_of d other + 65536 - q) % 65536) (next_of a b other on) in
          ap₂ (λ (p q : ℕ). (p + 65536 - q) % 65536 + on_link a b x) (n.kept other apart) (next_after a b other lo w.0 w.1 there)
          ∙ moved_up (number_of d other) start (on_link a b x) (omega (arith, o.stamps other lo (used_on_link a b (ordered.message d other) on))) (omega (arith, o.takes a b w.0 w.1))
          (on_link_most a b x) (λ got. subst (λ (k : ℕ). 0 < k) same (first a b other lo apart got on))
          ∙ sym same;
    }

  -- ---- the calls
  pub copy_queues : (from to p : ℕ) → (step ordered d (MakeCopy from to p)).answer.number ≡ 0 → Queued d (step ordered d (MakeCopy from to p)).desk (lowest_empty ordered d) Nothing (Copy from to p)
  copy_queues from to p z =
      queued (step ordered d (MakeCopy from to p)).desk (lowest_empty ordered d) Nothing (Copy from to p) (copy_numbers d from to p z).in_pool
      (copy_leaves ordered ordered_laws d from to p z) (copy_numbers d from to p z) (λ a b. omega arith) (λ a b other lo apart got on. absurd (omega (arith, got)))

  pub delete_queues : (site p : ℕ) → (step ordered d (Delete site p)).answer.number ≡ 0 → Queued d (step ordered d (Delete site p)).desk (lowest_empty ordered d) Nothing (Decr site (ordered.owner d p) p)
  delete_queues site p z =
      queued (step ordered d (Delete site p)).desk (lowest_empty ordered d) Nothing (Decr site (ordered.owner d p) p) (delete_numbers d site p z).in_pool
      (delete_leaves ordered ordered_laws d site p z) (delete_numbers d site p z) (λ a b. omega arith) (λ a b other lo apart got on. absurd (omega (arith, got)))

  -- What is received was the first of its pair.
  pub receive_queues : (slot : ℕ) → (step ordered d (Receive slot)).answer.number ≡ 0
      → (before d slot ≡ 0) × Queued d (step ordered d (Receive slot)).desk slot (ordered.message d slot) (replied ordered d slot)
  receive_queues slot z =
      let l : slot < ordered.slots d = (receive_numbers d slot z).1.in_pool in
      let zero_there : before d slot ≡ 0 = omega (arith, (receive_numbers d slot z).0) in (
        zero_there,
        queued (step ordered d (Receive slot)).desk slot (ordered.message d slot) (replied ordered d slot) l
            (receive_leaves ordered ordered_laws d slot z) (receive_numbers d slot z).1
            (λ a b. term_in_total (ordered.slots d) (λ i. on_link a b (ordered.message d i)) slot l)
            (λ a b other lo apart got on. let k = apart_in_queue a b slot other l lo apart got on in omega (arith, zero_there, k)),
      )

  -- 21 lets pass what is first of its pair, and nothing else.
  pub first_passes : (a b slot : ℕ) → slot < ordered.slots d → 0 < on_link a b (ordered.message d slot) → (ordered.early d slot ≡ 0) ↔ (before d slot ≡ 0)
  first_passes a b slot l on =
      let w = link_inside d.S (ordered.pointers d) a b (ordered.message d slot) (ordered_laws.inside d good slot l) on in
      let low = o.stamps slot l (used_on_link a b (ordered.message d slot) on) in
      let start = next_of a b slot on ∙ o.takes a b w.0 w.1 in (
        (λ e. omega (arith, passes_at_next d slot e)),
        (λ e. next_passes d slot (omega (arith, e, low, start))),
      )
