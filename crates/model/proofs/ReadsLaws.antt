-- How lent memory reads after a whole accepted call: the writes of a call, one after another.
use Prim.Native.Nat.{ℕ, ◌+◌, ◌≤◌, ◌<◌}
use mathlib.Core.Path.{◌≡◌, refl, ◌∙◌}
use native.Mathlib.Omega.{arith}
use Rattle.moreau.specs.Transformers.{assign}
use Rattle.model.specs.declared.Posted.{Posted}
use Rattle.model.specs.declared.Posted.TheVariants.{Copy, Dec as Decr}
use Rattle.model.specs.Messages.{receiver, pointer_of, counter_after, cell_after}
use Rattle.model.specs.Layout.{Layout}
use Rattle.model.specs.Calls.{lent_refusal, lowest_empty, copied, received, deleted, counter_there, cell_there, replied}
use Rattle.model.specs.Laws.{with_slot, Inside, Reads, Laws}
use Rattle.model.proofs.KeptLaws.{Kept, kept_by, kept_sites, kept_pointers, kept_slots, kept_inside}
use Rattle.model.proofs.Accepted.{Copied, Deleted, Received}
use Rattle.model.proofs.ReplyLaws.{inside_there, bit_after, reply_inside}

-- a changed cell or slot of tables that agree there
cell_at : (f g : ℕ → ℕ → ℕ) (s p n t q : ℕ) → f t q ≡ g t q → assign f s p n t q ≡ assign g s p n t q
unfolding assign
cell_at f g s p n t q e = rw e

slot_at : (f g : ℕ → Posted) (i : ℕ) (m : Posted) (j : ℕ) → f j ≡ g j → with_slot f i m j ≡ with_slot g i m j
unfolding with_slot
slot_at f g i m j e = rw e

module _ {D : Type 0} (L : Layout D) (W : Laws L) where
  open L use {sites, pointers, owner, counter, cell, slots, message, set_counter, set_cell, handled}

  -- good memory reads as itself
  reads_self : (d : D) → lent_refusal L d ≡ 0 → Reads L d d (counter d) (cell d) (message d)
  reads_self d good = record { good = good; same = refl; as_counters = λ s p ls lp. refl; as_cells = λ s p ls lp. refl; as_messages = λ i li. refl }

  module _ {d e : D} {counters cells : ℕ → ℕ → ℕ} {messages : ℕ → Posted} (r : Reads L d e counters cells messages) where
    k : Kept L d e
    k = kept_by L r

    pub then_counter : (s p n : ℕ) → s < sites d → p < pointers d → Reads L d (set_counter e s p n) (assign counters s p n) cells messages
    then_counter s p n ls lp =
        let w = W.sets_counter e s p n r.good (kept_sites L k ls) (kept_pointers L k lp) in
        record {
          good = w.good;
          same = w.same ∙ r.same;
          as_counters = λ t q lt lq. w.as_counters t q (kept_sites L k lt) (kept_pointers L k lq) ∙ cell_at (counter e) counters s p n t q (r.as_counters t q lt lq);
          as_cells = λ t q lt lq. w.as_cells t q (kept_sites L k lt) (kept_pointers L k lq) ∙ r.as_cells t q lt lq;
          as_messages = λ j lj. w.as_messages j (kept_slots L k lj) ∙ r.as_messages j lj;
        }

    pub then_cell : (s p n : ℕ) → s < sites d → p < pointers d → n ≤ 1 → Reads L d (set_cell e s p n) counters (assign cells s p n) messages
    then_cell s p n ls lp bit =
        let w = W.sets_cell e s p n r.good (kept_sites L k ls) (kept_pointers L k lp) bit in
        record {
          good = w.good;
          same = w.same ∙ r.same;
          as_counters = λ t q lt lq. w.as_counters t q (kept_sites L k lt) (kept_pointers L k lq) ∙ r.as_counters t q lt lq;
          as_cells = λ t q lt lq. w.as_cells t q (kept_sites L k lt) (kept_pointers L k lq) ∙ cell_at (cell e) cells s p n t q (r.as_cells t q lt lq);
          as_messages = λ j lj. w.as_messages j (kept_slots L k lj) ∙ r.as_messages j lj;
        }

    pub then_post : (i : ℕ) (m : Posted) → i < slots d → Inside (sites d) (pointers d) m → Reads L d (L.post e i m) counters cells (with_slot messages i m)
    then_post i m li inside =
        let w = W.posts e i m r.good (kept_slots L k li) (kept_inside L k m inside) in
        record {
          good = w.good;
          same = w.same ∙ r.same;
          as_counters = λ t q lt lq. w.as_counters t q (kept_sites L k lt) (kept_pointers L k lq) ∙ r.as_counters t q lt lq;
          as_cells = λ t q lt lq. w.as_cells t q (kept_sites L k lt) (kept_pointers L k lq) ∙ r.as_cells t q lt lq;
          as_messages = λ j lj. w.as_messages j (kept_slots L k lj) ∙ slot_at (message e) messages i m j (r.as_messages j lj);
        }

  -- After an accepted make copy: the sender's counter is raised, and the lowest empty slot holds the COPY.
  pub copied_reads : (d : D) (from to p : ℕ) → Copied L W d from to p
      → Reads L d (copied L d from to p).desk (assign (counter d) from p (counter d from p + 1)) (cell d) (with_slot (message d) (lowest_empty L d) (Copy from to p))
  unfolding copied
  copied_reads d from to p c =
      then_post (then_counter (reads_self d c.good) from p (counter d from p + 1) c.from_site c.a_pointer)
      (lowest_empty L d) (Copy from to p) c.room.in_pool (c.from_site, c.to_site, c.a_pointer)

  -- After an accepted delete: the site's cell is 0, and the lowest empty slot holds the DEC.
  pub deleted_reads : (d : D) (site p : ℕ) → Deleted L W d site p
      → Reads L d (deleted L d site p).desk (counter d) (assign (cell d) site p 0) (with_slot (message d) (lowest_empty L d) (Decr site (owner d p) p))
  unfolding deleted
  deleted_reads d site p c =
      then_post (then_cell (reads_self d c.good) site p 0 c.a_site c.a_pointer (omega arith))
      (lowest_empty L d) (Decr site (owner d p) p) c.room.in_pool (c.a_site, W.owner_inside d c.good p c.a_pointer, c.a_pointer)

  -- After an accepted receive: the receiver's counter and cell are as the message says, and the slot holds the reply.
  pub received_reads : (d : D) (slot : ℕ) → Received L W d slot → let x = message d slot in
      Reads L d (received L d slot).desk
      (assign (counter d) (receiver x) (pointer_of x) (counter_after x (counter_there L d slot)))
      (assign (cell d) (receiver x) (pointer_of x) (cell_after x (cell_there L d slot)))
      (with_slot (message d) slot (replied L d slot))
  unfolding received
  received_reads d slot c =
      let x = message d slot in
      let there = inside_there (sites d) (pointers d) x c.used (W.inside d c.good slot c.in_pool) in
      let bit = bit_after x (cell_there L d slot) (W.cell_bit d c.good (receiver x) (pointer_of x) there.0 there.1) in
      let inside = reply_inside (sites d) (pointers d) x (cell_there L d slot) (owner d (pointer_of x)) (W.owner_inside d c.good (pointer_of x) there.1) (W.inside d c.good slot c.in_pool) in
      then_post
      (then_cell (then_counter (W.handles d slot c.good c.in_pool) (receiver x) (pointer_of x) _ there.0 there.1) (receiver x) (pointer_of x) _ there.0 there.1 bit)
      slot (replied L d slot) c.in_pool inside
