-- Where an accepted call puts what it posts (make copy and delete in the lowest empty slot, receive in the handled one), and what a received message posts.
use Prim.Native.Nat.{ℕ, ◌+◌}
use mathlib.Core.Path.{◌≡◌, refl, sym, ap, ◌∙◌, subst}
use mathlib.Core.Logic.{◌≢◌}
use Rattle.moreau.specs.Transformers.{assign}
use Rattle.model.specs.declared.Posted.{Posted}
use Rattle.model.specs.declared.Posted.TheVariants.{Copy, Dec as Decr, IncDec, Nothing}
use Rattle.model.specs.Answers.{Answer}
use Rattle.model.specs.declared.Call.TheVariants.{MakeCopy, Receive, Delete}
use Rattle.model.specs.Messages.{receiver, pointer_of, counter_after, cell_after, reply}
use Rattle.model.specs.Layout.{Layout}
use Rattle.model.specs.Calls.{lowest_empty, copy_number, copied, make_copy, counter_there, cell_there, replied, receive_number, receive, delete_number, deleted, delete, step}
use Rattle.model.specs.Laws.{with_slot, Reads, Laws}
use Rattle.model.specs.Demands.{LowestEmpty}
use Rattle.model.proofs.PlaceLaws.{changed_slot}
use Rattle.model.proofs.Accepted.{copy_accepted, delete_accepted, receive_accepted}
use Rattle.model.proofs.ReplyLaws.{reply_held, reply_home, reply_away}
use Rattle.model.proofs.ReadsLaws.{copied_reads, deleted_reads, received_reads}
use Rattle.model.proofs.Exactly.{number_of_unless}
use Rattle.model.proofs.Demand2.{accepted_as, copy_answer, delete_answer}

module _ {D : Type 0} (L : Layout D) (W : Laws L) where
  open L use {owner, counter, cell, message}

  -- The slot that an accepted make copy or delete names is the lowest empty one.
  pub copy_takes_lowest : (d : D) (from to p : ℕ) → (step L d (MakeCopy from to p)).answer.number ≡ 0 → LowestEmpty L d (step L d (MakeCopy from to p)).answer.value
  unfolding step make_copy copied
  copy_takes_lowest d from to p e =
      let z : copy_number L d from to p ≡ 0 = sym (number_of_unless (copy_number L d from to p) d _ refl) ∙ e in
      subst (LowestEmpty L d) (sym (ap (λ (a : Answer). a.value) (copy_answer L d from to p e))) (copy_accepted L W d from to p z).room.is_lowest

  pub delete_takes_lowest : (d : D) (site p : ℕ) → (step L d (Delete site p)).answer.number ≡ 0 → LowestEmpty L d (step L d (Delete site p)).answer.value
  unfolding step delete deleted
  delete_takes_lowest d site p e =
      let z : delete_number L d site p ≡ 0 = sym (number_of_unless (delete_number L d site p) d _ refl) ∙ e in
      subst (LowestEmpty L d) (sym (ap (λ (a : Answer). a.value) (delete_answer L d site p e))) (delete_accepted L W d site p z).room.is_lowest

  -- What an accepted call leaves in every counter, every cell and every slot.
  pub copy_leaves : (d : D) (from to p : ℕ) → (step L d (MakeCopy from to p)).answer.number ≡ 0
      → Reads L d (step L d (MakeCopy from to p)).desk (assign (counter d) from p (counter d from p + 1)) (cell d) (with_slot (message d) (lowest_empty L d) (Copy from to p))
  unfolding step make_copy
  copy_leaves d from to p = accepted_as
      (λ e. Reads L d e (assign (counter d) from p (counter d from p + 1)) (cell d) (with_slot (message d) (lowest_empty L d) (Copy from to p)))
      (copy_number L d from to p) d _ (λ z. copied_reads L W d from to p (copy_accepted L W d from to p z))

  pub delete_leaves : (d : D) (site p : ℕ) → (step L d (Delete site p)).answer.number ≡ 0
      → Reads L d (step L d (Delete site p)).desk (counter d) (assign (cell d) site p 0) (with_slot (message d) (lowest_empty L d) (Decr site (owner d p) p))
  unfolding step delete
  delete_leaves d site p = accepted_as
      (λ e. Reads L d e (counter d) (assign (cell d) site p 0) (with_slot (message d) (lowest_empty L d) (Decr site (owner d p) p)))
      (delete_number L d site p) d _ (λ z. deleted_reads L W d site p (delete_accepted L W d site p z))

  pub receive_leaves : (d : D) (slot : ℕ) → (step L d (Receive slot)).answer.number ≡ 0 → let m = message d slot in
      Reads L d (step L d (Receive slot)).desk
      (assign (counter d) (receiver m) (pointer_of m) (counter_after m (counter_there L d slot)))
      (assign (cell d) (receiver m) (pointer_of m) (cell_after m (cell_there L d slot)))
      (with_slot (message d) slot (replied L d slot))
  unfolding step receive
  receive_leaves d slot =
      let m = message d slot in
      accepted_as
      (λ e. Reads L d e
      (assign (counter d) (receiver m) (pointer_of m) (counter_after m (counter_there L d slot)))
      (assign (cell d) (receiver m) (pointer_of m) (cell_after m (cell_there L d slot)))
      (with_slot (message d) slot (replied L d slot)))
      (receive_number L d slot) d _ (λ z. received_reads L W d slot (receive_accepted L W d slot z))

  -- What an accepted call posts stands in that slot: the COPY, the DEC, the reply.
  pub copy_posts : (d : D) (from to p : ℕ) → (step L d (MakeCopy from to p)).answer.number ≡ 0
      → message (step L d (MakeCopy from to p)).desk (lowest_empty L d) ≡ Copy from to p
  unfolding step make_copy
  copy_posts d from to p = accepted_as (λ e. message e (lowest_empty L d) ≡ Copy from to p) (copy_number L d from to p) d _ (λ z.
      let c = copy_accepted L W d from to p z in
      (copied_reads L W d from to p c).as_messages (lowest_empty L d) c.room.in_pool ∙ changed_slot (message d) (lowest_empty L d) (Copy from to p))

  pub delete_posts : (d : D) (site p : ℕ) → (step L d (Delete site p)).answer.number ≡ 0
      → message (step L d (Delete site p)).desk (lowest_empty L d) ≡ Decr site (owner d p) p
  unfolding step delete
  delete_posts d site p = accepted_as (λ e. message e (lowest_empty L d) ≡ Decr site (owner d p) p) (delete_number L d site p) d _ (λ z.
      let c = delete_accepted L W d site p z in
      (deleted_reads L W d site p c).as_messages (lowest_empty L d) c.room.in_pool ∙ changed_slot (message d) (lowest_empty L d) (Decr site (owner d p) p))

  pub receive_posts : (d : D) (slot : ℕ) → (step L d (Receive slot)).answer.number ≡ 0 → message (step L d (Receive slot)).desk slot ≡ replied L d slot
  unfolding step receive
  receive_posts d slot = accepted_as (λ e. message e slot ≡ replied L d slot) (receive_number L d slot) d _ (λ z.
      let c = receive_accepted L W d slot z in
      (received_reads L W d slot c).as_messages slot c.in_pool ∙ changed_slot (message d) slot (replied L d slot))

-- What a received message posts, by its kind, the receiver's cell and the owner; on any layout.
module _ {D : Type 0} (L : Layout D) (d : D) (slot : ℕ) where
  open L use {owner, cell, message}

  as_message : {m : Posted} → message d slot ≡ m → replied L d slot ≡ reply m (cell d (receiver m) (pointer_of m)) (owner d (pointer_of m))
  as_message e = ap (λ (m : Posted). reply m (cell d (receiver m) (pointer_of m)) (owner d (pointer_of m))) e

  -- COPY(a, b) where b's cell is 1: DEC(b, a)
  pub copy_to_holder : {a b p : ℕ} → message d slot ≡ Copy a b p → cell d b p ≡ 1 → replied L d slot ≡ Decr b a p
  copy_to_holder {a} {b} {p} e h = as_message e ∙ reply_held a b p (cell d b p) (owner d p) h

  -- COPY(a, b) where it is not, from the owner: nothing
  pub copy_from_owner : {a b p : ℕ} → message d slot ≡ Copy a b p → cell d b p ≢ 1 → a ≡ owner d p → replied L d slot ≡ Nothing
  copy_from_owner {a} {b} {p} e h home = as_message e ∙ reply_home a b p (cell d b p) (owner d p) h home

  -- and from another site: INC_DEC(b, owner, third a)
  pub copy_from_other : {a b p : ℕ} → message d slot ≡ Copy a b p → cell d b p ≢ 1 → a ≢ owner d p → replied L d slot ≡ IncDec b (owner d p) a p
  copy_from_other {a} {b} {p} e h away = as_message e ∙ reply_away a b p (cell d b p) (owner d p) h away

  -- INC_DEC(a, b, third c): DEC(b, c)
  pub inc_dec_posts : {a b c p : ℕ} → message d slot ≡ IncDec a b c p → replied L d slot ≡ Decr b c p
  inc_dec_posts e = as_message e

  -- DEC(a, b): nothing
  pub dec_posts : {a b p : ℕ} → message d slot ≡ Decr a b p → replied L d slot ≡ Nothing
  dec_posts e = as_message e
