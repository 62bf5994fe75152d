-- Demand 2: an accepted call is the published machine's transition on what the lent memory means, over any lawful layout.
use Prim.Native.Nat.{ℕ, zero, suc, ◌<◌}
use mathlib.Core.Path.{◌≡◌, refl, subst}
use native.Mathlib.Omega.{arith}
use lib.Dec.{eqb}
use Rattle.moreau.specs.Transitions.{Guard, PaperGuard}
use Rattle.model.specs.declared.Posted.TheVariants.{Copy, Dec as Decr, Nothing}
use Rattle.model.specs.declared.Call.TheVariants.{MakeCopy, Receive, Delete, Ask}
use Rattle.model.specs.Refusals.{◌when◌}
use Rattle.model.specs.Answers.{accepted, accepted_telling, Outcome, unless}
use Rattle.model.specs.Layout.{Layout}
use Rattle.model.specs.Calls.{held_refusal, lowest_empty, empty_slots, copy_number, copied, make_copy, replied, receive_number, received, receive, delete_number, deleted, delete, ask_number, asked, ask, step}
use Rattle.model.specs.Laws.{Laws}
use Rattle.model.specs.Meaning.{meaning}
use Rattle.model.specs.Demands.{MakesCopy, Receives, Deletes}
use Rattle.model.proofs.CopyAndDelete.{copy_is_MAKE_COPY, delete_is_DELETE}
use Rattle.model.proofs.ReceiveTransition.{receive_is_RECEIVE}
use Rattle.model.proofs.HeldLaws.{held_is_the_guard}

-- what holds of the outcome of a call whose tests give 0 holds of its outcome, where the answer's number is 0
pub accepted_as : {D : Type 0} (P : D → Type 0) (n : ℕ) (d : D) (o : Outcome D) → (n ≡ 0 → P o.desk) → (unless n d o).answer.number ≡ 0 → P (unless n d o).desk
accepted_as P zero d o h e = h refl
accepted_as P (suc n) d o h e = absurd (omega arith)

module _ {D : Type 0} (L : Layout D) (W : Laws L) where
  -- An accepted make copy (from, to, pointer) is MAKE_COPY(from, to, pointer).
  pub copy_transition : (d : D) (from to p : ℕ) → (step L d (MakeCopy from to p)).answer.number ≡ 0 → MakesCopy L d (step L d (MakeCopy from to p)).desk from to p
  unfolding step make_copy
  copy_transition d from to p = accepted_as (λ e. MakesCopy L d e from to p) (copy_number L d from to p) d _ (λ z. (copy_is_MAKE_COPY L W d from to p z).0)

  -- An accepted delete (site, pointer) is DELETE(site, pointer).
  pub delete_transition : (d : D) (site p : ℕ) → (step L d (Delete site p)).answer.number ≡ 0 → Deletes L d (step L d (Delete site p)).desk site p
  unfolding step delete
  delete_transition d site p = accepted_as (λ e. Deletes L d e site p) (delete_number L d site p) d _ (λ z. (delete_is_DELETE L W d site p z).0)

  -- An accepted receive (slot) is RECEIVE of the message that stands in the slot, under any guard that the layout's own test implies.
  pub receive_transition : (May : Guard) (d : D) (slot : ℕ) → ((a b p : ℕ) → slot < L.slots d → L.message d slot ≡ Decr a b p → L.early d slot ≡ 0 → May (meaning L d) a b p)
      → (step L d (Receive slot)).answer.number ≡ 0 → Receives L May d (step L d (Receive slot)).desk slot
  unfolding step receive
  receive_transition May d slot passes = accepted_as (λ e. Receives L May d e slot) (receive_number L d slot) d _ (λ z. (receive_is_RECEIVE L W d May slot z passes).0)

  -- Where that test is Held, the guard is the published one.
  pub receive_transition_held : ((d : D) (slot : ℕ) → L.early d slot ≡ held_refusal (L.slots d) (L.message d) (L.message d slot))
      → (d : D) (slot : ℕ) → (step L d (Receive slot)).answer.number ≡ 0 → Receives L PaperGuard d (step L d (Receive slot)).desk slot
  receive_transition_held held d slot =
      receive_transition PaperGuard d slot (λ a b p l m e. held_is_the_guard L d a b p (subst (λ x. held_refusal (L.slots d) (L.message d) x ≡ 0) m (subst (λ n. n ≡ 0) (held d slot) e)))

-- ---- the answer of an accepted call, over any layout, lawful or not
-- what holds of the answer of a call whose tests give 0 holds of its answer, where its number is 0
answered_as : {D : Type 0} (n : ℕ) (d : D) (o : Outcome D) → (unless n d o).answer.number ≡ 0 → (unless n d o).answer ≡ o.answer
answered_as zero d o e = refl
answered_as (suc n) d o e = absurd (omega arith)

module _ {D : Type 0} (L : Layout D) where
  -- Make copy and delete: the value is the lowest empty slot, the message is the one that is posted, and the count is of the slots that were empty before.
  pub copy_answer : (d : D) (from to p : ℕ) → (step L d (MakeCopy from to p)).answer.number ≡ 0 → (step L d (MakeCopy from to p)).answer ≡ accepted_telling (empty_slots L d) (lowest_empty L d) (Copy from to p)
  unfolding step make_copy copied
  copy_answer d from to p = answered_as (copy_number L d from to p) d _

  pub delete_answer : (d : D) (site p : ℕ) → (step L d (Delete site p)).answer.number ≡ 0 → (step L d (Delete site p)).answer ≡ accepted_telling (empty_slots L d) (lowest_empty L d) (Decr site (L.owner d p) p)
  unfolding step delete deleted
  delete_answer d site p = answered_as (delete_number L d site p) d _

  -- Receive: the value is the slot, the message is the reply.
  pub receive_answer : (d : D) (slot : ℕ) → (step L d (Receive slot)).answer.number ≡ 0 → (step L d (Receive slot)).answer ≡ accepted slot (replied L d slot)
  unfolding step receive received
  receive_answer d slot = answered_as (receive_number L d slot) d _

  -- Ask: the value is 1 where the owner's counter is 0, else 0, and there is no message.
  pub ask_answer : (d : D) (site p : ℕ) → (step L d (Ask site p)).answer.number ≡ 0 → (step L d (Ask site p)).answer ≡ accepted (1 when eqb (L.counter d (L.owner d p) p) 0) Nothing
  unfolding step ask asked
  ask_answer d site p = answered_as (ask_number L d site p) d _
