-- Demand 2, the converse: where the published machine permits a transition, the desk accepts the call.
use Prim.Native.Nat.{ℕ, ◌≤◌, ◌<◌}
use mathlib.Core.Path.{◌≡◌, refl, sym, ap, ◌∙◌, subst}
use mathlib.Core.Logic.{◌≢◌, ◌⊎◌, inl, inr}
use mathlib.Core.Bool.{true, false}
use mathlib.Core.List.{[]}
use native.Mathlib.Omega.{arith}
use borrow.Author.Tests.{eqb-true, ne_eqb, lt-ltb}
use Rattle.moreau.specs.StateSpace.{Msg, COPY, DEC, INC_DEC, BagOf, ⟅◌⟆}
use Rattle.moreau.specs.Transformers.{MayCopy, MayReceive, MayDelete}
use Rattle.moreau.specs.Transitions.{PaperGuard}
use Rattle.moreau.proofs.Bags.{one_same}
use Rattle.model.specs.declared.Posted.{Posted}
use Rattle.model.specs.declared.Posted.TheVariants.{Copy, Dec as Decr, IncDec, Nothing}
use Rattle.model.specs.declared.Call.TheVariants.{MakeCopy, Receive, Delete}
use Rattle.model.specs.Messages.{is_nothing, receiver, pointer_of, receive_refusal}
use Rattle.model.specs.Layout.{Layout}
use Rattle.model.specs.Calls.{front, copy_number, copied, make_copy, receive_number, received, receive, delete_number, deleted, delete, held_refusal, lent_refusal, step}
use Rattle.model.specs.Laws.{Laws}
use Rattle.model.specs.Meaning.{meant, config_of, meaning}
use Rattle.model.specs.Demands.{FirstOf, NoSlotEmpty, copy_rows, delete_rows}
use Rattle.model.proofs.TestLaws.{true_not_false}
use Rattle.model.proofs.RowLaws.{passed_over}
use Rattle.model.proofs.Exactly.{number_of_unless, lent_passed, copy_exactly, delete_exactly}
use Rattle.model.proofs.HeldLaws.{the_guard_is_held}
use Rattle.model.proofs.KeptLaws.{sent, holds}
use Rattle.model.proofs.ReceiveTransition.{one_bag}

none_left : (n : ℕ) → FirstOf [] n → n ≡ 0
unfolding FirstOf
none_left n f = f

-- a slot that means one message is not empty
not_empty : (x : Posted) (m : Msg) → meant x ≡ ⟅ m ⟆ → is_nothing x ≡ false
unfolding meant
not_empty (Copy a b p) m q = refl
not_empty (Decr a b p) m q = refl
not_empty (IncDec a b c p) m q = refl
not_empty Nothing m q = absurd (omega (arith, ap (λ (M : BagOf Msg). M m) q, one_same m))

too_large : {a n : ℕ} → a < n → n ≤ a → ⊥
too_large l h = omega arith

module _ {D : Type 0} (L : Layout D) (W : Laws L) where
  open L use {sites, pointers, owner, counter, cell, slots, empty, message, early}

  -- Where the machine permits MAKE_COPY, the names are in range, the sender's counter stands below 65,535 and a slot is empty, make copy is accepted.
  pub copy_permitted : (d : D) (from to p slot : ℕ) → lent_refusal L d ≡ 0 → from < sites d → to < sites d → p < pointers d → MayCopy from to p (meaning L d)
      → counter d from p < 65535 → slot < slots d → empty d slot ≡ true → (step L d (MakeCopy from to p)).answer.number ≡ 0
  unfolding config_of step make_copy copied
  copy_permitted d from to p slot e lf lt lp may low ls free =
      let n = copy_number L d from to p in
      number_of_unless n d _ refl ∙ none_left n
      (passed_over 7 (NoSlotEmpty L d) _ n (λ full. true_not_false (sym free ∙ full slot ls))
      (passed_over 6 (counter d from p ≡ 65535) _ n (λ z. omega arith)
      (passed_over 5 ((from ≢ owner d p) × (cell d from p ≡ 0)) _ n (reaches may.access)
      (passed_over 4 (from ≡ to) _ n may.apart
      (passed_over 3 ((sites d ≤ from) ⊎ ((sites d ≤ to) ⊎ (pointers d ≤ p))) _ n in_range
      (lent_passed L d (copy_rows L d from to p) n e (copy_exactly L d from to p)))))))
    where
      in_range : (sites d ≤ from) ⊎ ((sites d ≤ to) ⊎ (pointers d ≤ p)) → ⊥
      in_range (inl h) = too_large lf h
      in_range (inr (inl h)) = too_large lt h
      in_range (inr (inr h)) = too_large lp h

      reaches : (from ≡ (meaning L d).owner p) ⊎ ((meaning L d).rec from p ≡ true) → (from ≢ owner d p) × (cell d from p ≡ 0) → ⊥
      reaches (inl q) why = why.0 q
      reaches (inr t) why = omega (arith, eqb-true (cell d from p) 1 (sym (holds L d from p lf lp) ∙ t), why.1)

  -- Where the machine permits DELETE, the names are in range and a slot is empty, delete is accepted.
  pub delete_permitted : (d : D) (site p slot : ℕ) → lent_refusal L d ≡ 0 → site < sites d → p < pointers d → MayDelete site p (meaning L d)
      → slot < slots d → empty d slot ≡ true → (step L d (Delete site p)).answer.number ≡ 0
  unfolding config_of step delete deleted
  delete_permitted d site p slot e ls lp may lk free =
      let n = delete_number L d site p in
      number_of_unless n d _ refl ∙ none_left n
      (passed_over 7 (NoSlotEmpty L d) _ n (λ full. true_not_false (sym free ∙ full slot lk))
      (passed_over 12 (counter d site p ≢ 0) _ n (λ why. why (sym (sent L d site p ls lp) ∙ may.unsent))
      (passed_over 5 (cell d site p ≡ 0) _ n (λ z. omega (arith, eqb-true (cell d site p) 1 (sym (holds L d site p ls lp) ∙ may.held)))
      (passed_over 11 (site ≡ owner d p) _ n (λ q. may.other (sym q))
      (passed_over 3 ((sites d ≤ site) ⊎ (pointers d ≤ p)) _ n in_range
      (lent_passed L d (delete_rows L d site p) n e (delete_exactly L d site p)))))))
    where
      in_range : (sites d ≤ site) ⊎ (pointers d ≤ p) → ⊥
      in_range (inl h) = too_large ls h
      in_range (inr h) = too_large lp h

  -- where the machine permits RECEIVE, a message's own tests pass
  own_passed : (d : D) (x : Posted) (m : Msg) → meant x ≡ ⟅ m ⟆ → MayReceive m
      → ((a b p : ℕ) → m ≡ DEC a b p → 0 < counter d b p) → ((a b p c : ℕ) → m ≡ INC_DEC a b p c → counter d b p < 65535)
      → receive_refusal x (counter d (receiver x) (pointer_of x)) ≡ 0
  unfolding meant
  own_passed d (Copy a b p) m q may lowered raised = rw (ne_eqb a b (λ e. subst MayReceive (sym (one_bag (COPY a b p) m q)) may e))
  own_passed d (Decr a b p) m q may lowered raised =
      rw (ne_eqb (counter d b p) 0 (λ z. omega (arith, lowered a b p (sym (one_bag (DEC a b p) m q)))))
  own_passed d (IncDec a b c p) m q may lowered raised =
      rw (ne_eqb (counter d b p) 65535 (λ z. omega (arith, raised a b p c (sym (one_bag (INC_DEC a b p c) m q)))))
  own_passed d Nothing m q may lowered raised = refl

  -- Where the machine permits RECEIVE of the message of a slot, the layout's own test does not hold it back, a counter to be lowered stands above 0 and one to be raised below 65,535, receive is accepted.
  pub receive_permitted : (d : D) (slot : ℕ) (m : Msg) → lent_refusal L d ≡ 0 → slot < slots d → meant (message d slot) ≡ ⟅ m ⟆ → MayReceive m
      → early d slot ≡ 0
      → ((a b p : ℕ) → m ≡ DEC a b p → 0 < counter d b p) → ((a b p c : ℕ) → m ≡ INC_DEC a b p c → counter d b p < 65535)
      → (step L d (Receive slot)).answer.number ≡ 0
  unfolding step receive received receive_number front
  receive_permitted d slot m e ls q may in_time lowered raised =
      let used : is_nothing (message d slot) ≡ false = not_empty (message d slot) m q in
      rw (e, lt-ltb slot (slots d) ls, W.empties d e slot ls, used, in_time, own_passed d (message d slot) m q may lowered raised)

  -- Where that test is Held, the published guard passes it.
  pub receive_permitted_held : ((d : D) (slot : ℕ) → early d slot ≡ held_refusal (slots d) (message d) (message d slot))
      → (d : D) (slot : ℕ) (m : Msg) → lent_refusal L d ≡ 0 → slot < slots d → meant (message d slot) ≡ ⟅ m ⟆ → MayReceive m
      → ((a b p : ℕ) → m ≡ DEC a b p → PaperGuard (meaning L d) a b p)
      → ((a b p : ℕ) → m ≡ DEC a b p → 0 < counter d b p) → ((a b p c : ℕ) → m ≡ INC_DEC a b p c → counter d b p < 65535)
      → (step L d (Receive slot)).answer.number ≡ 0
  unfolding meant
  receive_permitted_held held d slot m e ls q may guard = receive_permitted d slot m e ls q may (held d slot ∙ go (message d slot) q)
    where
      go : (x : Posted) → meant x ≡ ⟅ m ⟆ → held_refusal (slots d) (message d) x ≡ 0
      go (Copy a b p) q = refl
      go (Decr a b p) q = the_guard_is_held L d a b p (guard a b p (sym (one_bag (DEC a b p) m q)))
      go (IncDec a b c p) q = refl
      go Nothing q = refl
