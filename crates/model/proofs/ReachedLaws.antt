-- What the machine has at first and keeps, every reached desk means; so on every reached desk the machine's invariant stands.
use Prim.Native.Nat.{ℕ, zero, suc, ◌<◌}
use mathlib.Core.Path.{◌≡◌, refl, sym, ap, subst}
use Rattle.moreau.specs.Transitions.{Guard, PaperGuard, WeakGuard, make_copy as makes_copy, receive as receives, delete as deletes}
use Rattle.moreau.specs.StateSpace.{DEC, Config}
use Rattle.moreau.proofs.Guards.{paper_guard_is_weak}
use Rattle.moreau.proofs.Reached.{Lasting, Standing, standing_lasts}
use Rattle.model.specs.declared.Posted.TheVariants.{Dec as Decr}
use Rattle.model.specs.declared.Call.{Call}
use Rattle.model.specs.declared.Call.TheVariants.{MakeCopy, Receive, Delete, Ask}
use Rattle.model.specs.Answers.{Outcome, unless}
use Rattle.model.specs.Layout.{Layout}
use Rattle.model.specs.Calls.{held_refusal, lent_refusal, copy_number, copied, make_copy, receive_number, received, receive, delete_number, deleted, delete, ask, step}
use Rattle.model.specs.Laws.{Frame, Laws}
use Rattle.model.specs.Meaning.{meant, config_of, meaning}
use Rattle.model.specs.Demands.{ReachedFrom, begins, moves, Opened, opened, Reached}
use Rattle.model.proofs.MeaningLaws.{opening_means}
use Rattle.model.proofs.OpeningLaws.{opening_passed, opening_whole}
use Rattle.model.proofs.Demand1.{ask_changes_nothing}
use Rattle.model.proofs.CopyAndDelete.{copy_is_MAKE_COPY, delete_is_DELETE}
use Rattle.model.proofs.ReceiveTransition.{in_the_pool, receive_is_RECEIVE}
use Rattle.model.proofs.HeldLaws.{held_is_the_guard}

-- what every desk has from which one begins, and every move keeps, every reached desk has
pub of_all_reached : {D Move : Type 0} {Start : D → Type 0} {after : D → Move → D} (P : D → Type 0) → ((d : D) → Start d → P d)
    → ((d : D) → ReachedFrom Start after d → P d → (m : Move) → P (after d m)) → {d : D} → ReachedFrom Start after d → P d
of_all_reached P first kept (begins {d = d} s) = first d s
of_all_reached P first kept (moves {d = d} r m) = kept d r (of_all_reached P first kept r) m

-- an outcome's desk, by whether the call is refused
pub by_number : {D : Type 0} (P : D → Type 0) (n : ℕ) (d : D) (o : Outcome D) → P d → (n ≡ 0 → P o.desk) → P (unless n d o).desk
by_number P zero d o same new = new refl
by_number P (suc n) d o same new = same

module _ {D : Type 0} (L : Layout D) where
  open L use {slots, message, early}

  -- lent memory that passes 1 and 2, and P of what it means
  pub record Means (P : Config → Type 0) (d : D) : Type 0 where
    pub good : lent_refusal L d ≡ 0
    pub there : P (meaning L d)

  -- what the theorems of demand 3 ask of lent memory: it passes 1 and 2, every message is well formed, and the machine's invariant holds of every pointer
  abbrev pub Stands : D → Type 0
  Stands = Means Standing

  -- the layout's own test lets a DEC of a slot pass only where the guard does
  abbrev pub GuardedAt : Guard → D → ℕ → Type 0
  GuardedAt May d slot = (a b p : ℕ) → slot < slots d → message d slot ≡ Decr a b p → early d slot ≡ 0 → May (meaning L d) a b p

  -- Held is the published guard
  pub guarded_by_held : ((d : D) (slot : ℕ) → early d slot ≡ held_refusal (slots d) (message d) (message d slot)) → (d : D) (slot : ℕ) → GuardedAt PaperGuard d slot
  guarded_by_held held d slot a b p l m e =
      held_is_the_guard L d a b p (subst (λ x. held_refusal (slots d) (message d) x ≡ 0) m (subst (λ n. n ≡ 0) (held d slot) e))

module _ {D : Type 0} (L : Layout D) (W : Laws L) where
  open L use {sites, pointers, owner, slots, message, early, cleared}

  -- and so the weak one
  pub guarded_weakly : (d : D) (slot : ℕ) → GuardedAt L PaperGuard d slot → GuardedAt L WeakGuard d slot
  unfolding meant
  guarded_weakly d slot guarded a b p l m e =
      paper_guard_is_weak (meaning L d) a b p (in_the_pool L W d slot (DEC a b p) l (ap meant m)) (guarded a b p l m e)

  -- ---- what lasts on the machine, an opening makes and each call keeps
  module _ {May : Guard} {P : Config → Type 0} (lasts : Lasting May P) where
    pub opening_makes : (d : D) → Opened L d → Means L P d
    opening_makes _ (opened d e) =
        let q = opening_passed L d e in
        let r = W.clears d q.0 q.1 in
        let owner_inside : (p : ℕ) → p < pointers d → owner d p < sites d = λ p lp.
        subst (λ (f : Frame). f.owner p < f.sites) r.same (W.owner_inside (cleared d) r.good p (subst (λ (f : Frame). p < f.pointers) (sym r.same) lp)) in
        rw (opening_whole L d e)
        (record { good = r.good; there = subst P (sym (opening_means L W d q.0 q.1)) (lasts.at_first (sites d) (pointers d) (owner d) owner_inside) })

    module _ {d : D} (h : Means L P d) where
      pub copy_keeps : (from to p : ℕ) → Means L P (make_copy L d from to p).desk
      unfolding make_copy config_of
      copy_keeps from to p = by_number (Means L P) (copy_number L d from to p) d (copied L d from to p) h (λ e.
          let c = copy_is_MAKE_COPY L W d from to p e in
          let i = c.0.in_range in
          record { good = c.1.good; there = subst P (sym c.0.after) (lasts.after h.there (makes_copy from to p i.0 i.1 i.2 c.0.may)) })

      pub receive_keeps : (slot : ℕ) → GuardedAt L May d slot → Means L P (receive L d slot).desk
      unfolding receive config_of
      receive_keeps slot guarded = by_number (Means L P) (receive_number L d slot) d (received L d slot) h (λ e.
          let c = receive_is_RECEIVE L W d May slot e guarded in
          record { good = c.1.good; there = subst P (sym c.0.after) (lasts.after h.there (receives c.0.m c.0.in_transit c.0.guard c.0.may)) })

      pub delete_keeps : (site p : ℕ) → Means L P (delete L d site p).desk
      unfolding delete config_of
      delete_keeps site p = by_number (Means L P) (delete_number L d site p) d (deleted L d site p) h (λ e.
          let c = delete_is_DELETE L W d site p e in
          let i = c.0.in_range in
          record { good = c.1.good; there = subst P (sym c.0.after) (lasts.after h.there (deletes site p i.0 i.1 c.0.may)) })

      pub ask_keeps : (site p : ℕ) → Means L P (ask L d site p).desk
      ask_keeps site p = subst (Means L P) (sym (ask_changes_nothing L d site p)) h

      pub call_keeps : ((slot : ℕ) → GuardedAt L May d slot) → (c : Call) → Means L P (step L d c).desk
      unfolding step
      call_keeps guarded (MakeCopy from to p) = copy_keeps from to p
      call_keeps guarded (Receive slot) = receive_keeps slot (guarded slot)
      call_keeps guarded (Delete site p) = delete_keeps site p
      call_keeps guarded (Ask site p) = ask_keeps site p

    -- so every reached desk means it, where the layout's own test is a guard there
    pub reached_means : ((d : D) → Reached L d → Means L P d → (slot : ℕ) → GuardedAt L May d slot) → {d : D} → Reached L d → Means L P d
    reached_means guarded = of_all_reached (Means L P) opening_makes (λ d r h c. call_keeps h (guarded d r h) c)

  -- An opened desk stands, and a call keeps what stands, reached or not, where a DEC passes the weak guard.
  pub stands_opened : (d : D) → Opened L d → Stands L d
  stands_opened = opening_makes standing_lasts

  pub stands_after_call : {d : D} → Stands L d → ((slot : ℕ) → GuardedAt L WeakGuard d slot) → (c : Call) → Stands L (step L d c).desk
  stands_after_call s = call_keeps standing_lasts s
