-- Demand 3: where the machine's invariant stands, the owner's counter is 0 exactly when the pointer is quiet. It stands on every reached desk.
use Prim.Native.Nat.{ℕ, ◌<◌}
use mathlib.Core.Path.{◌≡◌, refl, sym, ap, ◌∙◌}
use mathlib.Core.Logic.{◌↔◌}
use mathlib.Core.Bool.{Bool, true, false, ◌||◌}
use native.Mathlib.Decide.{ℕ_discrete}
use native.Mathlib.Omega.{arith}
use lib.Dec.{eqb}
use borrow.Author.Tests.{eq-eqb, ne_eqb, eqb-true, lt-ltb, not-true}
use Rattle.moreau.proofs.Quiet.{zero_iff_quiet}
use Rattle.model.specs.declared.Posted.TheVariants.{Nothing}
use Rattle.model.specs.Answers.{Answer}
use Rattle.model.specs.declared.Call.TheVariants.{Ask}
use Rattle.model.specs.Refusals.{◌when◌}
use Rattle.model.specs.Answers.{accepted}
use Rattle.model.specs.Questions.{every}
use Rattle.model.specs.Layout.{Layout}
use Rattle.model.specs.Calls.{front, ask_number, asked, ask, step}
use Rattle.model.specs.Laws.{Laws}
use Rattle.model.specs.Meaning.{config_of, meaning}
use Rattle.model.specs.Demands.{names, Quiet, not_holding, not_naming, look}
use Rattle.model.proofs.TestLaws.{true_not_false, same_test, and_both}
use Rattle.model.proofs.QuestionLaws.{every_at, every_all}
use Rattle.model.proofs.RowLaws.{false_when}
use Rattle.model.proofs.Exactly.{number_of_unless}
use Rattle.model.proofs.Accepted.{ask_accepted}
use Rattle.model.proofs.KeptLaws.{sent}
use Rattle.model.proofs.QuietLaws.{quiet_means}
use Rattle.model.proofs.ReachedLaws.{Stands}

module _ {D : Type 0} (L : Layout D) where
  open L use {sites, owner, cell, slots, message}

  -- The look over every site and every message finds none exactly where the pointer is quiet, on any memory.
  pub look_iff_quiet : (d : D) (p : ℕ) → (look L d p ≡ true) ↔ Quiet L d p
  unfolding look
  look_iff_quiet d p = (
    (λ e.
        let b = and_both (every (sites d) (not_holding L d p)) (every (slots d) (not_naming L d p)) e in
        record {
          no_holder = λ s l apart. eqb-true (cell d s p) 0 (other_site (eqb s (owner d p)) _ (ne_eqb s (owner d p) apart) (every_at (not_holding L d p) (sites d) s l b.0));
          no_message = λ slot l. not-true _ (every_at (not_naming L d p) (slots d) slot l b.1);
        }),
    (λ quiet.
        let holders = every_all (not_holding L d p) (sites d) (λ s l. by_site s l quiet (ℕ_discrete s (owner d p))) in
        let messages = every_all (not_naming L d p) (slots d) (λ slot l. false_when _ (quiet.no_message slot l)) in
        rw (holders, messages)),
  )
    where
      other_site : (a b : Bool) → a ≡ false → (a || b) ≡ true → b ≡ true
      other_site true b f e = true_not_false f
      other_site false b f e = e

      by_site : (s : ℕ) → s < sites d → Quiet L d p → Dec (s ≡ owner d p) → not_holding L d p s ≡ true
      by_site s l quiet (yes q) = rw (eq-eqb s (owner d p) q)
      by_site s l quiet (no apart) = rw (ne_eqb s (owner d p) apart, eq-eqb (cell d s p) 0 (quiet.no_holder s l apart))

module _ {D : Type 0} (L : Layout D) (W : Laws L) {d : D} (s : Stands L d) where
  open L use {sites, pointers, owner, counter, slots, message}

  -- The owner's counter is 0 if and only if no other site holds the pointer and no message in flight names it.
  pub counter_zero_iff_quiet : (p : ℕ) → p < pointers d → (counter d (owner d p) p ≡ 0) ↔ Quiet L d p
  unfolding config_of
  counter_zero_iff_quiet p lp =
      let own = W.owner_inside d s.good p lp in
      let same = sent L d (owner d p) p own lp in
      let machine = zero_iff_quiet (meaning L d) s.there.well_formed p lp (s.there.sound p lp) in
      let look = quiet_means L W d p s.good lp in
      ((λ z. look.0 (machine.0 (same ∙ z))), (λ quiet. sym same ∙ machine.1 (look.1 quiet)))

  -- ask at the owner is accepted, and its value says whether the counter is 0
  asked_at_owner : (p : ℕ) → p < pointers d → (step L d (Ask (owner d p) p)).answer ≡ accepted (1 when eqb (counter d (owner d p) p) 0) Nothing
  unfolding step ask ask_number asked front
  asked_at_owner p lp =
      let own = W.owner_inside d s.good p lp in
      rw (s.good, lt-ltb (owner d p) (sites d) own, lt-ltb p (pointers d) lp, eq-eqb (owner d p) (owner d p) refl)

  -- Ask answers 1 exactly when the pointer is quiet.
  pub ask_says_quiet : (p : ℕ) → p < pointers d → ((step L d (Ask (owner d p) p)).answer ≡ accepted 1 Nothing) ↔ Quiet L d p
  ask_says_quiet p lp =
      let iff = counter_zero_iff_quiet p lp in (
        (λ e. iff.0 (one_when (counter d (owner d p) p) (ap (λ (a : Answer). a.value) (sym (asked_at_owner p lp) ∙ e)))),
        (λ quiet. asked_at_owner p lp ∙ ap (λ (b : Bool). accepted (1 when b) Nothing) (eq-eqb _ _ (iff.1 quiet))),
      )
    where
      one_when : (n : ℕ) → (1 when eqb n 0) ≡ 1 → n ≡ 0
      one_when n = go (eqb n 0) refl
        where
          go : (b : Bool) → eqb n 0 ≡ b → (1 when b) ≡ 1 → n ≡ 0
          go true q e = eqb-true n 0 q
          go false q e = absurd (omega arith)

  -- Ask always tells what the look over every site and every message finds: 1 where it finds none, 0 where it finds one.
  pub ask_tells_the_look : (p : ℕ) → p < pointers d → (step L d (Ask (owner d p) p)).answer ≡ accepted (1 when look L d p) Nothing
  ask_tells_the_look p lp =
      let iff = counter_zero_iff_quiet p lp in
      let looked = look_iff_quiet L d p in
      let same =
      same_test (eqb (counter d (owner d p) p) 0) (look L d p)
      (λ z. looked.1 (iff.0 (eqb-true _ _ z))) (λ e. eq-eqb _ _ (iff.1 (looked.0 e))) in
      asked_at_owner p lp ∙ ap (λ (b : Bool). accepted (1 when b) Nothing) same

  -- So does every ask that is accepted, whatever site it names.
  pub accepted_ask_tells_the_look : (site p : ℕ) → (step L d (Ask site p)).answer.number ≡ 0 → (step L d (Ask site p)).answer ≡ accepted (1 when look L d p) Nothing
  unfolding step ask asked
  accepted_ask_tells_the_look site p e =
      let a = ask_accepted L W d site p (sym (number_of_unless (ask_number L d site p) d (asked L d p) refl) ∙ e) in
      rw a.at_owner (ask_tells_the_look p a.a_pointer)

  -- The incident: while any message names a pointer, ask at its owner answers 0.
  pub ask_waits_for_messages : (p slot : ℕ) → p < pointers d → slot < slots d → names p (message d slot) ≡ true
      → (step L d (Ask (owner d p) p)).answer ≡ accepted 0 Nothing
  ask_waits_for_messages p slot lp l named =
      asked_at_owner p lp
      ∙ ap (λ (b : Bool). accepted (1 when b) Nothing) (ne_eqb _ _ (λ z. true_not_false (sym named ∙ ((counter_zero_iff_quiet p lp).0 z).no_message slot l)))
