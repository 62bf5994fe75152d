-- An accepted opening: its answer, what every counter, cell and slot reads as, and what it means; over any lawful layout.
use Prim.Native.Nat.{ℕ, suc}
use mathlib.Core.Path.{◌≡◌, refl, sym, ap, ◌∙◌}
use mathlib.Core.Bool.{Bool, true, false, not}
use lib.Dec.{eqb}
use borrow.Author.Tests.{not-false}
use Rattle.moreau.specs.StateSpace.{initial}
use Rattle.model.specs.Answers.{Answer}
use Rattle.model.specs.declared.Posted.TheVariants.{Nothing}
use Rattle.model.specs.Refusals.{BadShape, BadTable, ◌when◌, ◌or_else◌}
use Rattle.model.specs.Answers.{accepted, refused, Outcome}
use Rattle.model.specs.Layout.{Layout}
use Rattle.model.specs.Calls.{open_refusal, open_desk}
use Rattle.model.specs.Laws.{Reads, Laws}
use Rattle.model.specs.Meaning.{meaning}
use Rattle.model.specs.Demands.{Opened, opened}
use Rattle.model.proofs.TestLaws.{when_not, or_else_none}
use Rattle.model.proofs.Exactly.{number_of_unless}
use Rattle.model.proofs.MeaningLaws as MeaningLaws

module _ {D : Type 0} (L : Layout D) where
  open L use {sites, pointers, owner, shaped, owned, cleared}

  -- neither 1 nor 2
  pub opening_passed : (d : D) → open_refusal L d ≡ 0 → (shaped d ≡ true) × (owned d ≡ true)
  unfolding open_refusal
  opening_passed d e =
      let q = or_else_none (1 when not (shaped d)) (2 when not (owned d)) e in
      (not-false _ (when_not 0 _ q.0), not-false _ (when_not 1 _ q.1))

  -- its outcome
  pub opening_whole : (d : D) → open_refusal L d ≡ 0 → open_desk L d ≡ record { answer = accepted 0 Nothing; desk = cleared d }
  unfolding open_desk
  opening_whole d e = rw e

  -- of a good shape the owners decide
  by_owners : (d : D) (t : Bool) → shaped d ≡ true → owned d ≡ t → open_refusal L d ≡ BadTable when not t
  unfolding open_refusal
  by_owners d t e f = λ w. BadShape when not (e w) or_else BadTable when not (f w)

  -- at each place where its code returns
  module _ (d : D) {r : Answer} where
    refused_as : (n : ℕ) → open_refusal L d ≡ suc n → r ≡ refused (suc n) → record { answer = r; desk = d } ≡ open_desk L d
    unfolding open_desk
    refused_as n e q = rw (e, q)

    pub shape_refused : shaped d ≡ false → r ≡ refused 1 → record { answer = r; desk = d } ≡ open_desk L d
    unfolding open_refusal
    shape_refused e q = refused_as 0 (ap (λ t. BadShape when not t or_else BadTable when not (owned d)) e) q

    pub owners_refused : shaped d ≡ true → owned d ≡ false → r ≡ refused 2 → record { answer = r; desk = d } ≡ open_desk L d
    owners_refused e f q = refused_as 1 (by_owners d false e f) q

    pub opened_as : shaped d ≡ true → owned d ≡ true → {left : D} → left ≡ cleared d → r ≡ accepted 0 Nothing → record { answer = r; desk = left } ≡ open_desk L d
    opened_as e f c q = (λ w. record { answer = q w; desk = c w }) ∙ sym (opening_whole d (by_owners d true e f))

  -- the number of an opening is that of its tests
  pub opening_number : (d : D) → (open_desk L d).answer.number ≡ 0 → open_refusal L d ≡ 0
  unfolding open_desk
  opening_number d e = sym (number_of_unless (open_refusal L d) d (record { answer = accepted 0 Nothing; desk = cleared d }) refl) ∙ e

  pub opening_opens : (d : D) → (open_desk L d).answer.number ≡ 0 → Opened L (open_desk L d).desk
  opening_opens d e = opened d (opening_number d e)

  -- An accepted opening has value 0 and no message.
  pub opening_answer : (d : D) → (open_desk L d).answer.number ≡ 0 → (open_desk L d).answer ≡ accepted 0 Nothing
  opening_answer d e = ap (λ (o : Outcome D). o.answer) (opening_whole d (opening_number d e))

  module _ (W : Laws L) where
    -- Every counter is 0, every cell 1 at the owner and 0 elsewhere, every slot empty.
    pub opening_leaves : (d : D) → (open_desk L d).answer.number ≡ 0
        → Reads L d (open_desk L d).desk (λ s p. 0) (λ s p. 1 when eqb s (owner d p)) (λ i. Nothing)
    opening_leaves d e =
        let z = opening_number d e in
        let q = opening_passed d z in
        rw (opening_whole d z) (W.clears d q.0 q.1)

    -- It means the initial configuration of the machine.
    pub opening_means : (d : D) → (open_desk L d).answer.number ≡ 0 → meaning L (open_desk L d).desk ≡ initial (sites d) (pointers d) (owner d)
    opening_means d e =
        let z = opening_number d e in
        let q = opening_passed d z in
        rw (opening_whole d z) (MeaningLaws.opening_means L W d q.0 q.1)
