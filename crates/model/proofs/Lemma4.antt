-- Lemma 4 on the desk: where the machine's invariant stands, the counter of a site that is not the owner is the number of messages that act on it.
use Prim.Native.Nat.{ℕ, zero, suc, ◌+◌, ◌<◌}
use mathlib.Core.Path.{◌≡◌, refl, sym, ap, ◌∙◌}
use mathlib.Core.Logic.{◌≢◌}
use mathlib.Core.Bool.{Bool, ◌&&◌}
use native.Mathlib.Decide.{ℕ_discrete}
use lib.Dec.{eqb}
use borrow.Author.Tests.{eq-eqb, ne_eqb}
use Rattle.moreau.specs.StateSpace.{Msg, COPY, DEC, INC_DEC, pointer, BagOf, ∅, ⟅◌⟆}
use Rattle.moreau.specs.Counts.{◌if◌is◌, total as total_of, under, Each}
use Rattle.moreau.proofs.Bags.{one_elsewhere}
use Rattle.moreau.proofs.Totals.{Within, total_union, total_empty, total_one}
use Rattle.model.specs.declared.Posted.{Posted}
use Rattle.model.specs.declared.Posted.TheVariants.{Copy, Dec as Decr, IncDec, Nothing}
use Rattle.model.specs.Refusals.{◌when◌}
use Rattle.model.specs.Questions.{total}
use Rattle.model.specs.Layout.{Layout}
use Rattle.model.specs.Laws.{Inside, Laws}
use Rattle.model.specs.Survey.{controls, in_flight}
use Rattle.model.specs.Meaning.{meant, config_of}
use Rattle.model.proofs.TestLaws.{and_true, and_false}
use Rattle.model.proofs.PoolLaws.{total_same}
use Rattle.model.proofs.KeptLaws.{sent}
use Rattle.model.proofs.ReachedLaws.{Stands}

-- the machine's total over the slots' bags is the total over the slots
total_of_slots : (S p : ℕ) (w : Msg → ℕ) (n : ℕ) (bags : ℕ → BagOf Msg) → total_of S p w (λ m. total n (λ i. bags i m)) ≡ total n (λ i. total_of S p w (bags i))
unfolding total
total_of_slots S p w zero bags = total_empty S p w ∅ (λ m e. refl)
total_of_slots S p w (suc n) bags =
    total_union S p w (λ m. total n (λ i. bags i m)) (bags n)
    ∙ ap (λ (k : ℕ). k + total_of S p w (bags n)) (total_of_slots S p w n bags)

-- one message m, under control of the site t
one_controlled : (S p s t : ℕ) (m : Msg) → Within S m → under s Each m ≡ (1 if t is s) → total_of S p (under s Each) ⟅ m ⟆ ≡ (1 when (eqb t s && eqb (pointer m) p))
unfolding ◌if◌is◌
one_controlled S p s t m w u = go (ℕ_discrete (pointer m) p)
  where
    go : Dec (pointer m ≡ p) → total_of S p (under s Each) ⟅ m ⟆ ≡ (1 when (eqb t s && eqb (pointer m) p))
    go (yes e) =
        ap (λ (q : ℕ). total_of S q (under s Each) ⟅ m ⟆) (sym e)
        ∙ total_one S (under s Each) m w
        ∙ u
        ∙ sym (ap (λ (b : Bool). 1 when (eqb t s && b)) (eq-eqb (pointer m) p e) ∙ ap (λ (b : Bool). 1 when b) (and_true (eqb t s)))
    go (no apart) =
        total_empty S p (under s Each) ⟅ m ⟆ (λ x about. one_elsewhere m x (λ z. apart (z ∙ about)))
        ∙ sym (ap (λ (b : Bool). 1 when (eqb t s && b)) (ne_eqb (pointer m) p apart) ∙ ap (λ (b : Bool). 1 when b) (and_false (eqb t s)))

-- the message of a slot
slot_controlled : (S G p s : ℕ) (x : Posted) → Inside S G x → total_of S p (under s Each) (meant x) ≡ controls s p x
unfolding meant
slot_controlled S G p s (Copy a b q) w = one_controlled S p s a (COPY a b q) (w.0, w.1) refl
slot_controlled S G p s (Decr a b q) w = one_controlled S p s b (DEC a b q) (w.0, w.1) refl
slot_controlled S G p s (IncDec a b c q) w = one_controlled S p s c (INC_DEC a b q c) (w.0, w.1, w.2) refl
slot_controlled S G p s Nothing w = total_empty S p (under s Each) ∅ (λ m e. refl)

module _ {D : Type 0} (L : Layout D) (W : Laws L) {d : D} (t : Stands L d) (p : ℕ) (lp : p < L.pointers d) where
  open L use {sites, pointers, owner, counter, slots, message}

  -- The counter of a site that is not the owner is the number of messages in flight that act on it.
  pub counter_is_messages_under_control : (s : ℕ) → s < sites d → s ≢ owner d p → counter d s p ≡ in_flight L d (controls s p)
  unfolding config_of
  counter_is_messages_under_control s ls apart =
      sym (sent L d s p ls lp)
      ∙ (t.there.sound p lp).books s apart
      ∙ total_of_slots (sites d) p (under s Each) (slots d) (λ i. meant (message d i))
      ∙ total_same (slots d) (λ i. total_of (sites d) p (under s Each) (meant (message d i))) (λ i. controls s p (message d i))
      (λ i l. slot_controlled (sites d) (pointers d) p s (message d i) (W.inside d t.good i l))
