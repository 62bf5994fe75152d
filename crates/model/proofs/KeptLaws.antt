-- What a write keeps, and how the tables of a configuration read.
use Prim.Native.Nat.{ℕ, ◌<◌}
use mathlib.Core.Path.{◌≡◌, sym, ap, ◌∙◌, subst, fun_ext}
use mathlib.Core.Bool.{Bool}
use native.Mathlib.Decide.{ℕ_discrete}
use lib.Dec.{eqb}
use Rattle.moreau.specs.StateSpace.{Config}
use Rattle.moreau.specs.Transformers.{assign, send_T◌≔◌, rec_T◌≔◌}
use Rattle.moreau.proofs.Tables.{assign_here, assign_site, assign_pointer}
use Rattle.model.specs.declared.Posted.{Posted}
use Rattle.model.specs.Layout.{Layout}
use Rattle.model.specs.Calls.{lent_refusal}
use Rattle.model.specs.Laws.{Frame, frame, Inside, Reads}
use Rattle.model.specs.Meaning.{config_of, meaning}
use Rattle.model.proofs.MeaningLaws.{within_inside}

-- an assignment of what stands there already
assign_same : {A : Type 0} (T : ℕ → ℕ → A) (s p : ℕ) (v : A) → T s p ≡ v → assign T s p v ≡ T
assign_same T s p v e = fun_ext (λ t. fun_ext (λ q. go t q (ℕ_discrete s t) (ℕ_discrete p q)))
  where
    go : (t q : ℕ) → Dec (s ≡ t) → Dec (p ≡ q) → assign T s p v t q ≡ T t q
    go t q (yes a) (yes b) = rw (← a, ← b) (assign_here T s p v ∙ sym e)
    go t q (yes a) (no apart) = assign_pointer T s p v t q apart
    go t q (no apart) _ = assign_site T s p v t q apart

-- an assignment of what stands there already leaves a configuration
pub same_send : (C : Config) (s p v : ℕ) → C.send s p ≡ v → (send_T (s, p) ≔ v) C ≡ C
same_send C s p v e = ap (λ (T : ℕ → ℕ → ℕ). record { sites = C.sites; pointers = C.pointers; owner = C.owner; send = T; rec = C.rec; pool = C.pool }) (assign_same C.send s p v e)

pub same_rec : (C : Config) (s p : ℕ) (v : Bool) → C.rec s p ≡ v → (rec_T (s, p) ≔ v) C ≡ C
same_rec C s p v e = ap (λ (T : ℕ → ℕ → Bool). record { sites = C.sites; pointers = C.pointers; owner = C.owner; send = C.send; rec = T; pool = C.pool }) (assign_same C.rec s p v e)

module _ {D : Type 0} (L : Layout D) where
  open L use {sites, pointers, owner, counter, cell, slots}

  -- what a write leaves: 1 and 2 pass, and the frame is the same
  pub record Kept (d e : D) : Type 0 where
    pub good : lent_refusal L e ≡ 0
    pub same : frame L e ≡ frame L d

  pub kept_sites : {d e : D} → Kept d e → {s : ℕ} → s < sites d → s < sites e
  kept_sites k {s} l = subst (λ n. s < n) (sym (ap (λ (f : Frame). f.sites) k.same)) l

  pub kept_pointers : {d e : D} → Kept d e → {p : ℕ} → p < pointers d → p < pointers e
  kept_pointers k {p} l = subst (λ n. p < n) (sym (ap (λ (f : Frame). f.pointers) k.same)) l

  pub kept_slots : {d e : D} → Kept d e → {i : ℕ} → i < slots d → i < slots e
  kept_slots k {i} l = subst (λ n. i < n) (sym (ap (λ (f : Frame). f.slots) k.same)) l

  pub kept_inside : {d e : D} → Kept d e → (m : Posted) → Inside (sites d) (pointers d) m → Inside (sites e) (pointers e) m
  kept_inside k m w = subst (λ (f : Frame). Inside f.sites f.pointers m) (sym k.same) w

  pub kept_by : {d e : D} {counters cells : ℕ → ℕ → ℕ} {messages : ℕ → Posted} → Reads L d e counters cells messages → Kept d e
  kept_by r = record { good = r.good; same = r.same }

  -- the meaning's tables inside
  pub sent : (d : D) (s p : ℕ) → s < sites d → p < pointers d → (meaning L d).send s p ≡ counter d s p
  unfolding config_of
  sent d s p ls lp = within_inside (sites d) (pointers d) (counter d) (λ s p. 0) s p ls lp

  pub holds : (d : D) (s p : ℕ) → s < sites d → p < pointers d → (meaning L d).rec s p ≡ eqb (cell d s p) 1
  unfolding config_of
  holds d s p ls lp = within_inside (sites d) (pointers d) (λ s p. eqb (cell d s p) 1) (λ s p. eqb (owner d p) s) s p ls lp
