-- The look over sites and slots is the machine's: a pointer is quiet on a desk just where it is on what the desk means.
use Prim.Native.Nat.{ℕ, ◌<◌}
use mathlib.Core.Path.{◌≡◌, refl, sym, ap, ◌∙◌}
use mathlib.Core.Logic.{◌↔◌}
use mathlib.Core.Bool.{false}
use native.Mathlib.Decide.{ℕ_discrete}
use native.Mathlib.Omega.{arith}
use lib.Dec.{eqb}
use borrow.Author.Tests.{ne_eqb, eqb-false}
use Rattle.moreau.specs.StateSpace.{Msg, COPY, DEC, INC_DEC, pointer, ⟅◌⟆}
use Rattle.moreau.specs.Claims.{Quiet as QuietConfig}
use Rattle.moreau.proofs.Bags.{one_elsewhere}
use Rattle.model.specs.declared.Posted.{Posted}
use Rattle.model.specs.declared.Posted.TheVariants.{Copy, Dec as Decr, IncDec, Nothing}
use Rattle.model.specs.Layout.{Layout}
use Rattle.model.specs.Calls.{lent_refusal}
use Rattle.model.specs.Laws.{Laws}
use Rattle.model.specs.Meaning.{meant, config_of, meaning}
use Rattle.model.specs.Demands.{names, Quiet}
use Rattle.model.proofs.PoolLaws.{total_of_zeros}
use Rattle.model.proofs.KeptLaws.{holds}
use Rattle.model.proofs.ReceiveTransition.{in_the_pool}

module _ {D : Type 0} (L : Layout D) (W : Laws L) where
  open L use {sites, pointers, cell, slots, message}

  -- where p is quiet, no slot holds a message m about it
  unheard : {p : ℕ} {d : D} (m : Msg) (q slot : ℕ) → slot < slots d → meant (message d slot) ≡ ⟅ m ⟆ → QuietConfig (meaning L d) p → pointer m ≡ q → eqb q p ≡ false
  unheard {p} {d} m q slot l e quiet same = other (ℕ_discrete q p)
    where
      other : Dec (q ≡ p) → eqb q p ≡ false
      other (yes z) = absurd (omega (arith, quiet.no_message m (same ∙ z), in_the_pool L W d slot m l e))
      other (no apart) = ne_eqb q p apart

  module _ (d : D) (p : ℕ) (good : lent_refusal L d ≡ 0) (lp : p < pointers d) where
    -- a slot that names p means a message about p
    unnamed : (x : Posted) (slot : ℕ) → slot < slots d → message d slot ≡ x → QuietConfig (meaning L d) p → names p x ≡ false
    unfolding meant
    unnamed (Copy a b q) slot l e quiet = unheard (COPY a b q) q slot l (ap meant e) quiet refl
    unnamed (Decr a b q) slot l e quiet = unheard (DEC a b q) q slot l (ap meant e) quiet refl
    unnamed (IncDec a b c q) slot l e quiet = unheard (INC_DEC a b q c) q slot l (ap meant e) quiet refl
    unnamed Nothing slot l e quiet = refl

    -- a message that does not name p means none about p
    elsewhere : (x : Posted) (m : Msg) → pointer m ≡ p → names p x ≡ false → meant x m ≡ 0
    unfolding meant
    elsewhere (Copy a b q) m about e = one_elsewhere (COPY a b q) m (λ z. eqb-false q p e (z ∙ about))
    elsewhere (Decr a b q) m about e = one_elsewhere (DEC a b q) m (λ z. eqb-false q p e (z ∙ about))
    elsewhere (IncDec a b c q) m about e = one_elsewhere (INC_DEC a b q c) m (λ z. eqb-false q p e (z ∙ about))
    elsewhere Nothing m about e = refl

    -- the look over sites and slots is the machine's
    pub quiet_means : QuietConfig (meaning L d) p ↔ Quiet L d p
    unfolding config_of
    quiet_means = (
      (λ quiet. record {
        no_holder = λ s ls apart. off s ls (sym (holds L d s p ls lp) ∙ quiet.no_holder s ls apart);
        no_message = λ slot l. unnamed (message d slot) slot l refl quiet;
      }),
      (λ quiet. record {
        no_holder = λ s ls apart. holds L d s p ls lp ∙ ap (λ (n : ℕ). eqb n 1) (quiet.no_holder s ls apart);
        no_message = λ m about. total_of_zeros (slots d) (λ slot. meant (message d slot) m) (λ slot l. elsewhere (message d slot) m about (quiet.no_message slot l));
      }),
    )
      where
        off : (s : ℕ) → s < sites d → eqb (cell d s p) 1 ≡ false → cell d s p ≡ 0
        off s ls e = omega (arith, W.cell_bit d good s p ls lp, eqb-false (cell d s p) 1 e)
