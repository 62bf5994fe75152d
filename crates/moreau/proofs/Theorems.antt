-- Theorems 6 and 9 of Moreau (1998), for any guard that implies the weak one.
use Prim.Native.Nat.{ℕ, zero, suc, ◌<◌}
use mathlib.Core.Path.{◌≡◌, refl, sym, ◌∙◌}
use mathlib.Core.Logic.{◌≢◌, ◌↔◌}
use mathlib.Core.Bool.{true, true≢false}
use native.Mathlib.Omega.{arith}
use Rattle.moreau.specs.StateSpace.{Msg, pointer, ◌∈◌, Config}
use Rattle.moreau.specs.Transitions.{Guard, WeakGuard, Reachable, ◌implies◌}
use Rattle.moreau.specs.Claims.{Quiet}
use Rattle.moreau.proofs.Messages.{formed}
use Rattle.moreau.proofs.Reached.{sound}
use Rattle.moreau.proofs.Quiet.{zero_iff_quiet, in_transit_counts}

module _ {May : Guard} (i : May implies WeakGuard) {D : Config} (r : Reachable May D) (p : ℕ) (l : p < D.pointers) where
  -- The owner's counter is 0 exactly when no site but the owner holds GP and no message related to GP is in transit
  pub owner_zero_iff_quiet : (D.send (D.owner p) p ≡ 0) ↔ Quiet D p
  owner_zero_iff_quiet = zero_iff_quiet D (formed r) p l (sound i r p l)

  -- Theorem 6 (Safety): where a site other than the owner holds GP, the owner's counter is above 0
  pub theorem_6 : (s : ℕ) → s < D.sites → s ≢ D.owner p → D.rec s p ≡ true → 0 < D.send (D.owner p) p
  theorem_6 s k d h = go (D.send (D.owner p) p) refl
    where
      go : (n : ℕ) → D.send (D.owner p) p ≡ n → 0 < D.send (D.owner p) p
      go zero e = absurd (true≢false (sym h ∙ (owner_zero_iff_quiet.0 e).no_holder s k d))
      go (suc n) e = omega arith

  -- While a message related to GP is in transit, the owner's counter is above 0
  pub in_transit_above_zero : (m : Msg) → pointer m ≡ p → m ∈ D.pool → 0 < D.send (D.owner p) p
  in_transit_above_zero = in_transit_counts D (formed r) p l (sound i r p l)

  -- Theorem 9 (GC Liveness): where no site but the owner holds GP, and no message related to GP is in transit, the owner's counter is 0
  pub theorem_9 : Quiet D p → D.send (D.owner p) p ≡ 0
  theorem_9 = owner_zero_iff_quiet.1
