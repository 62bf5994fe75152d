-- What a call or a question knows once 1, 2 and 3 are not given, over any layout.
use Prim.Native.Nat.{ℕ, ◌<◌}
use mathlib.Core.Path.{◌≡◌}
use mathlib.Core.Bool.{Bool, true, ◌&&◌, not}
use lib.Dec.{ltb}
use borrow.Author.Tests.{not-false, ltb-true}
use Rattle.model.specs.Refusals.{BadName, ◌when◌}
use Rattle.model.specs.Layout.{Layout}
use Rattle.model.specs.Calls.{lent_refusal, front}
use Rattle.model.proofs.TestLaws.{when_not, or_else_none, and_both}

module _ {D : Type 0} (L : Layout D) (d : D) where
  -- what is lent is good, and the names are in range
  pub front_passed : (named : Bool) → front L d named ≡ 0 → (lent_refusal L d ≡ 0) × (named ≡ true)
  unfolding front
  front_passed named e =
      let q = or_else_none (lent_refusal L d) (BadName when not named) e in
      (q.0, not-false named (when_not 2 (not named) q.1))

  -- a site and a pointer in range, on good tables
  pub record Named (site p : ℕ) : Type 0 where
    pub good : lent_refusal L d ≡ 0
    pub a_site : site < L.sites d
    pub a_pointer : p < L.pointers d

  pub both_named : (site p : ℕ) → front L d (ltb site (L.sites d) && ltb p (L.pointers d)) ≡ 0 → Named site p
  both_named site p e =
      let q = front_passed (ltb site (L.sites d) && ltb p (L.pointers d)) e in
      let n = and_both (ltb site (L.sites d)) (ltb p (L.pointers d)) q.1 in
      record { good = q.0; a_site = ltb-true site (L.sites d) n.0; a_pointer = ltb-true p (L.pointers d) n.1 }
