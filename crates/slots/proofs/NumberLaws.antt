-- What a question knows once its number is 0.
use Prim.Native.Nat.{ℕ}
use mathlib.Core.Path.{◌≡◌}
use mathlib.Core.Bool.{◌&&◌}
use lib.Dec.{ltb, eqb}
use Rattle.model.specs.Refusals.{IsOwner, ◌when◌}
use Rattle.model.specs.Layout.{Layout}
use Rattle.model.specs.Calls.{lent_refusal, front}
use Rattle.model.specs.Survey.{share_number, sheet_number}
use Rattle.model.proofs.TestLaws.{or_else_none}
use Rattle.model.proofs.FrontLaws.{front_passed, Named, both_named}

module _ {D : Type 0} (L : Layout D) (d : D) where
  pub share_named : (site p : ℕ) → share_number L d site p ≡ 0 → Named L d site p
  unfolding share_number
  share_named site p e =
      both_named L d site p (or_else_none (front L d (ltb site (L.sites d) && ltb p (L.pointers d))) (IsOwner when eqb site (L.owner d p)) e).0

  pub sheet_good : (p : ℕ) → sheet_number L d p ≡ 0 → lent_refusal L d ≡ 0
  unfolding sheet_number
  sheet_good p e = (front_passed L d (ltb p (L.pointers d)) e).0
