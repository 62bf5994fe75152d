-- A share's answer, accepted.
use Prim.Native.Nat.{ℕ}
use mathlib.Core.Path.{◌≡◌}
use lib.IntN.{ℤ}
use Rattle.model.specs.Layout.{Layout}
use Rattle.model.specs.Survey.{share_number, share_of, share}

module _ {D : Type 0} (L : Layout D) (d : D) (site p : ℕ) where
  pub accepted_share : {z : ℤ} → share_number L d site p ≡ 0 → z ≡ share_of L d site p → record { number = 0; share = z } ≡ share L d site p
  unfolding share
  accepted_share e q = rw (e, q)
