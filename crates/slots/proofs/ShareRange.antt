-- A share lies from minus 1,024 to 1,025, whatever is lent.
use Prim.Native.Nat.{ℕ, ◌≤◌}
use mathlib.Core.Path.{◌≡◌}
use native.Mathlib.Omega.{arith}
use native.Mathlib.Decide.{ℕ_discrete}
use lib.IntN.{pos, negsuc}
use lib.Signed.{◌≤ℤ◌, le_z_yes}
use borrow.Author.Tests.{eq-eqb, ne_eqb}
use Rattle.model.specs.Layout.{Layout}
use Rattle.model.specs.Laws.{Laws}
use Rattle.model.specs.Survey.{share_number, share_plus, share_minus, share}
use Rattle.model.proofs.FrontLaws.{Named}
use Rattle.slots.proofs.NumberLaws.{share_named}
use Rattle.slots.proofs.CountLaws.{plus_at_most, minus_at_most}
use Rattle.slots.proofs.SignedLaws.{balance_between}

module _ {D : Type 0} (L : Layout D) (laws : Laws L) (d : D) (site p : ℕ) where
  -- of good tables: the cell, and one for each slot
  pub share_plus_at_most : Named L d site p → share_plus L d site p ≤ 1025
  unfolding share_plus
  share_plus_at_most n =
      omega (arith, plus_at_most (L.message d) (L.slots d) site (L.owner d p) p, laws.few_slots d n.good, laws.cell_bit d n.good site p n.a_site n.a_pointer)

  -- of good tables: one for each slot
  pub share_minus_at_most : Named L d site p → share_minus L d site p ≤ 1024
  unfolding share_minus
  share_minus_at_most n = omega (arith, minus_at_most (L.message d) (L.slots d) site (L.owner d p) p, laws.few_slots d n.good)

  -- of all lent tables, also after a refusal
  pub share_between : (negsuc 1023 ≤ℤ (share L d site p).share) × ((share L d site p).share ≤ℤ pos 1025)
  unfolding share
  share_between = go (ℕ_discrete (share_number L d site p) 0)
    where
      go : Dec (share_number L d site p ≡ 0) → (negsuc 1023 ≤ℤ (share L d site p).share) × ((share L d site p).share ≤ℤ pos 1025)
      go (yes e) = let n = share_named L d site p e in rw (eq-eqb _ _ e) (balance_between 1025 1023 (share_plus L d site p) (share_minus L d site p) (share_plus_at_most n) (share_minus_at_most n))
      go (no e) = rw (ne_eqb _ _ e) (le_z_yes tt, le_z_yes tt)
