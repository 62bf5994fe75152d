-- What S and owners that pass 1 and 2 are.
use Prim.Native.Nat.{ℕ, ◌≤◌, ◌<◌}
use mathlib.Core.Path.{◌≡◌}
use mathlib.Core.Bool.{true, not}
use mathlib.Core.List.{List}
use lib.ListN.{length, get_or}
use borrow.Author.Tests.{not-false}
use Rattle.model.specs.Refusals.{◌when◌}
use Rattle.model.specs.Tables.{sizes_good, all_below, owners_refusal}
use Rattle.model.proofs.TestLaws.{when_not, or_else_none}
use Rattle.model.proofs.ShapeLaws.{sized, byte_below_lem}

owners_pass : (s : ℕ) (owners : List ℕ) → owners_refusal s owners ≡ 0 → (sizes_good s (length owners) ≡ true) × (all_below s owners ≡ true)
unfolding owners_refusal
owners_pass s owners e =
    let h = or_else_none (1 when not (sizes_good s (length owners))) (2 when not (all_below s owners)) e in
    (not-false _ (when_not 0 (not (sizes_good s (length owners))) h.0), not-false _ (when_not 1 (not (all_below s owners)) h.1))

-- at most 256 owners, each below S
pub owners_few : (s : ℕ) (owners : List ℕ) → owners_refusal s owners ≡ 0 → length owners ≤ 256
owners_few s owners e = (sized s (length owners) (owners_pass s owners e).0).few_pointers

pub owner_inside : (s : ℕ) (owners : List ℕ) → owners_refusal s owners ≡ 0 → (p : ℕ) → p < length owners → get_or owners p 0 < s
owner_inside s owners e p l = byte_below_lem s owners p l (owners_pass s owners e).1
