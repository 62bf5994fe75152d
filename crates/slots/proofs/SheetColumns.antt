-- Columns at or above S are 0, whatever is lent; after a refusal all are.
use Prim.Native.Nat.{ℕ, ◌+◌, ◌≤◌, ◌<◌}
use mathlib.Core.Path.{◌≡◌, ap, ◌∙◌}
use mathlib.Core.Logic.{◌≢◌}
use mathlib.Core.List.{List, []}
use native.Mathlib.Omega.{arith}
use native.Mathlib.Decide.{ℕ_discrete}
use lib.ListN.{get_or}
use borrow.Author.Tests.{eq-eqb, ne_eqb}
use Rattle.model.specs.Questions.{total}
use Rattle.model.specs.Layout.{Layout}
use Rattle.model.specs.Laws.{Laws}
use Rattle.model.specs.Survey.{entered, blank_sheet, in_flight, sheet_number, sheet}
use Rattle.model.proofs.PoolLaws.{total_of_zeros}
use Rattle.slots.proofs.NumberLaws.{sheet_good}
use Rattle.slots.proofs.SheetLaws.{no_entries, entry_at, other_column, column_is_site}

module _ {D : Type 0} (L : Layout D) (d : D) (p : ℕ) where
  pub blank_after_refusal : sheet_number L d p ≢ 0 → sheet L d p ≡ blank_sheet
  unfolding sheet
  blank_after_refusal refused = rw (ne_eqb (sheet_number L d p) 0 refused)

  module _ (row site : ℕ) (lr : row < 3) (ls : site < 64) where
    blank_at : get_or (get_or blank_sheet row []) site 0 ≡ 0
    unfolding total
    blank_at = ap (λ (rows : List (List ℕ)). get_or (get_or rows row []) site 0) (no_entries (L.message d) p) ∙ entry_at (L.message d) p 0 row site lr ls

    -- each entry of an accepted sheet is a count of its own
    pub entry_counts : sheet_number L d p ≡ 0 → get_or (get_or (sheet L d p) row []) site 0 ≡ in_flight L d (entered p (row + 1) site)
    unfolding sheet
    entry_counts e = rw (eq-eqb (sheet_number L d p) 0 e) (entry_at (L.message d) p (L.slots d) row site lr ls)

    -- no good slot has a message that acts on the counter of a site at or above S
    pub column_above_sites : Laws L → L.sites d ≤ site → get_or (get_or (sheet L d p) row []) site 0 ≡ 0
    column_above_sites laws above = go (ℕ_discrete (sheet_number L d p) 0)
      where
        go : Dec (sheet_number L d p ≡ 0) → get_or (get_or (sheet L d p) row []) site 0 ≡ 0
        go (yes e) =
            entry_counts e
            ∙ total_of_zeros (L.slots d) (λ slot. entered p (row + 1) site (L.message d slot))
            (λ slot l. other_column p (row + 1) site (L.message d slot) (λ q. omega (arith, column_is_site L laws d (sheet_good L d p e) slot l)))
        go (no refused) = rw (blank_after_refusal refused) blank_at
