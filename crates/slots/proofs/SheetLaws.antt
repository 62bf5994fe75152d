-- The rows of the first slots: none, one slot more, and how much an entry can be.
use Prim.Native.Nat.{ℕ, ◌+◌, ◌-◌, ◌≤◌, ◌<◌}
use mathlib.Core.Path.{◌≡◌, refl, sym, ◌∙◌}
use mathlib.Core.Logic.{◌≢◌}
use mathlib.Core.Bool.{false, ◌&&◌, not}
use mathlib.Core.List.{List, []}
use native.Mathlib.Omega.{arith}
use lib.Dec.{eqb}
use lib.ListN.{get_or, set}
use borrow.Author.Tests.{eq-eqb, ne_eqb}
use Rattle.model.specs.declared.Posted.{Posted}
use Rattle.model.specs.declared.Posted.TheVariants.{Copy, Dec, IncDec, Nothing}
use Rattle.model.specs.Questions.{total, up_to}
use Rattle.model.specs.Messages.{kind_of, pointer_of, is_nothing}
use Rattle.model.specs.Layout.{Layout}
use Rattle.model.specs.Calls.{lent_refusal}
use Rattle.model.specs.Laws.{Inside, Laws}
use Rattle.model.specs.Survey.{column, entered, blank_sheet}
use Rattle.model.proofs.TestLaws.{and_false, at_most_1}
use Rattle.model.proofs.QuestionLaws.{total_more, total_most}
use Rattle.slots.proofs.PointerLaws.{of_pointer, other_fields}
use Rattle.slots.specs.FirstSlots.{weighed, amount, entries}
use Rattle.slots.proofs.CountLaws.{counted_more}
use Rattle.slots.proofs.GridLaws.{up_to_alike, grid_at, grid_raised}

-- ---- one message is entered at its own place alone
own_place : (p : ℕ) (m : Posted) → entered p (kind_of m - 1 + 1) (column m) m ≡ amount p m
own_place p (Copy a b q) = rw (eq-eqb a a refl)
own_place p (Dec a b q) = rw (eq-eqb b b refl)
own_place p (IncDec a b c q) = rw (eq-eqb c c refl)
own_place p Nothing = refl

other_row : (p row site : ℕ) (m : Posted) → row ≢ kind_of m - 1 → entered p (row + 1) site m ≡ 0
other_row p row site m apart = rw (ne_eqb (kind_of m) (row + 1) (λ e. apart (omega arith)))

pub other_column : (p kind site : ℕ) (m : Posted) → site ≢ column m → entered p kind site m ≡ 0
other_column p kind site m apart = rw (ne_eqb (column m) site (λ e. apart (sym e)), and_false (eqb (kind_of m) kind))

-- a message of another pointer is entered nowhere
not_entered : (p row site : ℕ) (m : Posted) → of_pointer p m ≡ false → entered p (row + 1) site m ≡ 0
not_entered p row site (Copy a b q) e = rw (other_fields (eqb 1 (row + 1)) (eqb a site) e)
not_entered p row site (Dec a b q) e = rw (other_fields (eqb 2 (row + 1)) (eqb b site) e)
not_entered p row site (IncDec a b c q) e = rw (other_fields (eqb 3 (row + 1)) (eqb c site) e)
not_entered p row site Nothing e = rw (ne_eqb 0 (row + 1) (λ z. omega arith))

pub amount_at_most_1 : (p : ℕ) (m : Posted) → amount p m ≤ 1
amount_at_most_1 p m = at_most_1 (not (is_nothing m) && eqb (pointer_of m) p)

-- there are three rows, and the column of a message of good tables is a site
pub row_below_3 : (m : Posted) → kind_of m - 1 < 3
row_below_3 (Copy a b q) = omega arith
row_below_3 (Dec a b q) = omega arith
row_below_3 (IncDec a b c q) = omega arith
row_below_3 Nothing = omega arith

column_inside : (sites pointers : ℕ) (m : Posted) → 1 ≤ sites → Inside sites pointers m → column m < sites
column_inside sites pointers (Copy a b q) some w = w.0
column_inside sites pointers (Dec a b q) some w = w.1
column_inside sites pointers (IncDec a b c q) some w = w.2
column_inside sites pointers Nothing some w = some

pub column_is_site : {D : Type 0} (L : Layout D) → Laws L → (d : D) → lent_refusal L d ≡ 0 → (slot : ℕ) → slot < L.slots d → column (L.message d slot) < L.sites d
column_is_site L laws d e slot l = column_inside (L.sites d) (L.pointers d) (L.message d slot) (laws.some_site d e).0 (laws.inside d e slot l)

-- ---- the first slots of a pool
module _ (message : ℕ → Posted) (p : ℕ) where
  -- the entry of a row and a site
  abbrev entry : ℕ → ℕ → ℕ → ℕ
  entry n row site = weighed message n (entered p (row + 1) site)

  pub no_entries : blank_sheet ≡ entries message p 0
  unfolding total up_to
  no_entries = refl

  pub entry_at : (n row site : ℕ) → row < 3 → site < 64 → get_or (get_or (entries message p n) row []) site 0 ≡ entry n row site
  entry_at n row site lr ls = grid_at 3 64 (entry n) row site lr ls

  -- at most one for each slot
  pub entry_at_most : {rows : List (List ℕ)} (n row site : ℕ) → rows ≡ entries message p n → row < 3 → site < 64 → get_or (get_or rows row []) site 0 ≤ n
  entry_at_most n row site e lr ls =
      rw (e, entry_at n row site lr ls) (total_most (λ slot. entered p (row + 1) site (message slot)) n (λ slot. at_most_1 (eqb (kind_of (message slot)) (row + 1) && eqb (column (message slot)) site && eqb (pointer_of (message slot)) p)))

  -- one slot more, of another pointer
  pub entries_kept : (i : ℕ) → of_pointer p (message i) ≡ false → entries message p i ≡ entries message p (i + 1)
  entries_kept i other =
      up_to_alike [] 3 (λ row. up_to 64 (entry i row)) (λ row. up_to 64 (entry (i + 1) row))
      (λ row lr. up_to_alike 0 64 (entry i row) (entry (i + 1) row)
      (λ site ls. omega (arith, total_more (λ slot. entered p (row + 1) site (message slot)) i, not_entered p row site (message i) other)))

  -- one slot more: what its message counts is added in its message's row and column
  pub entries_more : (i row site w : ℕ) → row ≡ kind_of (message i) - 1 → site ≡ column (message i) → w ≡ amount p (message i) → site < 64
      → set (entries message p i) row (set (get_or (entries message p i) row []) site (get_or (get_or (entries message p i) row []) site 0 + w)) ≡ entries message p (i + 1)
  entries_more i row site w er es ew ls =
      let m = message i in
      grid_raised 3 64 (entry i) row site (rw er (row_below_3 m)) ls (entry (i + 1)) w
      (counted_more (λ slot. entered p (row + 1) site (message slot)) i refl (rw (er, es) (ew ∙ sym (own_place p m))))
      (λ other apart. omega (arith, total_more (λ slot. entered p (row + 1) other (message slot)) i, other_column p (row + 1) other m (rw (← es) apart)))
      (λ other any apart. omega (arith, total_more (λ slot. entered p (other + 1) any (message slot)) i, other_row p other any m (rw (← er) apart)))
