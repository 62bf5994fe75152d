-- The receive table of an opening: a row cell by cell, and the table row by row.
use Prim.Native.Nat.{ℕ, ◌+◌, ◌-◌, ◌*◌, ◌≤◌, ◌<◌}
use mathlib.Core.Path.{◌≡◌, refl, sym, ap, ◌∙◌}
use mathlib.Core.Bool.{Bool, true, false}
use mathlib.Core.List.{List}
use native.Mathlib.Nat.{suc-mul, mul-le-mul_right}
use native.Mathlib.Omega.{arith}
use lib.Dec.{eqb}
use lib.ListN.{length, get_or, take, set, length-map, get_or-map}
use lib.Seq.{take_all}
use mir.Val.{bool_byte}
use borrow.Rule.Slice.PartMut.{mid_of, mid_len}
use Rattle.model.specs.Refusals.{◌when◌}
use Rattle.model.specs.Tables.{own_row, own_rows}
use Rattle.tables.proofs.FillLaws.{Filled, filled_none, filled_more}

-- ---- a row
abbrev own_cell : ℕ → ℕ → ℕ
own_cell site owner = 1 when eqb site owner

own_row_length : (site : ℕ) (owners : List ℕ) → length (own_row site owners) ≡ length owners
own_row_length site owners = length-map owners (own_cell site)

pub test_as_byte : (b : Bool) → bool_byte b ≡ 1 when b
test_as_byte true = refl
test_as_byte false = refl

pub row_none : (site : ℕ) (owners row : List ℕ) → length row ≡ length owners → Filled (own_row site owners) row row 0
row_none site owners row e = filled_none (own_row site owners) row (own_row_length site owners ∙ sym e)

pub row_more : (site : ℕ) (owners before later : List ℕ) (p : ℕ) → p < length later → Filled (own_row site owners) before later p
    → Filled (own_row site owners) before (set later p (bool_byte (eqb site (get_or owners p 0)))) (p + 1)
row_more site owners before later p l f =
    filled_more p (bool_byte (eqb site (get_or owners p 0))) (own_cell site 0) l
    (test_as_byte (eqb site (get_or owners p 0)) ∙ sym (get_or-map (own_cell site) owners p 0)) f

-- ---- the rows
-- at stands at the row of a site, and the rows before it are written
pub record Rowed (owners before later : List ℕ) (at site : ℕ) : Type 0 where
  pub place : at ≡ site * length owners
  pub long : length later ≡ length before
  pub front : take at later ≡ own_rows site owners

module _ (s : ℕ) (owners before : List ℕ) (whole : length before ≡ s * length owners) {later : List ℕ} {at site : ℕ} (r : Rowed owners before later at site) where
  pub row_inside : site < s → at + length owners ≤ length later
  row_inside l = omega (arith, suc-mul site (length owners), mul-le-mul_right (length owners) l)

  pub row_length : site < s → length (mid_of at (at + length owners - at) later) ≡ length owners
  row_length l = mid_len at (at + length owners) later (row_inside l) ∙ omega arith

  pub rows_all : s ≤ site → site ≤ s → later ≡ own_rows s owners
  rows_all l h =
      let q : site ≡ s = omega arith in
      sym (take_all at later (omega (arith, ap (λ (n : ℕ). n * length owners) q))) ∙ r.front ∙ ap (λ (n : ℕ). own_rows n owners) q
