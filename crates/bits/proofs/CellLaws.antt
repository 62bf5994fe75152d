-- Byte cells as words: a cell is a bit, and the cells of a pointer are a word of 64 bits.
use Prim.Native.Nat.{ℕ, suc, ◌+◌, ◌*◌, ◌^◌, ◌≤◌, ◌<◌}
use mathlib.Core.Path.{◌≡◌, sym, ◌∙◌}
use mathlib.Core.Bool.{true}
use mathlib.Core.List.{List, map}
use native.Mathlib.Nat.{lt_of_lt_of_le}
use native.Mathlib.Omega.{arith}
use lib.ListN.{length, get_or, length-map}
use lib.Pow.{pow_mono}
use Rattle.model.specs.Questions.{total}
use Rattle.model.specs.Tables.{place, all_below}
use Rattle.model.proofs.ShapeLaws.{byte_below_lem}
use Rattle.model.proofs.PlaceLaws.{place_inside}
use Rattle.tables.proofs.FillLaws.{Filled, filled_none}
use Rattle.word_cells.specs.WordCells.{packed_word}
use Rattle.word_cells.proofs.BitLaws.{sum_below}

-- ---- an opening's words
pub owners_none : (owners words : List ℕ) → length words ≡ length owners → Filled (map (λ owner. 2 ^ owner) owners) words words 0
owners_none owners words e = filled_none _ words (length-map owners (λ (owner : ℕ). 2 ^ owner) ∙ sym e)

-- ---- a word from the cells of a pointer
module _ (S G : ℕ) (cells : List ℕ) (p : ℕ) (long : length cells ≡ S * G) (bits : all_below 2 cells ≡ true) (lp : p < G) where
  pub cell_inside : (s : ℕ) → s < S → place G s p < length cells
  cell_inside s l = rw long (place_inside S G s p l lp)

  pub cell_most : (s : ℕ) → s < S → get_or cells (place G s p) 0 ≤ 1
  cell_most s l = omega (arith, byte_below_lem 2 cells (place G s p) (cell_inside s l) bits)

  -- the cells of the first sites and one more
  pub packed_fits : (s : ℕ) → s < S → S ≤ 64 → packed_word s G cells p + get_or cells (place G s p) 0 * 2 ^ s < 2 ^ 64
  unfolding total
  packed_fits s l few =
      lt_of_lt_of_le (sum_below (suc s) (λ t. get_or cells (place G t p) 0) (λ t k. cell_most t (omega arith))) (pow_mono {i = suc s} {j = 64} (omega arith))
