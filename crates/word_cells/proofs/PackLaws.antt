-- Byte cells as words and back: pack and unpack make the receive table that means the same, and there is no other.
use Prim.Native.Nat.{ℕ, zero, suc, ◌*◌, ◌^◌, ◌≤◌, ◌<◌}
use mathlib.Core.Path.{◌≡◌, refl, sym, ap, ◌∙◌}
use mathlib.Core.Logic.{◌≢◌, ⊎_elim}
use mathlib.Core.Bool.{Bool, true, false, not}
use mathlib.Core.List.{List, [], ◌∷◌, map}
use native.Mathlib.Decide.{dec_lt}
use native.Mathlib.Nat.{suc-mul, not-suc-le-zero, eq-or-lt_of_le, le_of_suc-le-suc}
use native.Mathlib.Omega.{arith}
use lib.Dec.{eqb}
use lib.ListN.{length, get_or, length-append, length-map, get_or-append}
use lib.Seq.{get_or-append-add, ext_get_or}
use borrow.Author.Tests.{eqb-true, eq-eqb, not-false, not-true, ltb-false, le-ltb}
use Rattle.model.specs.declared.Posted.TheVariants.{Nothing}
use Rattle.model.specs.Refusals.{BadShape, BadTable, ◌when◌, ◌or_else◌}
use Rattle.model.specs.Answers.{accepted, refused, Outcome, unless}
use Rattle.model.specs.Tables.{place, sizes_good, byte_below, all_below}
use Rattle.model.specs.InWords.{Sized}
use Rattle.model.specs.Demands.{◌because◌, FirstOf}
use Rattle.model.proofs.TestLaws.{true_not_false, and_both, when_not, or_else_none}
use Rattle.model.proofs.QuestionLaws.{every_fails, every_not, length_up_to, up_to_at}
use Rattle.model.proofs.PlaceLaws.{place_inside}
use Rattle.model.proofs.RowLaws.{by_test, last_test, false_when}
use Rattle.model.proofs.Exactly.{number_of_unless}
use Rattle.model.proofs.ShapeLaws.{byte_below_lem, sized}
use Rattle.model.proofs.InWords.{sizes_from_words}
use Rattle.word_cells.specs.WordCells.{bit, tables_fit, packed_word, packed, pack_number, pack, unpacked, unpack_number, unpack}
use Rattle.word_cells.specs.InWords.{SameCells, OtherSizes, pack_rows, unpack_rows}
use Rattle.word_cells.proofs.BitLaws.{bit_above, bit_over, same_bits, sum_below, bit_of_sum}
use Rattle.word_cells.proofs.WordLaws.{map_at}
use Rattle.word_cells.proofs.SameMeaning.{At, place_of, words_below}

-- ---- what pack writes
module _ (S G : ℕ) (cells : List ℕ) (as_many : length cells ≡ S * G) (bits : all_below 2 cells ≡ true) where
  cell_most : (p : ℕ) → p < G → (s : ℕ) → s < S → get_or cells (place G s p) 0 ≤ 1
  cell_most p lp s ls = let h = byte_below_lem 2 cells (place G s p) (rw as_many (place_inside S G s p ls lp)) bits in omega arith

  word_at : (p : ℕ) → p < G → get_or (packed S G cells) p 0 ≡ packed_word S G cells p
  unfolding packed
  word_at p lp = up_to_at G (packed_word S G cells) 0 p lp

  -- The words of byte cells that are 0 or 1 mean the same.
  pub packed_same : SameCells S G cells (packed S G cells)
  unfolding packed
  packed_same = record {
    as_many_cells = as_many;
    as_many_words = length_up_to G (packed_word S G cells);
    bit_is_cell = λ s p ls lp. ap (λ w. bit w s) (word_at p lp) ∙ bit_of_sum S (λ site. get_or cells (place G site p) 0) (cell_most p lp) s ls;
    none_above = λ s p ls lp. ap (λ w. bit w s) (word_at p lp) ∙ bit_above (packed_word S G cells p) S s (sum_below S (λ site. get_or cells (place G site p) 0) (cell_most p lp)) ls;
  }

-- ---- what unpack writes
length_unpacked : (s : ℕ) (table : List ℕ) → length (unpacked s table) ≡ s * length table
unfolding unpacked
length_unpacked zero table = omega arith
length_unpacked (suc s) table =
    length-append (unpacked s table) (map (λ word. bit word s) table)
    ∙ simp length-map (omega (arith, length_unpacked s table, suc-mul s (length table)))

unpacked_at : (sites : ℕ) (table : List ℕ) (s p : ℕ) → s < sites → p < length table → get_or (unpacked sites table) (place (length table) s p) 0 ≡ bit (get_or table p 0) s
unfolding unpacked
unpacked_at zero table s p ls lp = absurd (not-suc-le-zero ls)
unpacked_at (suc n) table s p ls lp =
    ⊎_elim
    (λ q. rw q (rw (← length_unpacked n table) (get_or-append-add (unpacked n table) (map (λ word. bit word n) table) p 0) ∙ map_at (λ word. bit word n) table p lp))
    (λ lt.
    get_or-append (unpacked n table) (map (λ word. bit word n) table) 0 (place (length table) s p) (rw (length_unpacked n table) (place_inside n (length table) s p lt lp))
    ∙ unpacked_at n table s p lt lp)
    (eq-or-lt_of_le (le_of_suc-le-suc ls))

-- The byte cells of words with no bit at or above S mean the same.
pub unpacked_same : (S : ℕ) (table : List ℕ) → all_below (2 ^ S) table ≡ true → SameCells S (length table) (unpacked S table) table
unpacked_same S table below = record {
  as_many_cells = length_unpacked S table;
  as_many_words = refl;
  bit_is_cell = λ s p ls lp. sym (unpacked_at S table s p ls lp);
  none_above = λ s p ls lp. bit_above (get_or table p 0) S s (byte_below_lem (2 ^ S) table p lp below) ls;
}

-- ---- there is no other
pub one_table : {S G : ℕ} {cells table other : List ℕ} → SameCells S G cells table → SameCells S G cells other → table ≡ other
one_table {S} {G} {cells} {table} {other} h k = ext_get_or 0 table other (h.as_many_words ∙ sym k.as_many_words) (λ p l. word p (rw h.as_many_words at l))
  where
    word : (p : ℕ) → p < G → get_or table p 0 ≡ get_or other p 0
    word p lp = same_bits (get_or table p 0) (get_or other p 0) S (words_below h p lp) (words_below k p lp) (λ s ls. h.bit_is_cell s p ls lp ∙ sym (k.bit_is_cell s p ls lp))

pub one_cells : {S G : ℕ} {cells other table : List ℕ} → SameCells S G cells table → SameCells S G other table → cells ≡ other
one_cells {S} {G} {cells} {other} {table} h k = ext_get_or 0 cells other (h.as_many_cells ∙ sym k.as_many_cells) (λ i l. cell i (place_of S G i (rw h.as_many_cells at l)))
  where
    cell : (i : ℕ) → At S G i → get_or cells i 0 ≡ get_or other i 0
    cell i at =
        let s = at.site in
        let p = at.pointer in
        ap (λ (j : ℕ). get_or cells j 0) (sym at.there)
        ∙ sym (h.bit_is_cell s p at.a_site at.a_pointer)
        ∙ k.bit_is_cell s p at.a_site at.a_pointer
        ∙ ap (λ (j : ℕ). get_or other j 0) at.there

-- ---- pack and unpack with their refusals
-- what is refused is as `unless` has it
pub refused_whole : {D : Type 0} (n : ℕ) (d : D) (o : Outcome D) → o.answer.number ≡ 0 → (unless n d o).answer.number ≢ 0 → unless n d o ≡ record { answer = refused (unless n d o).answer.number; desk = d }
refused_whole zero d o e given = absurd (given e)
refused_whole (suc n) d o e given = refl

-- 1 and 2 not given
passed : (a b : Bool) → BadShape when not a or_else BadTable when not b ≡ 0 → (a ≡ true) × (b ≡ true)
passed a b e = let q = or_else_none (BadShape when not a) (BadTable when not b) e in (not-false a (when_not 0 _ q.0), not-false b (when_not 1 _ q.1))

-- 1 in words
fit_in_words : (sites : ℕ) (cells table : List ℕ) → tables_fit sites cells table ≡ true → Sized sites (length table) × (length cells ≡ sites * length table)
fit_in_words sites cells table e =
    let q = and_both (sizes_good sites (length table)) (eqb (length cells) (sites * length table)) e in
    (sized sites (length table) q.0, eqb-true _ _ q.1)

fit_from_words : (sites : ℕ) (cells table : List ℕ) → Sized sites (length table) × (length cells ≡ sites * length table) → tables_fit sites cells table ≡ true
fit_from_words sites cells table h = rw (sizes_from_words sites (length table) h.0, eq-eqb (length cells) (sites * length table) h.1)

-- 1 exactly where the sizes are others; 2 exactly where its reason holds
rows_of : (sites : ℕ) (cells table : List ℕ) (b : Bool) (reason : Type 0) → (b ≡ false → reason) → (reason → b ≡ false)
    → FirstOf (BadShape because (OtherSizes sites cells table) ∷ BadTable because reason ∷ []) (BadShape when not (tables_fit sites cells table) or_else BadTable when not b)
rows_of sites cells table b reason yes-then then-yes =
    by_test 0 (not (tables_fit sites cells table)) (OtherSizes sites cells table) _ _
    (λ e h. true_not_false (sym (fit_from_words sites cells table h) ∙ not-true (tables_fit sites cells table) e))
    (λ other. false_when (tables_fit sites cells table) (go other (tables_fit sites cells table) refl))
    (last_test 1 (not b) reason (λ e. yes-then (not-true b e)) (λ why. false_when b (then-yes why)))
  where
    go : OtherSizes sites cells table → (x : Bool) → tables_fit sites cells table ≡ x → tables_fit sites cells table ≡ false
    go other true e = absurd (other (fit_in_words sites cells table e))
    go other false e = e

-- a number that is not below a limit
not_below : (n : ℕ) (l : List ℕ) → all_below n l ≡ false → (i : ℕ) × (i < length l) × (n ≤ get_or l i 0)
unfolding all_below
not_below n l e = let h = every_fails (byte_below n l) (length l) e in (h.0, h.1, ltb-false (get_or l h.0 0) n h.2)

not_all_below : (n : ℕ) (l : List ℕ) (i : ℕ) → i < length l → n ≤ get_or l i 0 → all_below n l ≡ false
unfolding all_below
not_all_below n l i li h = every_not (byte_below n l) (length l) i li (le-ltb (get_or l i 0) n h)

module _ (sites : ℕ) (cells table : List ℕ) where
  abbrev written : Outcome (List ℕ)
  written = record { answer = accepted 0 Nothing; desk = packed sites (length table) cells }

  -- Pack: 1, 2.
  pub pack_exactly : FirstOf (pack_rows sites cells table) (pack sites cells table).answer.number
  unfolding pack pack_number
  pack_exactly =
      rw (number_of_unless (pack_number sites cells table) table written refl)
      (rows_of sites cells table (all_below 2 cells) _ (not_below 2 cells) (λ why. not_all_below 2 cells why.0 why.1 why.2))

  pub pack_refused_leaves_all : (pack sites cells table).answer.number ≢ 0 → pack sites cells table ≡ record { answer = refused (pack sites cells table).answer.number; desk = table }
  unfolding pack
  pack_refused_leaves_all = refused_whole (pack_number sites cells table) table written refl

  pack_passed : pack_number sites cells table ≡ 0 → pack sites cells table ≡ written
  unfolding pack
  pack_passed e = rw e

  pub pack_writes : (pack sites cells table).answer.number ≡ 0 → ((pack sites cells table).answer ≡ accepted 0 Nothing) × SameCells sites (length table) cells (pack sites cells table).desk
  unfolding pack pack_number
  pack_writes e =
      let z = sym (number_of_unless (pack_number sites cells table) table written refl) ∙ e in
      let q = passed (tables_fit sites cells table) (all_below 2 cells) z in
      rw (pack_passed z) (refl, packed_same sites (length table) cells (fit_in_words sites cells table q.0).1 q.1)

-- a bit at or above S that is set makes a word that is not below 2 to the S
not_below_by_bit : (w S s : ℕ) → S ≤ s → bit w s ≡ 1 → 2 ^ S ≤ w
not_below_by_bit w S s l e = go (dec_lt w (2 ^ S))
  where
    go : Dec (w < 2 ^ S) → 2 ^ S ≤ w
    go (yes h) = absurd (omega (arith, e, bit_above w S s h l))
    go (no h) = omega arith

module _ (sites : ℕ) (table cells : List ℕ) where
  abbrev written_back : Outcome (List ℕ)
  written_back = record { answer = accepted 0 Nothing; desk = unpacked sites table }

  -- Unpack: 1, 2.
  pub unpack_exactly : FirstOf (unpack_rows sites table cells) (unpack sites table cells).answer.number
  unfolding unpack unpack_number
  unpack_exactly =
      rw (number_of_unless (unpack_number sites table cells) cells written_back refl)
      (rows_of sites cells table (all_below (2 ^ sites) table) _
      (λ e. let h = not_below (2 ^ sites) table e in let b = bit_over (get_or table h.0 0) sites h.2 in (h.0, b.0, h.1, b.1, b.2))
      (λ why. not_all_below (2 ^ sites) table why.0 why.2 (not_below_by_bit (get_or table why.0 0) sites why.1 why.3 why.4)))

  pub unpack_refused_leaves_all : (unpack sites table cells).answer.number ≢ 0 → unpack sites table cells ≡ record { answer = refused (unpack sites table cells).answer.number; desk = cells }
  unfolding unpack
  unpack_refused_leaves_all = refused_whole (unpack_number sites table cells) cells written_back refl

  unpack_passed : unpack_number sites table cells ≡ 0 → unpack sites table cells ≡ written_back
  unfolding unpack
  unpack_passed e = rw e

  pub unpack_writes : (unpack sites table cells).answer.number ≡ 0 → ((unpack sites table cells).answer ≡ accepted 0 Nothing) × SameCells sites (length table) (unpack sites table cells).desk table
  unfolding unpack unpack_number
  unpack_writes e =
      let z = sym (number_of_unless (unpack_number sites table cells) cells written_back refl) ∙ e in
      rw (unpack_passed z) (refl, unpacked_same sites table (passed (tables_fit sites cells table) (all_below (2 ^ sites) table) z).1)
