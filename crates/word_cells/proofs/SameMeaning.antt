-- The byte desk and the word desk that mean the same: they read the same, and every write leaves them so; so they answer the same, call for call.
use Prim.Native.Nat.{ℕ, zero, suc, ◌*◌, ◌/◌, ◌%◌, ◌^◌, ◌≤◌, ◌<◌}
use mathlib.Core.Path.{◌≡◌, refl, sym, ap, ◌∙◌, subst}
use mathlib.Core.Bool.{Bool, true, ◌&&◌}
use mathlib.Core.List.{List}
use native.Mathlib.Nat.{mod-lt, div-lt_iff_lt-mul, div-add-mod'}
use native.Mathlib.Omega.{arith}
use lib.Dec.{ltb, eqb}
use lib.ListN.{length, get_or}
use borrow.Author.Tests.{eqb-true, eq-eqb}
use Rattle.model.specs.Questions.{every}
use Rattle.model.specs.Calls.{held_refusal, lent_refusal}
use Rattle.model.specs.Laws.{Reads}
use Rattle.model.specs.Tables.{Desk, place, sizes_good, all_below}
use Rattle.model.specs.Flat.{byte_cells, held_slots, flat}
use Rattle.model.proofs.ShapeLaws.{byte_below_lem}
use Rattle.model.proofs.InWords.{Below, all_below_in_words}
use Rattle.model.proofs.PartLaws.{good}
use Rattle.model.proofs.FlatLaws.{flat_laws}
use Rattle.model.proofs.ReadsLaws.{then_cell}
use Rattle.model.proofs.SameAnswers.{ReadAlike, Alike, lent_alike}
use Rattle.model.proofs.LayoutsAlike.{held_same, Told, reading_alike}
use Rattle.word_cells.specs.WordCells.{bit, word_cells, WordDesk, lent_in_words, words}
use Rattle.word_cells.specs.InWords.{SameCells, MeanTheSame, with_words}
use Rattle.word_cells.proofs.BitLaws.{bit_most, bit_above, below_by_bits}
use Rattle.word_cells.proofs.WordLaws.{words_laws}

-- ---- places
-- each place of a table of S rows of G cells is that of a site and a pointer
pub record At (S G i : ℕ) : Type 0 where
  pub site : ℕ
  pub pointer : ℕ
  pub a_site : site < S
  pub a_pointer : pointer < G
  pub there : place G site pointer ≡ i

pub place_of : (S G i : ℕ) → i < S * G → At S G i
place_of S G i l = record {
  site = i / G;
  pointer = i % G;
  a_site = (div-lt_iff_lt-mul some).1 l;
  a_pointer = mod-lt i some;
  there = div-add-mod' i G;
}
  where
    some : 0 < G
    some = go G l
      where
        go : (g : ℕ) → i < S * g → 0 < g
        go zero k = omega arith
        go (suc g) k = omega arith

-- ---- the two receive tables pass 2
module _ {S G : ℕ} {cells table : List ℕ} (h : SameCells S G cells table) where
  pub words_below : (p : ℕ) → p < G → get_or table p 0 < 2 ^ S
  words_below p lp = below_by_bits (get_or table p 0) S (λ s l. h.none_above s p l lp)

  pub all_words_below : all_below (2 ^ S) table ≡ true
  unfolding Below
  all_words_below = (all_below_in_words (2 ^ S) table).1 (λ p l. words_below p (rw h.as_many_words at l))

  pub cells_are_bits : all_below 2 cells ≡ true
  unfolding Below
  cells_are_bits = (all_below_in_words 2 cells).1 (λ i l. one i (place_of S G i (rw h.as_many_cells at l)))
    where
      one : (i : ℕ) → At S G i → get_or cells i 0 < 2
      one i at =
          let e : get_or cells i 0 ≡ bit (get_or table at.pointer 0) at.site = ap (λ (k : ℕ). get_or cells k 0) (sym at.there) ∙ sym (h.bit_is_cell at.site at.pointer at.a_site at.a_pointer) in
          omega (arith, e, bit_most (get_or table at.pointer 0) at.site)

-- ---- a byte desk, and words in place of its cells
pub means : (d : Desk) (table : List ℕ) → SameCells d.S (length d.owners) d.receive table → MeanTheSame d (with_words d table)
means d table h = record { same_sites = refl; same_owners = refl; same_counters = refl; same_pool = refl; same_cells = h }

-- a word desk that means the same is the byte desk with words
module _ {d : Desk} {e : WordDesk} (m : MeanTheSame d e) where
  pub as_lent : with_words d e.receive ≡ e
  as_lent i = lent_in_words (m.same_sites i) (m.same_owners i) (m.same_counters i) e.receive (m.same_pool i)

  pub so_of : (P : WordDesk → Type 0) → P (with_words d e.receive) → P e
  so_of P h = subst P as_lent h

module _ (d : Desk) (table : List ℕ) where
  -- ---- they read the same, in what they hold and in their tests
  read_alike : SameCells d.S (length d.owners) d.receive table → ReadAlike flat words d (with_words d table)
  read_alike h =
      let fit : eqb (length d.receive) (d.S * length d.owners) ≡ eqb (length table) (length d.owners) = eq-eqb _ _ h.as_many_cells ∙ sym (eq-eqb _ _ h.as_many_words) in
      let bitwise : all_below 2 d.receive ≡ all_below (2 ^ d.S) table = cells_are_bits h ∙ sym (all_words_below h) in
      record {
        same = refl;
        counters = λ s p ls lp. refl;
        cells = λ s p ls lp. sym (h.bit_is_cell s p ls lp);
        empties = λ i l. refl;
        messages = λ i l. refl;
        shapes = ap (λ b. desk_shape b) fit;
        owners = refl;
        tables = ap (λ b. desk_tables b) bitwise;
        earlies = λ i l. refl;
      }
    where
      desk_shape : Bool → Bool
      desk_shape b = sizes_good d.S (length d.owners) && (eqb (length d.send) (d.S * length d.owners) && b && held_slots.fits d.S d.pool)

      desk_tables : Bool → Bool
      desk_tables b = all_below d.S d.owners && b && held_slots.slots_good d.S (length d.owners) d.pool

  -- ---- good tables whose cells are the bits mean the same
  pub cells_same : lent_refusal flat d ≡ 0 → lent_refusal words (with_words d table) ≡ 0
      → ((s p : ℕ) → s < d.S → p < length d.owners → flat.cell d s p ≡ words.cell (with_words d table) s p)
      → SameCells d.S (length d.owners) d.receive table
  cells_same e f same =
      let g = good byte_cells held_slots d e in
      let k = good word_cells held_slots (with_words d table) f in
      let as_many = eqb-true (length table) (length d.owners) k.receive_fits in
      record {
        as_many_cells = eqb-true _ _ g.receive_fits;
        as_many_words = as_many;
        bit_is_cell = λ s p ls lp. sym (same s p ls lp);
        none_above = λ s p ls lp. bit_above (get_or table p 0) d.S s (byte_below_lem (2 ^ d.S) table p (rw as_many lp) k.receive_bits) ls;
      }

-- ---- every write leaves them so
module _ (d : Desk) (table : List ℕ) (h : SameCells d.S (length d.owners) d.receive table) where
  clears_alike : flat.shaped d ≡ true → flat.owned d ≡ true → MeanTheSame (flat.cleared d) (words.cleared (with_words d table))
  clears_alike shaped owned =
      let x = flat_laws.clears d shaped owned in
      let y = words_laws.clears (with_words d table) (sym (read_alike d table h).shapes ∙ shaped) owned in
      means (flat.cleared d) (word_cells.owned d.S d.owners)
      (cells_same (flat.cleared d) (word_cells.owned d.S d.owners) x.good y.good (λ s p ls lp. x.as_cells s p ls lp ∙ sym (y.as_cells s p ls lp)))

  -- good byte cells read as the bits
  read_as_bits : lent_refusal flat d ≡ 0 → Reads flat d d (flat.counter d) (words.cell (with_words d table)) (flat.message d)
  read_as_bits e = record { good = e; same = refl; as_counters = λ s p ls lp. refl; as_cells = λ s p ls lp. sym (h.bit_is_cell s p ls lp); as_messages = λ i l. refl }

  cell_alike : (s p n : ℕ) → lent_refusal flat d ≡ 0 → s < d.S → p < length d.owners → n ≤ 1 → MeanTheSame (flat.set_cell d s p n) (words.set_cell (with_words d table) s p n)
  cell_alike s p n e ls lp ln =
      let x = then_cell flat flat_laws (read_as_bits e) s p n ls lp ln in
      let y = words_laws.sets_cell (with_words d table) s p n (sym (lent_alike flat words d (with_words d table) (read_alike d table h)) ∙ e) ls lp ln in
      let after = word_cells.set_in (length d.owners) table s p n in
      means (flat.set_cell d s p n) after
      (cells_same (flat.set_cell d s p n) after x.good y.good (λ t q lt lq. x.as_cells t q lt lq ∙ sym (y.as_cells t q lt lq)))

-- Byte desks and word desks that mean the same read alike, and the same write in both leaves desks that mean the same.
pub meaning_alike : Alike flat words MeanTheSame
meaning_alike = record {
  reads = λ {d} {e} m. so_of m (λ x. ReadAlike flat words d x) (read_alike d e.receive m.same_cells);
  clears = λ {d} {e} m shaped owned. so_of m (λ x. MeanTheSame (flat.cleared d) (words.cleared x)) (clears_alike d e.receive m.same_cells shaped owned);
  sets_counter = λ {d} {e} m s p n good ls lp. so_of m (λ x. MeanTheSame (flat.set_counter d s p n) (words.set_counter x s p n)) (means (flat.set_counter d s p n) e.receive m.same_cells);
  sets_cell = λ {d} {e} m s p n good ls lp ln. so_of m (λ x. MeanTheSame (flat.set_cell d s p n) (words.set_cell x s p n)) (cell_alike d e.receive m.same_cells s p n good ls lp ln);
  posts = λ {d} {e} m i x good li w. so_of m (λ y. MeanTheSame (flat.post d i x) (words.post y i x)) (means (flat.post d i x) e.receive m.same_cells);
  handles = λ {d} {e} m i good li. so_of m (λ y. MeanTheSame (flat.handled d i) (words.handled y i)) (means (flat.handled d i) e.receive m.same_cells);
}

-- Held and the test of the owners look at no more than what is read; so desks of the two layouts that read alike go on so.
told : Told flat words
unfolding all_below
told = record {
  owners_told = λ d e f i. every (f i).pointers (λ p. ltb ((f i).owner p) (f i).sites);
  earlies_told = λ d e f same slot l.
      held_same (flat.slots d) (flat.message d) (words.message e) same (flat.message d slot)
      ∙ (λ i. held_refusal (f i).slots (words.message e) (same slot l i));
}

pub reads_alike : Alike flat words (ReadAlike flat words)
reads_alike = reading_alike flat words flat_laws words_laws told
