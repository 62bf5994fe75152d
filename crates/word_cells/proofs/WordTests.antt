-- Rows 1 and 2 in words: when what is lent to the word desk is well shaped, and when its tables are good.
use Prim.Native.Nat.{ℕ, ◌*◌, ◌/◌, ◌%◌, ◌^◌, ◌<◌}
use mathlib.Core.Path.{◌≡◌}
use mathlib.Core.Logic.{◌↔◌}
use mathlib.Core.Bool.{true, ◌&&◌}
use lib.Dec.{leb, eqb}
use lib.ListN.{length, get_or}
use borrow.Author.Tests.{leb-true, eqb-true, eq-eqb}
use Rattle.model.specs.Tables.{all_below, all_slots_good}
use Rattle.model.specs.Flat.{held_slots}
use Rattle.model.proofs.TestLaws.{and_both}
use Rattle.model.proofs.ShapeLaws.{sized, byte_below_lem}
use Rattle.model.proofs.PartLaws.{fitting}
use Rattle.model.proofs.InWords.{Below, all_below_in_words, slots_in_words, sizes_from_words, pool_from_words}
use Rattle.word_cells.specs.WordCells.{word_cells, WordDesk, word_of, words}
use Rattle.word_cells.specs.InWords.{ShapedInWords, GoodTablesInWords}
use Rattle.word_cells.proofs.BitLaws.{bit_above, below_by_bits}

-- BadShape is given exactly where S is not 1 to 64, G is above 256, there are not S x G counters or not G words, or the pool is not 0 to 1,024 slots of 5 bytes.
pub shape_in_words : (d : WordDesk) → (words.shaped d ≡ true) ↔ ShapedInWords d.S (length d.owners) (length d.send) (length d.receive) (length d.pool)
shape_in_words d = (
  (λ e.
      let f = fitting word_cells held_slots d e in
      let g = and_both (eqb (length d.pool % 5) 0) (leb (length d.pool / 5) 1024) f.pool_fits in
      record {
        sizes = sized d.S (length d.owners) f.sizes;
        send_length = f.send_length;
        as_many_words = eqb-true _ _ f.receive_fits;
        whole_slots = eqb-true _ _ g.0;
        few_slots = leb-true _ _ g.1;
      }),
  (λ h. rw (
    sizes_from_words d.S (length d.owners) h.sizes,
    eq-eqb (length d.send) (d.S * length d.owners) h.send_length,
    eq-eqb (length d.receive) (length d.owners) h.as_many_words,
    pool_from_words 5 (length d.pool) h.whole_slots h.few_slots,
  )),
)

-- BadTable is given, after BadShape, exactly where an owner is no site, a word has a set bit at or above S, or a slot breaks its form.
pub sound_in_words : (d : WordDesk) → (words.sound d ≡ true) ↔ GoodTablesInWords d
unfolding Below
sound_in_words d = (
  (λ e.
      let a = and_both (all_below d.S d.owners && all_below (2 ^ d.S) d.receive) (all_slots_good 5 d.S (length d.owners) d.pool) e in
      let b = and_both (all_below d.S d.owners) (all_below (2 ^ d.S) d.receive) a.0 in
      record {
        owners = (all_below_in_words d.S d.owners).0 b.0;
        none_above = λ s p ls lp. bit_above (word_of d p) d.S s (byte_below_lem (2 ^ d.S) d.receive p lp b.1) ls;
        slots = (slots_in_words 5 d.S (length d.owners) d.pool).0 a.1;
      }),
  (λ h. rw (
    (all_below_in_words d.S d.owners).1 h.owners,
    (all_below_in_words (2 ^ d.S) d.receive).1 (λ p lp. below_by_bits (word_of d p) d.S (λ s ls. h.none_above s p ls lp)),
  )
      ((slots_in_words 5 d.S (length d.owners) d.pool).1 h.slots)),
)

-- BadTable is given for an opening, after BadShape, exactly where an owner is no site.
pub owned_in_words : (d : WordDesk) → (words.owned d ≡ true) ↔ ((p : ℕ) → p < length d.owners → get_or d.owners p 0 < d.S)
unfolding Below
owned_in_words d = all_below_in_words d.S d.owners
