-- Each byte desk that passes 1 and 2 has exactly one word desk that means the same, and back; pack and unpack make it.
use Prim.Native.Nat.{ℕ, ◌*◌}
use mathlib.Core.Path.{◌≡◌, refl, sym, ap, ◌∙◌, subst}
use mathlib.Core.List.{List}
use lib.ListN.{length}
use borrow.Author.Tests.{eqb-true, eq-eqb}
use Rattle.model.specs.declared.Posted.TheVariants.{Nothing}
use Rattle.model.specs.Answers.{accepted}
use Rattle.model.specs.Calls.{lent_refusal}
use Rattle.model.specs.Tables.{Desk, lent}
use Rattle.model.specs.Flat.{byte_cells, held_slots, flat}
use Rattle.model.proofs.PartLaws.{good}
use Rattle.model.proofs.SameAnswers.{lent_alike}
use Rattle.word_cells.specs.WordCells.{word_cells, WordDesk, words, packed, pack_number, pack, unpacked, unpack_number, unpack}
use Rattle.word_cells.specs.InWords.{SameCells, MeanTheSame, with_words, with_cells}
use Rattle.word_cells.proofs.SameMeaning.{means, as_lent, meaning_alike}
use Rattle.word_cells.proofs.PackLaws.{packed_same, unpacked_same, one_table, one_cells}

-- Desks that mean the same pass 1 and 2 together.
pub pass_alike : (d : Desk) (e : WordDesk) → MeanTheSame d e → lent_refusal flat d ≡ lent_refusal words e
pass_alike d e m = lent_alike flat words d e (meaning_alike.reads m)

-- ---- from bytes to words
pub one_word_desk : (d : Desk) (e other : WordDesk) → MeanTheSame d e → MeanTheSame d other → other ≡ e
one_word_desk d e other m k = sym (as_lent k) ∙ ap (with_words d) (one_table k.same_cells m.same_cells) ∙ as_lent m

module _ (d : Desk) (e : lent_refusal flat d ≡ 0) where
  in_words : MeanTheSame d (with_words d (packed d.S (length d.owners) d.receive))
  in_words =
      let g = good byte_cells held_slots d e in
      means d _ (packed_same d.S (length d.owners) d.receive (eqb-true _ _ g.receive_fits) g.receive_bits)

  -- A byte desk that passes 1 and 2 has exactly one word desk that means the same.
  pub exactly_one_word_desk : (w : WordDesk) × MeanTheSame d w × ((other : WordDesk) → MeanTheSame d other → other ≡ w)
  exactly_one_word_desk = (with_words d (packed d.S (length d.owners) d.receive), in_words, λ other m. one_word_desk d _ other in_words m)

  -- Pack makes it, in any room of G words.
  pub pack_makes_it : (room : List ℕ) → length room ≡ length d.owners
      → ((pack d.S d.receive room).answer ≡ accepted 0 Nothing) × MeanTheSame d (with_words d (pack d.S d.receive room).desk)
  unfolding pack pack_number
  pack_makes_it room as_many =
      let g = good byte_cells held_slots d e in
      rw (as_many, g.sizes, g.receive_fits, g.receive_bits) (refl, in_words)

-- ---- from words to bytes
pub one_byte_desk : (e : WordDesk) (d other : Desk) → MeanTheSame d e → MeanTheSame other e → other ≡ d
one_byte_desk e d other m k i =
    lent (sites i) (owners i) ((k.same_counters ∙ sym m.same_counters) i) (one_cells at_d m.same_cells i) ((k.same_pool ∙ sym m.same_pool) i)
  where
    sites : other.S ≡ d.S
    sites = k.same_sites ∙ sym m.same_sites

    owners : other.owners ≡ d.owners
    owners = k.same_owners ∙ sym m.same_owners

    at_d : SameCells d.S (length d.owners) other.receive e.receive
    at_d =
        subst (λ (s : ℕ). SameCells s (length d.owners) other.receive e.receive) sites
        (subst (λ (l : List ℕ). SameCells other.S (length l) other.receive e.receive) owners k.same_cells)

module _ (w : WordDesk) (e : lent_refusal words w ≡ 0) where
  in_bytes : MeanTheSame (with_cells w (unpacked w.S w.receive)) w
  in_bytes =
      let g = good word_cells held_slots w e in
      let cells = unpacked_same w.S w.receive g.receive_bits in
      record {
        same_sites = refl;
        same_owners = refl;
        same_counters = refl;
        same_pool = refl;
        same_cells = subst (λ (n : ℕ). SameCells w.S n (unpacked w.S w.receive) w.receive) (eqb-true _ _ g.receive_fits) cells;
      }

  -- A word desk that passes 1 and 2 has exactly one byte desk that means the same.
  pub exactly_one_byte_desk : (d : Desk) × MeanTheSame d w × ((other : Desk) → MeanTheSame other w → other ≡ d)
  exactly_one_byte_desk = (with_cells w (unpacked w.S w.receive), in_bytes, λ other m. one_byte_desk w _ other in_bytes m)

  -- Unpack makes it, in any room of S x G bytes.
  pub unpack_makes_it : (room : List ℕ) → length room ≡ w.S * length w.owners
      → ((unpack w.S w.receive room).answer ≡ accepted 0 Nothing) × MeanTheSame (with_cells w (unpack w.S w.receive room).desk) w
  unfolding unpack unpack_number
  unpack_makes_it room as_many =
      let g = good word_cells held_slots w e in
      rw (eqb-true (length w.receive) (length w.owners) g.receive_fits, g.sizes, eq-eqb (length room) (w.S * length w.owners) as_many, g.receive_bits) (refl, in_bytes)
