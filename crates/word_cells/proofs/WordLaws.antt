-- The word desk keeps the laws of a layout: its receive table is lawful, and its pool is that of document 01.
use Prim.Native.Nat.{ℕ, zero, suc, ◌^◌, ◌≤◌, ◌<◌}
use mathlib.Core.Path.{◌≡◌, refl, sym, ap, ◌∙◌}
use mathlib.Core.Bool.{true}
use mathlib.Core.List.{List, [], ◌∷◌, map}
use native.Mathlib.Decide.{ℕ_discrete}
use native.Mathlib.Nat.{not-suc-le-zero, le_of_suc-le-suc}
use lib.Dec.{eqb}
use lib.ListN.{length, get_or, set, length-set, length-map}
use lib.Pow.{pow-lt}
use lib.Seq.{get_or-set_same, get_or-set_other}
use borrow.Author.Tests.{eqb-true, eq-eqb, ne_eqb}
use Rattle.moreau.specs.Transformers.{assign}
use Rattle.moreau.proofs.Tables.{assign_here, assign_site, assign_pointer}
use Rattle.model.specs.Refusals.{◌when◌}
use Rattle.model.specs.Laws.{Laws}
use Rattle.model.specs.Tables.{all_below}
use Rattle.model.specs.Parts.{CellsRead, LawfulCells}
use Rattle.model.specs.Flat.{held_slots}
use Rattle.model.proofs.ShapeLaws.{byte_below_lem}
use Rattle.model.proofs.InWords.{Below, all_below_in_words}
use Rattle.model.proofs.PartLaws.{desk_laws}
use Rattle.model.proofs.FlatLaws.{store_keeps_below, held_slots_lem}
use Rattle.word_cells.specs.WordCells.{bit, with_bit, word_cells, words}
use Rattle.word_cells.proofs.BitLaws.{bit_most, changed_bit, other_bit, with_bit_below, power_bit, power_other_bit}

-- ---- what is made of each of a list
pub map_at : (f : ℕ → ℕ) (l : List ℕ) (p : ℕ) → p < length l → get_or (map f l) p 0 ≡ f (get_or l p 0)
map_at f [] p l = absurd (not-suc-le-zero l)
map_at f (x ∷ xs) zero l = refl
map_at f (x ∷ xs) (suc p) l = map_at f xs p (le_of_suc-le-suc l)

-- ---- what an opening writes: word p is 2 to the owner of p
owner_bit : (o s : ℕ) → bit (2 ^ o) s ≡ (1 when eqb s o)
owner_bit o s = go (ℕ_discrete s o)
  where
    go : Dec (s ≡ o) → bit (2 ^ o) s ≡ (1 when eqb s o)
    go (yes q) = rw (eq-eqb s o q, q) (power_bit o)
    go (no apart) = rw (ne_eqb s o apart) (power_other_bit o s apart)

owner_words_below : (S : ℕ) (owners : List ℕ) → all_below S owners ≡ true → all_below (2 ^ S) (map (λ owner. 2 ^ owner) owners) ≡ true
unfolding Below
owner_words_below S owners o = (all_below_in_words (2 ^ S) (map (λ owner. 2 ^ owner) owners)).1 (λ p lp. one p (rw (length-map owners (λ owner. 2 ^ owner)) at lp))
  where
    one : (p : ℕ) → p < length owners → get_or (map (λ owner. 2 ^ owner) owners) p 0 < 2 ^ S
    one p lp = rw (map_at (λ owner. 2 ^ owner) owners p lp) (pow-lt (byte_below_lem S owners p lp o))

-- ---- a cell that is written
module _ (S G : ℕ) (r : List ℕ) (as_many : length r ≡ G) (below : all_below (2 ^ S) r ≡ true) (s p n : ℕ) (ls : s < S) (lp : p < G) (ln : n ≤ 1) where
  inside : p < length r
  inside = rw as_many lp

  new : ℕ
  new = with_bit (get_or r p 0) s n

  cell_after_lem : (t q : ℕ) → bit (get_or (set r p new) q 0) t ≡ assign (word_cells.cell_in G r) s p n t q
  unfolding new
  cell_after_lem t q = go (ℕ_discrete p q) (ℕ_discrete s t)
    where
      go : Dec (p ≡ q) → Dec (s ≡ t) → bit (get_or (set r p new) q 0) t ≡ assign (word_cells.cell_in G r) s p n t q
      go (yes f) (yes e) =
          rw (← e, ← f) (ap (λ w. bit w s) (get_or-set_same r p new 0 inside) ∙ changed_bit (get_or r p 0) s n ln ∙ sym (assign_here (word_cells.cell_in G r) s p n))
      go (yes f) (no apart) =
          rw (← f)
          (ap (λ w. bit w t) (get_or-set_same r p new 0 inside) ∙ other_bit (get_or r p 0) s n t ln (λ z. apart (sym z)) ∙ sym (assign_site (word_cells.cell_in G r) s p n t p apart))
      go (no apart) _ =
          ap (λ w. bit w t) (get_or-set_other r p q new 0 (λ z. apart (sym z))) ∙ sym (assign_pointer (word_cells.cell_in G r) s p n t q apart)

  word_cells_set : CellsRead word_cells S G (word_cells.set_in G r s p n) (assign (word_cells.cell_in G r) s p n)
  unfolding new
  word_cells_set = record {
    long = rw (length-set r p new) (eq-eqb (length r) G as_many);
    bitwise = store_keeps_below (2 ^ S) r p new (with_bit_below (get_or r p 0) S s n ls ln (byte_below_lem (2 ^ S) r p inside below)) below;
    as_cells = λ t q lt lq. cell_after_lem t q;
  }

-- The receive table of words is lawful.
pub word_cells_lem : LawfulCells word_cells
word_cells_lem = record {
  cell_bit = λ S G r e below s p ls lp. bit_most (get_or r p 0) s;
  opens = λ S owners few o. record {
    long = eq-eqb _ _ (length-map owners (λ owner. 2 ^ owner));
    bitwise = owner_words_below S owners o;
    as_cells = λ s p ls lp. ap (λ w. bit w s) (map_at (λ owner. 2 ^ owner) owners p lp) ∙ owner_bit (get_or owners p 0) s;
  };
  sets = λ S G r few e below s p n ls lp ln. word_cells_set S G r (eqb-true _ _ e) below s p n ls lp ln;
}

-- The word desk is a lawful layout.
pub words_laws : Laws words
words_laws = desk_laws word_cells held_slots word_cells_lem held_slots_lem
