-- The count of holders: the sum of a pointer's cells; and on a reached desk where no slot names the pointer, the owner's counter plus 1.
use Prim.Native.Nat.{ℕ, zero, suc, ◌-◌, ◌≤◌, ◌<◌}
use mathlib.Core.Path.{◌≡◌, refl, sym, ap, ◌∙◌}
use mathlib.Core.Logic.{◌≢◌}
use mathlib.Core.Bool.{false}
use lib.Count.{ones}
use lib.Dec.{ltb}
use lib.ListN.{length}
use borrow.Author.Tests.{eqb-true, ltb-true, lt-ltb}
use Rattle.model.specs.declared.Posted.TheVariants.{Nothing}
use Rattle.model.specs.Answers.{Answer}
use Rattle.model.specs.Questions.{total}
use Rattle.model.specs.Answers.{accepted, refused, unless}
use Rattle.model.specs.Calls.{lent_refusal, front}
use Rattle.model.specs.Tables.{Desk}
use Rattle.model.specs.Flat.{held_slots, flat}
use Rattle.model.specs.Survey.{sheet_number}
use Rattle.model.specs.Demands.{FirstOf, lent_rows, names}
use Rattle.model.proofs.PoolLaws.{total_same}
use Rattle.model.proofs.QuestionLaws.{total_most}
use Rattle.model.proofs.ShapeLaws.{byte_below_lem}
use Rattle.model.proofs.PartLaws.{good}
use Rattle.model.proofs.FrontLaws.{front_passed}
use Rattle.model.proofs.Exactly.{number_of_unless, sheet_exactly}
use Rattle.model.proofs.ReachedLaws.{Stands}
use Rattle.model.proofs.Lemma8 as Lemma8
use Rattle.word_cells.specs.WordCells.{bit, word_cells, WordDesk, words, word_of, count_number, counted, count_holders}
use Rattle.word_cells.specs.InWords.{MeanTheSame, count_rows}
use Rattle.word_cells.proofs.BitLaws.{bit_most, ones_are_bits}
use Rattle.word_cells.proofs.WordLaws.{words_laws}
use Rattle.word_cells.proofs.SameMeaning.{words_below}
use Rattle.word_cells.proofs.PackLaws.{refused_whole}

-- ---- 1, 2, 3
-- the same tests as those of a sheet
count_number_lem : (d : WordDesk) (p : ℕ) → count_number d p ≡ sheet_number words d p
unfolding count_number sheet_number
count_number_lem d p = refl

answer_number : (d : WordDesk) (p : ℕ) → (count_holders d p).answer.number ≡ count_number d p
unfolding count_holders counted
answer_number d p = number_of_unless (count_number d p) d (counted d p) refl

pub count_exactly : (d : WordDesk) (p : ℕ) → FirstOf (lent_rows words d (count_rows d p)) (count_holders d p).answer.number
count_exactly d p = rw (answer_number d p, count_number_lem d p) (sheet_exactly words d p)

pub count_refused_leaves_all : (d : WordDesk) (p : ℕ) → (count_holders d p).answer.number ≢ 0 → count_holders d p ≡ record { answer = refused (count_holders d p).answer.number; desk = d }
unfolding count_holders counted
count_refused_leaves_all d p = refused_whole (count_number d p) d (counted d p) refl

pub count_changes_nothing : (d : WordDesk) (p : ℕ) → (count_holders d p).desk ≡ d
unfolding count_holders counted
count_changes_nothing d p = go (count_number d p)
  where
    go : (n : ℕ) → (unless n d (counted d p)).desk ≡ d
    go zero = refl
    go (suc n) = refl

-- ---- the value
-- the ones of a word of good tables are the cells of its pointer
ones_are_cells : (d : WordDesk) → lent_refusal words d ≡ 0 → (p : ℕ) → p < words.pointers d → ones (word_of d p) ≡ total d.S (λ s. words.cell d s p)
ones_are_cells d e p lp =
    let g = good word_cells held_slots d e in
    ones_are_bits (word_of d p) d.S (byte_below_lem _ d.receive p (rw (eqb-true (length d.receive) (words.pointers d) g.receive_fits) lp) g.receive_bits)

pub count_accepted : (d : WordDesk) → lent_refusal words d ≡ 0 → (p : ℕ) → p < words.pointers d → (count_holders d p).answer ≡ accepted (total d.S (λ s. words.cell d s p)) Nothing
unfolding count_holders counted count_number front
count_accepted d e p lp = rw (e, lt-ltb p (words.pointers d) lp) (ap (λ (n : ℕ). accepted n Nothing) (ones_are_cells d e p lp))

pub count_is_sum : (d : WordDesk) (p : ℕ) → (count_holders d p).answer.number ≡ 0 → (count_holders d p).answer ≡ accepted (total d.S (λ s. words.cell d s p)) Nothing
unfolding count_number
count_is_sum d p e =
    let q = front_passed words d (ltb p (words.pointers d)) (sym (answer_number d p) ∙ e) in
    count_accepted d q.0 p (ltb-true p (words.pointers d) q.1)

-- of a byte desk that means the same
pub count_of_cells : (d : Desk) (e : WordDesk) → MeanTheSame d e → (p : ℕ) → p < flat.pointers d → ones (word_of e p) ≡ total d.S (λ s. flat.cell d s p)
count_of_cells d e m p lp =
    ones_are_bits (word_of e p) d.S (words_below m.same_cells p lp)
    ∙ total_same d.S (bit (word_of e p)) (λ s. flat.cell d s p) (λ s ls. m.same_cells.bit_is_cell s p ls lp)

-- it is at most S
pub count_at_most_sites : (d : WordDesk) (p : ℕ) → (count_holders d p).answer.number ≡ 0 → (count_holders d p).answer.value ≤ d.S
count_at_most_sites d p e = rw (count_is_sum d p e) (total_most (λ s. words.cell d s p) d.S (λ s. bit_most (word_of d p) s))

-- ---- where the machine's invariant stands, as on every reached desk
module _ {d : WordDesk} (t : Stands words d) (p : ℕ) (lp : p < words.pointers d) where
  told : (count_holders d p).answer.value ≡ total d.S (λ s. words.cell d s p)
  told = ap (λ (a : Answer). a.value) (count_accepted d t.good p lp)

  pub count_at_least_1 : 1 ≤ (count_holders d p).answer.value
  count_at_least_1 = rw told (Lemma8.some_site_holds words words_laws t p lp)

  pub owner_counter_is_count_minus_1 : ((slot : ℕ) → slot < words.slots d → names p (words.message d slot) ≡ false) → words.counter d (words.owner d p) p ≡ (count_holders d p).answer.value - 1
  owner_counter_is_count_minus_1 none = rw told (Lemma8.owner_counter_is_holders_minus_1 words words_laws t p lp none)
