-- Demand 1: a refused call leaves all lent memory, with value 0 and no message, and its number is a listed one.
use Prim.Native.Nat.{ℕ, zero, suc}
use mathlib.Core.Path.{◌≡◌, refl}
use mathlib.Core.Logic.{◌≢◌, inl, inr}
use mathlib.Core.List.{List, [], ◌∷◌, ◌++◌}
use Rattle.model.specs.declared.Posted.{Posted}
use Rattle.model.specs.declared.Posted.TheVariants.{Copy, Dec as Decr, IncDec, Nothing}
use Rattle.model.specs.declared.Call.{Call}
use Rattle.model.specs.declared.Call.TheVariants.{MakeCopy, Receive, Delete, Ask}
use Rattle.model.specs.Refusals.{Held}
use Rattle.model.specs.Answers.{refused, Outcome, unless}
use Rattle.model.specs.Layout.{Layout}
use Rattle.model.specs.Calls.{open_refusal, open_desk, copy_number, copied, make_copy, receive_number, received, receive, delete_number, deleted, delete, ask_number, asked, ask, step}
use Rattle.model.specs.Demands.{Row, FirstOf, ◌among◌, listed_with, open_rows, held_rows_of, held_rows, message_rows, rows_of, TellsEarly}
use Rattle.model.proofs.Exactly.{open_exactly, call_exactly}

-- what is refused is as `unless` has it
refused_whole : {D : Type 0} (n : ℕ) (d : D) (o : Outcome D) → o.answer.number ≡ 0 → (unless n d o).answer.number ≢ 0
    → unless n d o ≡ record { answer = refused (unless n d o).answer.number; desk = d }
refused_whole zero d o e given = absurd (given e)
refused_whole (suc n) d o e given = refl

-- a table's number is 0, or among its rows'
abbrev pub numbers : List Row → List ℕ
numbers [] = []
numbers (row ∷ rows) = row.number ∷ numbers rows

from_the_table : (rows : List Row) (n : ℕ) → FirstOf rows n → n ≢ 0 → n among numbers rows
unfolding FirstOf ◌among◌
from_the_table [] n f given = absurd (given f)
from_the_table (row ∷ rows) n (inl f) given = inl f.1
from_the_table (row ∷ rows) n (inr f) given = inr (from_the_table rows n f.1 given)

-- ---- lists of numbers
-- a longer tail
pub among_tail : (n k : ℕ) (ks ls : List ℕ) → (n among ks → n among ls) → n among (k ∷ ks) → n among (k ∷ ls)
unfolding ◌among◌
among_tail n k ks ls wider (inl e) = inl e
among_tail n k ks ls wider (inr m) = inr (wider m)

-- the second of two lists
pub among_second : (n : ℕ) (ks ls : List ℕ) → n among ls → n among (ks ++ ls)
unfolding ◌among◌
among_second n [] ls m = m
among_second n (k ∷ ks) ls m = inr (among_second n ks ls m)

-- the first of two lists
pub among_first : (n : ℕ) (ks ls : List ℕ) → n among ks → n among (ks ++ ls)
unfolding ◌among◌
among_first n [] ls m = absurd m
among_first n (k ∷ ks) ls (inl e) = inl e
among_first n (k ∷ ks) ls (inr m) = inr (among_first n ks ls m)

-- the numbers of two tables, one after the other
among_both : (n : ℕ) (rows more : List Row) (ks ls : List ℕ) → (n among numbers rows → n among ks) → (n among numbers more → n among ls)
    → n among numbers (rows ++ more) → n among (ks ++ ls)
unfolding ◌among◌
among_both n [] more ks ls one two m = among_second n ks ls (two m)
among_both n (row ∷ rows) more ks ls one two (inl e) = among_first n ks ls (one (inl e))
among_both n (row ∷ rows) more ks ls one two (inr m) = among_both n rows more ks ls (λ h. one (inr h)) two m

module _ {D : Type 0} (L : Layout D) where
  -- a message's own numbers are among 4, 10, 6
  of_a_message : (d : D) (m : Posted) (n : ℕ) → n among numbers (message_rows L d m) → n among (4 ∷ 10 ∷ 6 ∷ [])
  unfolding ◌among◌
  of_a_message d (Copy a b p) n (inl e) = inl e
  of_a_message d (Copy a b p) n (inr e) = absurd e
  of_a_message d (Decr a b p) n (inl e) = inr (inl e)
  of_a_message d (Decr a b p) n (inr e) = absurd e
  of_a_message d (IncDec a b c p) n (inl e) = inr (inr (inl e))
  of_a_message d (IncDec a b c p) n (inr e) = absurd e
  of_a_message d Nothing n e = absurd e

  -- A call with a number that is not 0 leaves all lent memory as it was; its value is 0 and it posts nothing.
  pub refused_leaves_all : (d : D) (c : Call) → (step L d c).answer.number ≢ 0 → step L d c ≡ record { answer = refused (step L d c).answer.number; desk = d }
  unfolding step make_copy receive delete ask copied received deleted asked
  refused_leaves_all d (MakeCopy from to p) = refused_whole (copy_number L d from to p) d _ refl
  refused_leaves_all d (Receive slot) = refused_whole (receive_number L d slot) d _ refl
  refused_leaves_all d (Delete site p) = refused_whole (delete_number L d site p) d _ refl
  refused_leaves_all d (Ask site p) = refused_whole (ask_number L d site p) d _ refl

  -- The same of an opening.
  pub refused_opening_leaves_all : (d : D) → (open_desk L d).answer.number ≢ 0 → open_desk L d ≡ record { answer = refused (open_desk L d).answer.number; desk = d }
  unfolding open_desk
  refused_opening_leaves_all d = refused_whole (open_refusal L d) d _ refl

  -- Ask changes nothing.
  pub ask_changes_nothing : (d : D) (site p : ℕ) → (ask L d site p).desk ≡ d
  unfolding ask asked
  ask_changes_nothing d site p = go (ask_number L d site p)
    where
      go : (n : ℕ) → (unless n d (asked L d p)).desk ≡ d
      go zero = refl
      go (suc n) = refl

  -- A refusal number is one of its table's.
  pub refused_by_a_row : (early_rows : D → ℕ → List Row) → TellsEarly L early_rows → (d : D) (c : Call) → (step L d c).answer.number ≢ 0 → (step L d c).answer.number among numbers (rows_of L early_rows d c)
  refused_by_a_row early_rows tells d c = from_the_table (rows_of L early_rows d c) _ (call_exactly L early_rows tells d c)

  -- The same of an opening.
  pub refused_opening_by_listed : (d : D) → (open_desk L d).answer.number ≢ 0 → (open_desk L d).answer.number among (1 ∷ 2 ∷ [])
  refused_opening_by_listed d = from_the_table (open_rows L d) _ (open_exactly L d)

  -- It is one of those that are listed for the call, early among them where the rows of what comes too early have no other.
  pub refused_by_listed : (early_rows : D → ℕ → List Row) (early : List ℕ) → TellsEarly L early_rows
      → ((d : D) (slot n : ℕ) → n among numbers (early_rows d slot) → n among early)
      → (d : D) (c : Call) → (step L d c).answer.number ≢ 0 → (step L d c).answer.number among listed_with early c
  refused_by_listed early_rows early tells only d (MakeCopy from to p) given = refused_by_a_row early_rows tells d (MakeCopy from to p) given
  refused_by_listed early_rows early tells only d (Receive slot) given =
      let n = (step L d (Receive slot)).answer.number in
      among_tail n 1 _ _ (among_tail n 2 _ _ (among_tail n 3 _ _ (among_tail n 8 _ _
      (among_both n (early_rows d slot) _ early _ (only d slot n) (of_a_message d (L.message d slot) n)))))
      (refused_by_a_row early_rows tells d (Receive slot) given)
  refused_by_listed early_rows early tells only d (Delete site p) given = refused_by_a_row early_rows tells d (Delete site p) given
  refused_by_listed early_rows early tells only d (Ask site p) given = refused_by_a_row early_rows tells d (Ask site p) given

  -- Held has no number but 9.
  pub only_held : (d : D) (slot n : ℕ) → n among numbers (held_rows L d slot) → n among (Held ∷ [])
  unfolding ◌among◌
  only_held d slot n = go (L.message d slot)
    where
      go : (m : Posted) → n among numbers (held_rows_of L d m) → n among (Held ∷ [])
      go (Copy a b p) e = absurd e
      go (Decr a b p) e = e
      go (IncDec a b c p) e = absurd e
      go Nothing e = absurd e
