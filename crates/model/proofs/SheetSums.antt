-- Document 02, Two: the three rows of a column that is not the owner's add up to that site's counter, where the machine's invariant stands (Lemma 4).
use Prim.Native.Nat.{ℕ, zero, suc, ◌+◌, ◌≤◌, ◌<◌}
use mathlib.Core.Path.{◌≡◌, refl, sym, ◌∙◌}
use mathlib.Core.Logic.{◌≢◌}
use mathlib.Core.Bool.{◌&&◌}
use mathlib.Core.List.{[]}
use native.Mathlib.Omega.{arith}
use lib.Dec.{eqb}
use borrow.Author.Tests.{eq-eqb, lt-ltb}
use Rattle.model.specs.declared.Posted.{Posted}
use Rattle.model.specs.declared.Posted.TheVariants.{Copy, Dec as Decr, IncDec, Nothing}
use Rattle.model.specs.Questions.{total, up_to}
use Rattle.model.specs.Messages.{kind_of, pointer_of}
use Rattle.model.specs.Layout.{Layout}
use Rattle.model.specs.Calls.{front}
use Rattle.model.specs.Laws.{Laws}
use Rattle.model.specs.Survey.{column, controls, entered, entry_of, in_flight, sheet_number, sheet}
use Rattle.model.proofs.QuestionLaws.{up_to_at, total_most}
use Rattle.model.proofs.TestLaws.{at_most_1}
use Rattle.model.proofs.PoolLaws.{total_same}
use Rattle.model.proofs.ReachedLaws.{Stands}
use Rattle.model.proofs.Lemma4.{counter_is_messages_under_control}

-- three totals are the total of the three
total_of_three : (n : ℕ) (f g h : ℕ → ℕ) → total n f + total n g + total n h ≡ total n (λ i. f i + g i + h i)
unfolding total
total_of_three zero f g h = refl
total_of_three (suc n) f g h = omega (arith, total_of_three n f g h)

-- a message is entered once, in the row of its kind, in the column whose counter it acts on
entered_once : (p s : ℕ) (m : Posted) → entered p 1 s m + entered p 2 s m + entered p 3 s m ≡ controls s p m
entered_once p s (Copy a b q) = omega arith
entered_once p s (Decr a b q) = omega arith
entered_once p s (IncDec a b c q) = omega arith
entered_once p s Nothing = refl

module _ {D : Type 0} (L : Layout D) (d : D) (p : ℕ) where
  open L use {slots, message}

  -- each entry of an accepted sheet is a count of its own
  pub entry_is_count : sheet_number L d p ≡ 0 → (row site : ℕ) → row < 3 → site < 64 → entry_of (sheet L d p) row site ≡ in_flight L d (entered p (row + 1) site)
  unfolding sheet
  entry_is_count e row site lr ls =
      rw (eq-eqb (sheet_number L d p) 0 e)
      (rw (up_to_at 3 (λ row. up_to 64 (λ site. in_flight L d (entered p (row + 1) site))) [] row lr)
      (up_to_at 64 (λ site. in_flight L d (entered p (row + 1) site)) 0 site ls))

  -- the three rows of a column add up to the messages that act on its site
  pub column_is_messages_under_control : sheet_number L d p ≡ 0 → (s : ℕ) → s < 64
      → entry_of (sheet L d p) 0 s + entry_of (sheet L d p) 1 s + entry_of (sheet L d p) 2 s ≡ in_flight L d (controls s p)
  column_is_messages_under_control e s ls =
      let copies : ℕ → ℕ = λ slot. entered p 1 s (message d slot) in
      let decs : ℕ → ℕ = λ slot. entered p 2 s (message d slot) in
      let inc_decs_lem : ℕ → ℕ = λ slot. entered p 3 s (message d slot) in
      omega (
        arith,
        entry_is_count e 0 s (omega arith) ls,
        entry_is_count e 1 s (omega arith) ls,
        entry_is_count e 2 s (omega arith) ls,
        total_of_three (slots d) copies decs inc_decs_lem,
        total_same (slots d) (λ slot. copies slot + decs slot + inc_decs_lem slot) (λ slot. controls s p (message d slot)) (λ slot l. entered_once p s (message d slot)),
      )

  -- each entry is at most the slot count
  pub entry_at_most_slots : sheet_number L d p ≡ 0 → (row site : ℕ) → row < 3 → site < 64 → entry_of (sheet L d p) row site ≤ slots d
  entry_at_most_slots e row site lr ls =
      let one = total_most (λ slot. entered p (row + 1) site (message d slot)) (slots d)
      (λ slot. at_most_1 (eqb (kind_of (message d slot)) (row + 1) && eqb (column (message d slot)) site && eqb (pointer_of (message d slot)) p)) in
      omega (arith, entry_is_count e row site lr ls, one)

module _ {D : Type 0} (L : Layout D) (W : Laws L) {d : D} (t : Stands L d) (p : ℕ) (lp : p < L.pointers d) where
  open L use {sites, pointers, owner, counter}

  -- The question is accepted.
  pub sheet_accepted : sheet_number L d p ≡ 0
  unfolding sheet_number front
  sheet_accepted = rw (t.good, lt-ltb p (pointers d) lp)

  -- The rows of a column that is not the owner's add up to that site's counter.
  pub column_adds_up_to_counter : (s : ℕ) → s < sites d → s ≢ owner d p
      → entry_of (sheet L d p) 0 s + entry_of (sheet L d p) 1 s + entry_of (sheet L d p) 2 s ≡ counter d s p
  column_adds_up_to_counter s ls apart =
      let few = (W.some_site d t.good).1 in
      column_is_messages_under_control L d p sheet_accepted s (omega arith)
      ∙ sym (counter_is_messages_under_control L W t p lp s ls apart)
