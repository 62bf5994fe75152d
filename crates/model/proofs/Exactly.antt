-- Each refusal number is given exactly where document 01 says so.
use Prim.Native.Nat.{ℕ, zero, suc, ◌≤◌}
use mathlib.Core.Path.{◌≡◌, refl, sym, ap, ◌∙◌}
use mathlib.Core.Logic.{◌≢◌, inl, inr}
use mathlib.Core.Bool.{Bool, true, false, not}
use mathlib.Core.List.{List, [], ◌∷◌, ◌++◌}
use lib.Dec.{leb, ltb, eqb}
use borrow.Author.Tests.{eqb-true, eqb-false, eq-eqb, ltb-false, le-ltb, not-true, not-false}
use Rattle.model.specs.declared.Posted.{Posted}
use Rattle.model.specs.declared.Posted.TheVariants.{Copy, Dec as Decr, IncDec, Nothing}
use Rattle.model.specs.declared.Call.{Call}
use Rattle.model.specs.declared.Call.TheVariants.{MakeCopy, Receive, Delete, Ask}
use Rattle.model.specs.Refusals.{◌when◌, ◌or_else◌}
use Rattle.model.specs.Questions.{some, lowest}
use Rattle.model.specs.Messages.{receiver, pointer_of, is_inc_dec, receive_refusal}
use Rattle.model.specs.Answers.{accepted, Outcome, unless}
use Rattle.model.specs.Layout.{Layout}
use Rattle.model.specs.Calls.{held_refusal, copy_refusal, delete_refusal, lent_refusal, front, open_refusal, open_desk, copy_number, copied, make_copy, receive_number, received, receive, delete_number, deleted, delete, ask_number, asked, ask, step}
use Rattle.model.specs.Survey.{share_number, share, sheet_number}
use Rattle.model.specs.Demands.{Row, ◌because◌, FirstOf, SomeIncDec, NoSlotEmpty, lent_rows, open_rows, copy_rows, held_rows_of, held_rows, message_rows, receive_rows, delete_rows, ask_rows, rows_of, TellsEarly, share_rows, sheet_rows}
use Rattle.model.proofs.TestLaws.{true_not_false, when_not, or_else_none, or_else_assoc}
use Rattle.model.proofs.QuestionLaws.{some_there, some_has}
use Rattle.model.proofs.RowLaws.{by_test, last_test, no_rows, passed_over, false_when, not_equal_when, two_names, two_names_back, three_names, three_names_back, not_held, not_held_back, none_lowest, none_lowest_back, inc_dec_is, is_inc_dec_lem}

-- a refusal's number is the answer's, and an accepted call's is 0
pub number_of_unless : {D : Type 0} (n : ℕ) (d : D) (o : Outcome D) → o.answer.number ≡ 0 → (unless n d o).answer.number ≡ n
number_of_unless zero d o e = e
number_of_unless (suc n) d o e = refl

-- a table that gives a call's number gives its answer's
numbered : {D : Type 0} (rows : List Row) (n : ℕ) (d : D) (o : Outcome D) → FirstOf rows n → o.answer.number ≡ 0 → FirstOf rows (unless n d o).answer.number
numbered rows n d o f e = rw (number_of_unless n d o e) f

-- No two numbers are the first of a table.
pub one_number : (rows : List Row) (m n : ℕ) → FirstOf rows m → FirstOf rows n → m ≡ n
unfolding FirstOf
one_number [] m n f g = f ∙ sym g
one_number (row ∷ rows) m n (inl f) (inl g) = f.1 ∙ sym g.1
one_number (row ∷ rows) m n (inl f) (inr g) = absurd (g.0 f.0)
one_number (row ∷ rows) m n (inr f) (inl g) = absurd (f.0 g.0)
one_number (row ∷ rows) m n (inr f) (inr g) = one_number rows m n f.1 g.1

module _ {D : Type 0} (L : Layout D) where
  open L use {sites, pointers, owner, counter, cell, slots, empty, message, shaped, owned, sound, early, cleared}

  -- 1, 2, then the rest
  lent_rows_lem : (d : D) (rows : List Row) (rest : ℕ) → FirstOf rows rest → FirstOf (lent_rows L d rows) (lent_refusal L d or_else rest)
  unfolding lent_refusal
  lent_rows_lem d rows rest r =
      rw (or_else_assoc (1 when not (shaped d)) (2 when not (sound d)) rest)
      (by_test 0 (not (shaped d)) (shaped d ≡ false) _ _ (not-true (shaped d)) (false_when (shaped d))
      (by_test 1 (not (sound d)) (sound d ≡ false) _ _ (not-true (sound d)) (false_when (sound d)) r))

  -- the lent memory passes 1 and 2, so these rows are passed over
  pub lent_passed : (d : D) (rows : List Row) (n : ℕ) → lent_refusal L d ≡ 0 → FirstOf (lent_rows L d rows) n → FirstOf rows n
  unfolding lent_refusal
  lent_passed d rows n e f =
      let q = or_else_none (1 when not (shaped d)) (2 when not (sound d)) e in
      passed_over 2 (sound d ≡ false) rows n (λ z. true_not_false (sym (not-false _ (when_not 1 _ q.1)) ∙ z))
      (passed_over 1 (shaped d ≡ false) _ n (λ z. true_not_false (sym (not-false _ (when_not 0 _ q.0)) ∙ z)) f)

  -- 1, 2, 3, then the rest
  front_rows : (d : D) (named : Bool) (reason : Type 0) (rows : List Row) (rest : ℕ) → (not named ≡ true → reason) → (reason → not named ≡ true) → FirstOf rows rest
      → FirstOf (lent_rows L d (3 because reason ∷ rows)) (front L d named or_else rest)
  unfolding front
  front_rows d named reason rows rest yes-then then-yes r =
      rw (or_else_assoc (lent_refusal L d) _ rest)
      (lent_rows_lem d (3 because reason ∷ rows) (3 when not named or_else rest) (by_test 2 (not named) reason rows rest yes-then then-yes r))

  -- An opening: 1, 2.
  pub open_exactly : (d : D) → FirstOf (open_rows L d) (open_desk L d).answer.number
  unfolding open_desk open_refusal
  open_exactly d =
      rw (number_of_unless (open_refusal L d) d (record { answer = accepted 0 Nothing; desk = cleared d }) refl)
      (by_test 0 (not (shaped d)) (shaped d ≡ false) _ _ (not-true (shaped d)) (false_when (shaped d))
      (last_test 1 (not (owned d)) (owned d ≡ false) (not-true (owned d)) (false_when (owned d))))

  pool_full : (d : D) → FirstOf (7 because (NoSlotEmpty L d) ∷ []) (7 when leb (slots d) (lowest (slots d) (empty d)))
  pool_full d = last_test 6 (leb (slots d) (lowest (slots d) (empty d))) (NoSlotEmpty L d) (none_lowest (empty d) (slots d)) (none_lowest_back (empty d) (slots d))

  pub copy_exactly : (d : D) (from to p : ℕ) → FirstOf (lent_rows L d (copy_rows L d from to p)) (copy_number L d from to p)
  unfolding copy_number copy_refusal
  copy_exactly d from to p =
      front_rows d _ _ _ _ (three_names from to (sites d) p (pointers d)) (three_names_back from to (sites d) p (pointers d))
      (by_test 3 (eqb from to) (from ≡ to) _ _ (eqb-true from to) (eq-eqb from to)
      (by_test 4 _ _ _ _ (not_held from (owner d p) (cell d from p)) (not_held_back from (owner d p) (cell d from p))
      (by_test 5 (eqb (counter d from p) 65535) (counter d from p ≡ 65535) _ _ (eqb-true _ _) (eq-eqb _ _)
      (pool_full d))))

  pub delete_exactly : (d : D) (site p : ℕ) → FirstOf (lent_rows L d (delete_rows L d site p)) (delete_number L d site p)
  unfolding delete_number delete_refusal
  delete_exactly d site p =
      front_rows d _ _ _ _ (two_names site (sites d) p (pointers d)) (two_names_back site (sites d) p (pointers d))
      (by_test 10 (eqb site (owner d p)) (site ≡ owner d p) _ _ (eqb-true _ _) (eq-eqb _ _)
      (by_test 4 (eqb (cell d site p) 0) (cell d site p ≡ 0) _ _ (eqb-true _ _) (eq-eqb _ _)
      (by_test 11 (not (eqb (counter d site p) 0)) (counter d site p ≢ 0) _ _ (λ e. eqb-false _ _ (not-true _ e)) (not_equal_when _ _)
      (pool_full d))))

  pub ask_exactly : (d : D) (site p : ℕ) → FirstOf (lent_rows L d (ask_rows L d site p)) (ask_number L d site p)
  unfolding ask_number
  ask_exactly d site p =
      front_rows d _ _ _ _ (two_names site (sites d) p (pointers d)) (two_names_back site (sites d) p (pointers d))
      (last_test 12 (not (eqb site (owner d p))) (site ≢ owner d p) (λ e. eqb-false _ _ (not-true _ e)) (not_equal_when _ _))

  share_number_lem : (d : D) (site p : ℕ) → FirstOf (lent_rows L d (share_rows L d site p)) (share_number L d site p)
  unfolding share_number
  share_number_lem d site p =
      front_rows d _ _ _ _ (two_names site (sites d) p (pointers d)) (two_names_back site (sites d) p (pointers d))
      (last_test 10 (eqb site (owner d p)) (site ≡ owner d p) (eqb-true _ _) (eq-eqb _ _))

  -- Share and sheet: the number is that of the first row whose reason holds.
  pub share_exactly : (d : D) (site p : ℕ) → FirstOf (lent_rows L d (share_rows L d site p)) (share L d site p).number
  unfolding share
  share_exactly d site p = share_number_lem d site p

  pub sheet_exactly : (d : D) (p : ℕ) → FirstOf (lent_rows L d (sheet_rows L d p)) (sheet_number L d p)
  unfolding sheet_number front
  sheet_exactly d p =
      lent_rows_lem d _ _ (last_test 2 (not (ltb p (pointers d))) (pointers d ≤ p) (λ e. ltb-false _ _ (not-true _ e)) (λ l. false_when _ (le-ltb _ _ l)))

  -- Held tells by its row
  pub held_tells : ((d : D) (slot : ℕ) → early d slot ≡ held_refusal (slots d) (message d) (message d slot)) → TellsEarly L (held_rows L)
  held_tells held d slot rows rest f = rw (held d slot) (go (message d slot))
    where
      go : (m : Posted) → FirstOf (held_rows_of L d m ++ rows) (held_refusal (slots d) (message d) m or_else rest)
      go (Copy a b p) = f
      go (Decr a b p) =
          by_test 8 (some (slots d) (λ slot. is_inc_dec a b p (message d slot))) (SomeIncDec L d a b p) _ _
          (λ e.
          let g = some_has (λ slot. is_inc_dec a b p (message d slot)) (slots d) e in
          let m = inc_dec_is a b p _ g.1 in
          record { slot = _; third = m.0; in_pool = g.0; holds = m.1 })
          (λ why. some_there (λ slot. is_inc_dec a b p (message d slot)) (slots d) why.slot why.in_pool (ap (is_inc_dec a b p) why.holds ∙ is_inc_dec_lem a b why.third p))
          f
      go (IncDec a b c p) = f
      go Nothing = f

  message_exactly : (d : D) (m : Posted) → FirstOf (message_rows L d m) (receive_refusal m (counter d (receiver m) (pointer_of m)))
  message_exactly d (Copy a b p) = last_test 3 (eqb a b) (a ≡ b) (eqb-true a b) (eq-eqb a b)
  message_exactly d (Decr a b p) = last_test 9 (eqb (counter d b p) 0) (counter d b p ≡ 0) (eqb-true _ _) (eq-eqb _ _)
  message_exactly d (IncDec a b c p) = last_test 5 (eqb (counter d b p) 65535) (counter d b p ≡ 65535) (eqb-true _ _) (eq-eqb _ _)
  message_exactly d Nothing = no_rows

  module _ (early_rows : D → ℕ → List Row) (tells : TellsEarly L early_rows) where
    receive_exactly : (d : D) (slot : ℕ) → FirstOf (lent_rows L d (receive_rows L early_rows d slot)) (receive_number L d slot)
    unfolding receive_number
    receive_exactly d slot =
        front_rows d _ _ _ _ (λ e. ltb-false _ _ (not-true _ e)) (λ l. false_when _ (le-ltb _ _ l))
        (by_test 7 (empty d slot) (empty d slot ≡ true) _ _ (λ e. e) (λ e. e)
        (tells d slot _ _ (message_exactly d (message d slot))))

    -- The number of a call is that of the first row of its table whose reason holds; it is 0 where none does.
    pub call_exactly : (d : D) (c : Call) → FirstOf (rows_of L early_rows d c) (step L d c).answer.number
    unfolding step make_copy receive delete ask copied received deleted asked
    call_exactly d (MakeCopy from to p) = numbered _ (copy_number L d from to p) d _ (copy_exactly d from to p) refl
    call_exactly d (Receive slot) = numbered _ (receive_number L d slot) _ _ (receive_exactly d slot) refl
    call_exactly d (Delete site p) = numbered _ (delete_number L d site p) d _ (delete_exactly d site p) refl
    call_exactly d (Ask site p) = numbered _ (ask_number L d site p) d _ (ask_exactly d site p) refl
