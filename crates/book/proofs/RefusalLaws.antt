-- When a question of the book passes its tests, and what the order of its refusals gives where it does not.
use Prim.Native.Nat.{ℕ, ◌+◌, ◌-◌, ◌≤◌, ◌<◌}
use mathlib.Core.Path.{◌≡◌, refl, sym, ap, ◌∙◌}
use mathlib.Core.Bool.{Bool, true, false, not}
use mathlib.Core.List.{List}
use native.Mathlib.Omega.{arith}
use lib.Dec.{leb, ltb, eqb}
use mathlib.Core.Logic.{⊎_elim}
use Rattle.std.proofs.lemmas.Bool.{cases_lt}
use Rattle.std.specs.Prelude.{Option, None, Some, Result}
use Rattle.std.specs.Result.{result_and}
use Rattle.std.specs.Option.{unwrap_or, option_eq}
use Rattle.rules.specs.declared.refusal.Refusal.{Refusal}
use Rattle.rules.specs.Turned.{number_in}
use lib.ListN.{length, get_or}
use borrow.Author.Tests.{le-leb, lt-leb, leb-false, ltb-true, lt-ltb, le-ltb, ne_eqb, not-false}
use Rattle.model.specs.Refusals.{◌when◌, ◌or_else◌}
use Rattle.model.specs.Questions.{some, lowest}
use Rattle.model.specs.Tables.{sizes_good, all_below, owners_refusal}
use Rattle.model.proofs.TestLaws.{when_not, or_else_none, or_else_most, when_most}
use Rattle.book.specs.Book.{entry_at, is_book, has, twins, book_refusal, address_number, check_number, search_number}
use Rattle.book.specs.Walk.{walked}
use Rattle.model.proofs.QuestionLaws.{some_lowest}
use Rattle.book.proofs.TurnedLaws.{and_refusal}
use Rattle.book.proofs.EntryLaws.{walked_all, walked_entry, walked_out, walked_rest, entry_inside}

-- a number that is not below another
not_below : (n k : ℕ) → leb k n ≡ not (ltb n k)
not_below n k = ⊎_elim (λ l. rw (lt-leb k n l, lt-ltb n k l)) (λ l. rw (le-leb k n l, le-ltb n k l)) (cases_lt n k)

-- ---- the walk over all entries ends where the book does exactly where the book is so many entries
pub walked_whole : (r : Option ℕ) (book : List ℕ) (g : ℕ) {whole : Bool} → unwrap_or r (length book + 1) ≡ walked 1 book 0 g
    → whole ≡ option_eq eqb r (Some (length book)) → whole ≡ is_book g book
walked_whole (Some at) book g e f = f ∙ rw e (walked_all 1 book g)
walked_whole None book g e f = f ∙ sym (ne_eqb (walked 1 book 0 g) (length book) (λ q. omega arith)) ∙ walked_all 1 book g

-- so does a walk to an entry and on from there over the rest
pub rest_whole : (r : Option ℕ) (book : List ℕ) (p g : ℕ) {at : ℕ} {whole : Bool} → p ≤ g → at ≡ walked 1 book 0 p
    → unwrap_or r (length book + 1) ≡ walked 1 book at (g - p) → whole ≡ option_eq eqb r (Some (length book)) → whole ≡ is_book g book
rest_whole r book p g l e f = walked_whole r book g (walked_rest 1 book p g l e f)

-- 18 by that test
pub rest_end : (r : Option ℕ) (book : List ℕ) (p g : ℕ) {n at : ℕ} {whole : Bool} → p ≤ g → at ≡ walked 1 book 0 p
    → unwrap_or r (length book + 1) ≡ walked 1 book at (g - p) → whole ≡ option_eq eqb r (Some (length book)) → n ≡ 18 when not whole → n ≡ 18 when not (is_book g book)
rest_end r book p g l e f h k = k ∙ rw (rest_whole r book p g l e f h)

-- a walk that finds no entry has left the book for good
pub walked_short : (book : List ℕ) (i g : ℕ) → i ≤ g → length book + 1 ≡ walked 1 book 0 i → is_book g book ≡ false
walked_short book i g l e = sym (walked_all 1 book g) ∙ ne_eqb (walked 1 book 0 g) (length book) (λ q. omega (arith, walked_out 1 book 0 i g l (sym e)))

-- 18 by the test whether a walk over all entries ends where the book does
pub walked_end : (book : List ℕ) (g : ℕ) {n p at : ℕ} → at ≡ walked 1 book 0 p → p ≡ g → n ≡ 18 when not (eqb at (length book)) → n ≡ 18 when not (is_book g book)
walked_end book g e q f = f ∙ rw (e, q, walked_all 1 book g)

-- where 18 is passed the walk stands at an entry, which ends in the book
pub place_kept : (book : List ℕ) (p g : ℕ) {at before : ℕ} → p < g → before ≡ p → at ≡ walked 1 book 0 before → 0 ≡ 18 when not (is_book g book)
    → (at ≡ entry_at book p) × (at + 1 + get_or book at 0 ≤ length book)
place_kept book p g {at} l q e z =
    let good = not-false _ (when_not 17 (not (is_book g book)) (sym z)) in
    let there : at ≡ entry_at book p = e ∙ rw q (walked_entry 1 book g good p (omega arith)) in
    (there, rw there (entry_inside 1 book g good p l))

module _ (s : ℕ) (owners book : List ℕ) where
  -- ---- 1, 2, 18
  pub book_passes : book_refusal s owners book ≡ 0 → (owners_refusal s owners ≡ 0) × (is_book (length owners) book ≡ true)
  unfolding book_refusal
  book_passes e =
      let h = or_else_none (owners_refusal s owners) (18 when not (is_book (length owners) book)) e in
      (h.0, not-false _ (when_not 17 (not (is_book (length owners) book)) h.1))

  pub book_passed : 0 ≡ book_refusal s owners book → is_book (length owners) book ≡ true
  book_passed e = (book_passes (sym e)).1

  pub book_most : book_refusal s owners book ≤ 18
  unfolding book_refusal owners_refusal
  book_most =
      or_else_most (1 when not (sizes_good s (length owners)) or_else 2 when not (all_below s owners)) (18 when not (is_book (length owners) book)) 18
      (or_else_most (1 when not (sizes_good s (length owners))) (2 when not (all_below s owners)) 18
      (when_most 1 (not (sizes_good s (length owners))) 18 (omega arith)) (when_most 2 (not (all_below s owners)) 18 (omega arith)))
      (when_most 18 (not (is_book (length owners) book)) 18 (omega arith))

  -- ---- the question for an address: 3
  module _ (p : ℕ) where
    pub address_told : {A B : Type 0} (a : Result A Refusal) (b : Result B Refusal) → number_in a ≡ book_refusal s owners book
        → number_in b ≡ 3 when leb (length owners) p → number_in (result_and a b) ≡ address_number s owners book p
    unfolding address_number
    address_told a b e f = and_refusal a b _ _ e (f ∙ rw (not_below p (length owners)))

    pub address_seen : {n : ℕ} → n ≡ 3 when leb (length owners) p → n ≡ 3 when not (ltb p (length owners))
    address_seen f = f ∙ rw (not_below p (length owners))

    pub address_named : 0 ≡ 3 when leb (length owners) p → p < length owners
    address_named e = leb-false (length owners) p (when_not 2 (leb (length owners) p) (sym e))

    pub address_passes : address_number s owners book p ≡ 0 → (book_refusal s owners book ≡ 0) × (p < length owners)
    unfolding address_number
    address_passes e =
        let h = or_else_none (book_refusal s owners book) (3 when not (ltb p (length owners))) e in
        (h.0, ltb-true _ _ (not-false _ (when_not 2 (not (ltb p (length owners))) h.1)))

    pub address_given : book_refusal s owners book ≡ 0 → p < length owners → 0 ≡ address_number s owners book p
    unfolding address_number
    address_given e l = rw (e, lt-ltb p (length owners) l)

    -- the walk to its entry finds it
    pub place_found : (r : Option ℕ) → 0 ≡ address_number s owners book p → unwrap_or r (length book + 1) ≡ walked 1 book 0 p → r ≡ Some (entry_at book p)
    place_found r z e =
        let a = address_passes (sym z) in
        let good = (book_passes a.0).1 in
        let q = e ∙ walked_entry 1 book (length owners) good p (omega arith) in
        go r q (omega (arith, q, entry_inside 1 book (length owners) good p a.1))
      where
        go : (r : Option ℕ) → unwrap_or r (length book + 1) ≡ entry_at book p → unwrap_or r (length book + 1) ≤ length book → r ≡ Some (entry_at book p)
        go (Some at) e l = ap Some e
        go None e l = absurd (omega arith)

  -- ---- the check: 19
  pub check_passes : check_number s owners book ≡ 0 → (book_refusal s owners book ≡ 0) × (twins owners book ≡ false)
  unfolding check_number
  check_passes e =
      let h = or_else_none (book_refusal s owners book) (19 when twins owners book) e in
      (h.0, when_not 18 (twins owners book) h.1)

  pub check_not_passed : check_number s owners book ≡ 19 → twins owners book ≡ true
  unfolding check_number
  check_not_passed e = go (twins owners book) e
    where
      go : (b : Bool) → (book_refusal s owners book or_else 19 when b) ≡ 19 → b ≡ true
      go true f = refl
      go false f = let l = or_else_most (book_refusal s owners book) 0 18 book_most (omega arith) in absurd (omega arith)

  module _ (passed : book_refusal s owners book ≡ 0) where
    -- ---- the search: 20
    module _ (owner : ℕ) (wanted : List ℕ) where
      pub search_nowhere : owner < s → length owners ≤ lowest (length owners) (has owners book owner wanted) → 20 ≡ search_number s owners book owner wanted
      unfolding search_number
      search_nowhere l h =
          rw (passed, lt-ltb owner s l, some_lowest (has owners book owner wanted) (length owners), le-ltb (lowest (length owners) (has owners book owner wanted)) (length owners) h)

      pub search_found : owner < s → lowest (length owners) (has owners book owner wanted) < length owners → 0 ≡ search_number s owners book owner wanted
      unfolding search_number
      search_found l h =
          rw (passed, lt-ltb owner s l, some_lowest (has owners book owner wanted) (length owners), lt-ltb (lowest (length owners) (has owners book owner wanted)) (length owners) h)

  pub search_passes : (owner : ℕ) (wanted : List ℕ) → search_number s owners book owner wanted ≡ 0
      → (book_refusal s owners book ≡ 0) × (lowest (length owners) (has owners book owner wanted) < length owners)
  unfolding search_number
  search_passes owner wanted e =
      let found = some (length owners) (has owners book owner wanted) in
      let h = or_else_none (book_refusal s owners book) (3 when not (ltb owner s) or_else 20 when not found) e in
      let k = or_else_none (3 when not (ltb owner s)) (20 when not found) h.1 in
      (h.0, ltb-true _ _ (sym (some_lowest (has owners book owner wanted) (length owners)) ∙ not-false _ (when_not 19 (not found) k.1)))

  -- a search for what some pointer has gives none above 18
  pub search_most : (owner : ℕ) (wanted : List ℕ) → some (length owners) (has owners book owner wanted) ≡ true → search_number s owners book owner wanted ≤ 18
  unfolding search_number
  search_most owner wanted e =
      rw e
      (or_else_most (book_refusal s owners book) (3 when not (ltb owner s) or_else 0) 18 book_most
      (or_else_most (3 when not (ltb owner s)) 0 18 (when_most 3 (not (ltb owner s)) 18 (omega arith)) (omega arith)))
