-- What a book that passes the check holds.
use Prim.Native.Nat.{ℕ, ◌≤◌, ◌<◌}
use mathlib.Core.Path.{◌≡◌, refl, sym, ap, ◌∙◌}
use mathlib.Core.Bool.{true, false}
use mathlib.Core.List.{List}
use native.Mathlib.Omega.{arith}
use lib.ListN.{length, get_or}
use borrow.Author.Tests.{ltb-false}
use Rattle.model.specs.declared.Posted.TheVariants.{Nothing}
use Rattle.model.specs.Answers.{Answer}
use Rattle.model.specs.Refusals.{Twins}
use Rattle.model.specs.Questions.{lowest}
use Rattle.model.specs.Answers.{accepted, refused}
use Rattle.model.proofs.QuestionLaws.{some_none, some_there, lowest_has, some_lowest, some_has, lowest_low}
use Rattle.book.specs.Book.{address_of, has, twin_below, twins, book_refusal, check_number, check_answer, search_number, search_answer}
use Rattle.book.specs.BookRows.{Alike}
use Rattle.book.proofs.OwnerLaws.{owner_inside}
use Rattle.book.proofs.AnswerLaws.{accepted_answer, answered_accepted, answered_number}
use Rattle.book.proofs.RefusalLaws.{book_passes, check_not_passed, check_passes, search_found}
use Rattle.book.proofs.FindLaws.{has_both, both_has}

module _ (s : ℕ) (owners book : List ℕ) (passed : check_answer s owners book ≡ accepted 0 Nothing) where
  passes : (book_refusal s owners book ≡ 0) × (twins owners book ≡ false)
  unfolding check_answer
  passes = check_passes s owners book (answered_accepted (check_number s owners book) 0 0 passed).0

  -- no lower pointer has the owner and the address of p
  at_least : (p q : ℕ) → p < length owners → get_or owners q 0 ≡ get_or owners p 0 → address_of book q ≡ address_of book p → p ≤ q
  unfolding twins
  at_least p q l e f =
      let alike = has owners book (get_or owners p 0) (address_of book p) in
      omega (
        arith,
        ltb-false (lowest p alike) p (sym (some_lowest alike p) ∙ some_none (twin_below owners book) (length owners) p l passes.1),
        lowest_low alike p q (both_has owners book (get_or owners p 0) (address_of book p) q e f),
      )

  -- it has at most one pointer for an owner and an address
  pub one_pointer : (p q : ℕ) → p < length owners → q < length owners
      → get_or owners p 0 ≡ get_or owners q 0 → address_of book p ≡ address_of book q → p ≡ q
  one_pointer p q l m e f = omega (arith, at_least p q l (sym e) (sym f), at_least q p m e f)

  -- and the search finds that one
  pub that_one_found : (p : ℕ) → p < length owners → search_answer s owners book (get_or owners p 0) (address_of book p) ≡ accepted p Nothing
  unfolding search_answer
  that_one_found p l =
      let alike = has owners book (get_or owners p 0) (address_of book p) in
      let low = lowest_low alike (length owners) p (both_has owners book (get_or owners p 0) (address_of book p) p refl refl) in
      let both =
      has_both owners book (get_or owners p 0) (address_of book p) (lowest (length owners) alike)
      (lowest_has alike 0 (length owners) (omega arith)) in
      sym
      (accepted_answer (search_number s owners book (get_or owners p 0) (address_of book p)) (lowest (length owners) alike)
      (search_found s owners book passes.0 (get_or owners p 0) (address_of book p) (owner_inside s owners (book_passes s owners book passes.0).0 p l) (omega arith))
      (omega (arith, at_least p (lowest (length owners) alike) l both.0 both.1))
      refl)

-- ---- what 19 says
-- the test of twins holds exactly where two pointers are alike
pub twins_are : (owners book : List ℕ) → twins owners book ≡ true → Alike owners book
unfolding twins
twins_are owners book e =
    let high = lowest (length owners) (twin_below owners book) in
    let alike = has owners book (get_or owners high 0) (address_of book high) in
    let h = some_has (twin_below owners book) (length owners) e in
    let l = some_has alike high h.1 in
    let both = has_both owners book (get_or owners high 0) (address_of book high) (lowest high alike) l.1 in
    record { low = lowest high alike; high = high; apart = l.0; inside = h.0; owned = both.0; named = both.1 }

pub are_twins : (owners book : List ℕ) → Alike owners book → twins owners book ≡ true
unfolding twins
are_twins owners book a =
    some_there (twin_below owners book) (length owners) a.high a.inside
    (some_there (has owners book (get_or owners a.high 0) (address_of book a.high)) a.high a.low a.apart
    (both_has owners book (get_or owners a.high 0) (address_of book a.high) a.low a.owned a.named))

-- 19 only where there are two
pub twins_alike : (s : ℕ) (owners book : List ℕ) → check_answer s owners book ≡ refused Twins → Alike owners book
unfolding check_answer
twins_alike s owners book e =
    let n : check_number s owners book ≡ 19 = sym (answered_number _ _) ∙ ap (λ (a : Answer). a.number) e in
    twins_are owners book (check_not_passed s owners book n)
