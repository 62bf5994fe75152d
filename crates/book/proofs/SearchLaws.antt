-- What a search answers, by what the walk finds once 1, 2, 18 and 3 are passed.
use Prim.Native.Nat.{ℕ, ◌≤◌, ◌<◌}
use mathlib.Core.Path.{◌≡◌, sym, ap, ◌∙◌}
use mathlib.Core.List.{List}
use native.Mathlib.Omega.{arith}
use lib.Dec.{leb}
use lib.ListN.{length}
use borrow.Author.Tests.{leb-false}
use Rattle.std.specs.Prelude.{false, not, Option, None, Some, IfSome, Result, Ok, Err}
use Rattle.std.specs.Option.{unwrap_or, ok_or}
use Rattle.model.specs.Refusals.{◌when◌, ◌or_else◌}
use Rattle.model.specs.Questions.{lowest}
use Rattle.model.proofs.TestLaws.{when_not, or_else_none}
use Rattle.rules.specs.declared.refusal.Refusal.TheVariants.{NotListed}
use Rattle.rules.specs.declared.refusal.Refusal.{Refusal}
use Rattle.rules.specs.declared.answer.Accepted.{Accepted}
use Rattle.model.specs.declared.Posted.TheVariants.{Nothing}
use Rattle.model.specs.Answers.{accepted}
use Rattle.rules.specs.Turned.{number_in, told}
use Rattle.model.specs.Tables.{owners_refusal}
use Rattle.book.specs.Book.{is_book, has, book_refusal, search_number, search_answer}
use Rattle.book.specs.Walk.{meets}
use Rattle.book.proofs.TurnedLaws.{after_passed}
use Rattle.book.proofs.OwnerLaws.{owners_few}
use Rattle.book.proofs.RefusalLaws.{book_passes, search_nowhere, search_found}
use Rattle.book.proofs.AnswerLaws.{told_refused, told_accepted}
use Rattle.book.proofs.FindLaws.{lowest_meets}

-- 1, 2, 18 and 3 are passed, one by one
pub all_passed : (s : ℕ) (owners book : List ℕ) (owner : ℕ) → 0 ≡ owners_refusal s owners → 0 ≡ 18 when not (is_book (length owners) book) → 0 ≡ 3 when leb s owner
    → 0 ≡ book_refusal s owners book or_else 3 when leb s owner
unfolding book_refusal
all_passed s owners book owner a b c = after_passed _ _ (after_passed _ _ a b) c

module _ (s : ℕ) (owners book : List ℕ) (owner : ℕ) (wanted : List ℕ) (passed : 0 ≡ book_refusal s owners book or_else 3 when leb s owner) where
  both : (book_refusal s owners book ≡ 0) × (leb s owner ≡ false)
  both =
      let h = or_else_none (book_refusal s owners book) (3 when leb s owner) (sym passed) in
      (h.0, when_not 2 (leb s owner) h.1)

  -- a pointer number fits 16 bits
  pub few_owners : length owners ≤ 256
  few_owners = owners_few s owners (book_passes s owners book both.0).0

  module _ (r : Option ℕ) (e : unwrap_or r (length owners) ≡ lowest (length owners) (meets owners book owner wanted)) (inside : IfSome r (λ p. p < length owners)) where
    -- what the walk finds is the lowest pointer that has both; 20 where it finds none
    sought : (unwrap_or r (length owners) ≡ lowest (length owners) (has owners book owner wanted))
        × (number_in (ok_or r NotListed) ≡ search_number s owners book owner wanted)
    sought = (value, go r value inside)
      where
        value : unwrap_or r (length owners) ≡ lowest (length owners) (has owners book owner wanted)
        value = e ∙ lowest_meets owners book (length owners) (book_passes s owners book both.0).1 owner wanted (length owners) (omega arith)

        below : owner < s
        below = leb-false s owner both.1

        go : (r : Option ℕ) → unwrap_or r (length owners) ≡ lowest (length owners) (has owners book owner wanted) → IfSome r (λ p. p < length owners)
            → number_in (ok_or r NotListed) ≡ search_number s owners book owner wanted
        go (Some p) v l = search_found s owners book both.0 owner wanted below (omega arith)
        go None v l = search_nowhere s owners book both.0 owner wanted below (omega arith)

    pub sought_refused : (refusal : Refusal) → Err refusal ≡ ok_or r NotListed → told (Err refusal) ≡ search_answer s owners book owner wanted
    unfolding search_answer
    sought_refused refusal q = told_refused refusal _ _ (ap number_in q ∙ sought.1)

    pub sought_accepted : {p : ℕ} (answer : Accepted) → Ok p ≡ ok_or r NotListed → told (Ok answer) ≡ accepted p Nothing → told (Ok answer) ≡ search_answer s owners book owner wanted
    unfolding search_answer
    sought_accepted answer q f = told_accepted answer _ _ (f ∙ ap (λ n. accepted n Nothing) (go r (length owners) q sought.0)) (ap number_in q ∙ sought.1)
      where
        go : (r : Option ℕ) (g : ℕ) {p n : ℕ} → ◌≡◌ {A = Result ℕ Refusal} (Ok p) (ok_or r NotListed) → unwrap_or r g ≡ n → p ≡ n
        go (Some x) g {p} e f = let h : p ≡ x = cc in h ∙ f
        go None g e f = absurd (cc)
