-- Addresses that are compared byte by byte are the same exactly where they are equal.
use Prim.Native.Nat.{ℕ}
use mathlib.Core.Path.{◌≡◌, refl, sym, ◌∙◌}
use mathlib.Core.Bool.{Bool, true}
use mathlib.Core.List.{List, [], ◌∷◌}
use lib.Dec.{eqb}
use lib.ListN.{length, get_or}
use lib.Seq.{ext_get_or}
use lib.Pointwise.{pointwise}
use Rattle.std.specs.Cmp.Lexicographic.{same_text}
use borrow.Author.Tests.{eqb-true, eq-eqb}
use Rattle.model.specs.Questions.{every}
use Rattle.model.proofs.TestLaws.{and_both, same_test}
use Rattle.model.proofs.QuestionLaws.{every_at, every_all}
use Rattle.book.specs.Book.{same_at, same}

-- ---- the same exactly where they are equal
pub same_equal : (a b : List ℕ) → same a b ≡ true → a ≡ b
unfolding same
same_equal a b e =
    let h = and_both (eqb (length a) (length b)) (every (length a) (same_at a b)) e in
    ext_get_or 0 a b (eqb-true _ _ h.0) (λ i l. eqb-true _ _ (every_at (same_at a b) (length a) i l h.1))

pub same_self : (a : List ℕ) → same a a ≡ true
unfolding same
same_self a = rw (eq-eqb (length a) (length a) refl, every_all (same_at a a) (length a) (λ i l. eq-eqb (get_or a i 0) (get_or a i 0) refl))

-- ---- as the code compares them
pub same_compared : (a b : List ℕ) {r : Bool} → r ≡ pointwise eqb a b → r ≡ same a b
same_compared a b {r} e =
    e ∙ same_test (pointwise eqb a b) (same a b)
    (λ t. rw (same_text a b (sym t)) (same_self b))
    (λ t. rw (same_equal a b t) (pointwise_self b))
  where
    pointwise_self : (xs : List ℕ) → pointwise eqb xs xs ≡ true
    pointwise_self [] = refl
    pointwise_self (x ∷ xs) = rw (eq-eqb x x refl) (pointwise_self xs)
