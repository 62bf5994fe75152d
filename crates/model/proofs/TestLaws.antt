-- Laws of tests, and of an order of refusals.
use Prim.Native.Nat.{ℕ, zero, suc, ◌≤◌}
use mathlib.Core.Path.{◌≡◌, refl, sym, ◌∙◌}
use mathlib.Core.Bool.{Bool, true, false, ◌&&◌, ◌||◌}
use native.Mathlib.Omega.{arith}
use Rattle.model.specs.Answers.{Answer}
use Rattle.model.specs.Refusals.{◌when◌, ◌or_else◌}
use Rattle.model.specs.Answers.{Outcome, unless, refused}

-- ---- tests
pub true_not_false : {A : Type 0} → ◌≡◌ {A = Bool} true false → A
true_not_false e = let z : ◌≡◌ {A = ℕ} 0 1 = cc in absurd (omega arith)

-- two tests that hold together are one
pub same_test : (a b : Bool) → (a ≡ true → b ≡ true) → (b ≡ true → a ≡ true) → a ≡ b
same_test true b f g = sym (f refl)
same_test false true f g = g refl
same_test false false f g = refl

pub and_both : (a b : Bool) → (a && b) ≡ true → (a ≡ true) × (b ≡ true)
and_both true b e = (refl, e)
and_both false b e = true_not_false (sym e)

pub and_true : (a : Bool) → (a && true) ≡ a
and_true true = refl
and_true false = refl

pub and_false : (a : Bool) → (a && false) ≡ false
and_false true = refl
and_false false = refl

pub and_assoc : (a b c : Bool) → ((a && b) && c) ≡ (a && (b && c))
and_assoc true b c = refl
and_assoc false b c = refl

pub or_neither : (a b : Bool) → (a || b) ≡ false → (a ≡ false) × (b ≡ false)
or_neither true b e = true_not_false e
or_neither false b e = (refl, e)

-- ---- an order of refusals
-- a number that is not given: its test failed
pub when_not : (n : ℕ) (b : Bool) → suc n when b ≡ 0 → b ≡ false
when_not n true e = absurd (omega arith)
when_not n false e = refl

-- an order that gives 0: neither part gives a number
pub or_else_none : (m n : ℕ) → m or_else n ≡ 0 → (m ≡ 0) × (n ≡ 0)
or_else_none zero n e = (refl, e)
or_else_none (suc m) n e = absurd (omega arith)

-- a number that is given comes first
pub or_else_first : (m n : ℕ) → (m ≡ 0 → ⊥) → m ≡ m or_else n
or_else_first zero n given = absurd (given refl)
or_else_first (suc m) n given = refl

-- and is the order's
pub number_first : (n m k : ℕ) → (n ≡ 0 → ⊥) → n ≡ m → n ≡ m or_else k
number_first n m k given e = e ∙ or_else_first m k (λ z. given (e ∙ z))

-- the order has no brackets
pub or_else_assoc : (a b c : ℕ) → (a or_else b) or_else c ≡ a or_else (b or_else c)
or_else_assoc zero b c = refl
or_else_assoc (suc a) b c = refl

-- an order of numbers up to k gives none above k
pub or_else_most : (m n k : ℕ) → m ≤ k → n ≤ k → (m or_else n) ≤ k
or_else_most zero n k a b = b
or_else_most (suc m) n k a b = a

pub at_most_1 : (b : Bool) → (1 when b) ≤ 1
at_most_1 true = omega arith
at_most_1 false = omega arith

pub when_most : (n : ℕ) (b : Bool) (k : ℕ) → n ≤ k → (n when b) ≤ k
when_most n true k l = l
when_most n false k l = omega arith

-- ---- a call's outcome, at each place where its code returns: m is the front's number, k the call's own
module _ {D : Type 0} (d : D) (o : Outcome D) where
  pub refused_by_front : (n m k : ℕ) {r : Answer} → (n ≡ 0 → ⊥) → n ≡ m → r ≡ refused n → record { answer = r; desk = d } ≡ unless (m or_else k) d o
  refused_by_front zero m k given e q = absurd (given refl)
  refused_by_front (suc n) m k given e q = rw (← e, q)

  pub refused_by_own : (n m k : ℕ) {r : Answer} → m ≡ 0 → (n ≡ 0 → ⊥) → n ≡ k → r ≡ refused n → record { answer = r; desk = d } ≡ unless (m or_else k) d o
  refused_by_own zero m k z given e q = absurd (given refl)
  refused_by_own (suc n) m k z given e q = rw (z, ← e, q)

  pub accepted_by_both : (m k : ℕ) → m ≡ 0 → k ≡ 0 → o ≡ unless (m or_else k) d o
  accepted_by_both m k z y = rw (z, y)
