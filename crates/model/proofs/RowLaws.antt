-- An order of tests is a table of rows: each test decides its row's reason.
use Prim.Native.Nat.{ℕ, suc, ◌≤◌, ◌<◌}
use mathlib.Core.Path.{◌≡◌, refl, sym, ◌∙◌}
use mathlib.Core.Logic.{◌≢◌, ◌⊎◌, inl, inr}
use mathlib.Core.Bool.{Bool, true, false, ◌&&◌, not}
use mathlib.Core.List.{List, [], ◌∷◌}
use native.Mathlib.Omega.{arith}
use lib.Dec.{leb, ltb, eqb}
use borrow.Author.Tests.{eqb-true, eqb-false, eq-eqb, ne_eqb, leb-true, le-leb, ltb-false, le-ltb, not-true}
use Rattle.model.specs.declared.Posted.{Posted}
use Rattle.model.specs.declared.Posted.TheVariants.{Copy, Dec as Decr, IncDec, Nothing}
use Rattle.model.specs.Refusals.{◌when◌, ◌or_else◌}
use Rattle.model.specs.Questions.{lowest}
use Rattle.model.specs.Messages.{is_inc_dec}
use Rattle.model.specs.Demands.{Row, ◌because◌, FirstOf}
use Rattle.model.proofs.TestLaws.{true_not_false, and_both, and_false}
use Rattle.model.proofs.QuestionLaws.{lowest_below, lowest_nowhere}

-- ---- an order of tests is a table of rows
-- a test that decides its row's reason, before the rows that follow where it fails
pub by_test_then : (k : ℕ) (b : Bool) (reason : Type 0) (rows : List Row) (rest : ℕ) → (b ≡ true → reason) → (reason → b ≡ true) → (b ≡ false → FirstOf rows rest)
    → FirstOf (suc k because reason ∷ rows) (suc k when b or_else rest)
unfolding FirstOf
by_test_then k true reason rows rest yes-then then-yes r = inl (yes-then refl, refl)
by_test_then k false reason rows rest yes-then then-yes r = inr ((λ why. true_not_false (sym (then-yes why))), r refl)

-- before the rows that follow anyway
pub by_test : (k : ℕ) (b : Bool) (reason : Type 0) (rows : List Row) (rest : ℕ) → (b ≡ true → reason) → (reason → b ≡ true) → FirstOf rows rest
    → FirstOf (suc k because reason ∷ rows) (suc k when b or_else rest)
by_test k b reason rows rest yes-then then-yes r = by_test_then k b reason rows rest yes-then then-yes (λ e. r)

-- the last row
pub last_test : (k : ℕ) (b : Bool) (reason : Type 0) → (b ≡ true → reason) → (reason → b ≡ true) → FirstOf (suc k because reason ∷ []) (suc k when b)
unfolding FirstOf
last_test k true reason yes-then then-yes = inl (yes-then refl, refl)
last_test k false reason yes-then then-yes = inr ((λ why. true_not_false (sym (then-yes why))), refl)

pub no_rows : FirstOf [] 0
unfolding FirstOf
no_rows = refl

-- ---- what a table's number says
-- where the first reason holds, it is that row's
pub given_first : (k : ℕ) (reason : Type 0) (rows : List Row) (n : ℕ) → reason → FirstOf (k because reason ∷ rows) n → n ≡ k
unfolding FirstOf
given_first k reason rows n why (inl f) = f.1
given_first k reason rows n why (inr f) = absurd (f.0 why)

-- a row whose reason does not hold is passed over
pub passed_over : (k : ℕ) (reason : Type 0) (rows : List Row) (n : ℕ) → (reason → ⊥) → FirstOf (k because reason ∷ rows) n → FirstOf rows n
unfolding FirstOf
passed_over k reason rows n h (inl f) = absurd (h f.0)
passed_over k reason rows n h (inr f) = f.1

-- ---- tests as reasons
pub false_when : (b : Bool) → b ≡ false → not b ≡ true
false_when b e = rw e

pub not_equal_when : (a b : ℕ) → a ≢ b → not (eqb a b) ≡ true
not_equal_when a b apart = rw (ne_eqb a b apart)

pub two_names : (a m b n : ℕ) → not (ltb a m && ltb b n) ≡ true → (m ≤ a) ⊎ (n ≤ b)
two_names a m b n e = go (ltb a m) (ltb b n) refl refl (not-true _ e)
  where
    go : (x y : Bool) → ltb a m ≡ x → ltb b n ≡ y → (x && y) ≡ false → (m ≤ a) ⊎ (n ≤ b)
    go true true ex ey e = true_not_false e
    go true false ex ey e = inr (ltb-false b n ey)
    go false y ex ey e = inl (ltb-false a m ex)

pub two_names_back : (a m b n : ℕ) → (m ≤ a) ⊎ (n ≤ b) → not (ltb a m && ltb b n) ≡ true
two_names_back a m b n (inl l) = rw (le-ltb a m l)
two_names_back a m b n (inr l) = rw (le-ltb b n l, and_false (ltb a m))

pub three_names : (a b m c n : ℕ) → not (ltb a m && ltb b m && ltb c n) ≡ true → (m ≤ a) ⊎ ((m ≤ b) ⊎ (n ≤ c))
three_names a b m c n e = go (ltb a m) (ltb b m) (ltb c n) refl refl refl (not-true _ e)
  where
    go : (x y z : Bool) → ltb a m ≡ x → ltb b m ≡ y → ltb c n ≡ z → (x && y && z) ≡ false → (m ≤ a) ⊎ ((m ≤ b) ⊎ (n ≤ c))
    go true true true ex ey ez e = true_not_false e
    go true true false ex ey ez e = inr (inr (ltb-false c n ez))
    go true false z ex ey ez e = inr (inl (ltb-false b m ey))
    go false y z ex ey ez e = inl (ltb-false a m ex)

pub three_names_back : (a b m c n : ℕ) → (m ≤ a) ⊎ ((m ≤ b) ⊎ (n ≤ c)) → not (ltb a m && ltb b m && ltb c n) ≡ true
three_names_back a b m c n (inl l) = rw (le-ltb a m l)
three_names_back a b m c n (inr (inl l)) = rw (le-ltb b m l, and_false (ltb a m))
three_names_back a b m c n (inr (inr l)) = rw (le-ltb c n l, and_false (ltb a m && ltb b m))

-- the sender is not owner and its cell is 0
pub not_held : (from owner cell : ℕ) → (not (eqb from owner) && eqb cell 0) ≡ true → (from ≢ owner) × (cell ≡ 0)
not_held from owner cell e =
    let b = and_both (not (eqb from owner)) (eqb cell 0) e in
    (eqb-false from owner (not-true _ b.0), eqb-true cell 0 b.1)

pub not_held_back : (from owner cell : ℕ) → (from ≢ owner) × (cell ≡ 0) → (not (eqb from owner) && eqb cell 0) ≡ true
not_held_back from owner cell why = rw (ne_eqb from owner why.0, eq-eqb cell 0 why.1)

-- the lowest empty slot is the slot count just where no slot is empty
pub none_lowest : (P : ℕ → Bool) (n : ℕ) → leb n (lowest n P) ≡ true → (i : ℕ) → i < n → P i ≡ false
none_lowest P n e i l =
    let least = leb-true n (lowest n P) e in
    lowest_below P 0 n i (omega arith) (omega arith)

pub none_lowest_back : (P : ℕ → Bool) (n : ℕ) → ((i : ℕ) → i < n → P i ≡ false) → leb n (lowest n P) ≡ true
none_lowest_back P n h = le-leb n (lowest n P) (lowest_nowhere P n (λ i l t. true_not_false (sym t ∙ h i l)))

-- Held: some slot holds such an INC_DEC
pub inc_dec_is : (a b p : ℕ) (m : Posted) → is_inc_dec a b p m ≡ true → (c : ℕ) × (m ≡ IncDec a b c p)
inc_dec_is a b p (Copy x y q) e = true_not_false (sym e)
inc_dec_is a b p (Decr x y q) e = true_not_false (sym e)
inc_dec_is a b p (IncDec x y z q) e =
    let e1 = and_both (eqb x a && eqb y b) (eqb q p) e in
    let e2 = and_both (eqb x a) (eqb y b) e1.0 in
    (z, (λ w. IncDec (eqb-true x a e2.0 w) (eqb-true y b e2.1 w) z (eqb-true q p e1.1 w)))
inc_dec_is a b p Nothing e = true_not_false (sym e)

pub is_inc_dec_lem : (a b c p : ℕ) → is_inc_dec a b p (IncDec a b c p) ≡ true
is_inc_dec_lem a b c p = rw (eq-eqb a a refl, eq-eqb b b refl, eq-eqb p p refl)
