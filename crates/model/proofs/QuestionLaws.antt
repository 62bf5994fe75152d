-- Laws of the questions over the numbers below n: what a counting loop asks of each, and what an answer says.
use Prim.Native.Nat.{ℕ, zero, suc, ◌+◌, ◌-◌, ◌≤◌, ◌<◌}
use mathlib.Core.Path.{◌≡◌, refl, sym, ◌∙◌}
use mathlib.Core.Bool.{Bool, true, false, ◌&&◌, ◌||◌, cond}
use mathlib.Core.List.{[], ◌∷◌}
use mathlib.Core.Logic.{⊎_elim}
use native.Mathlib.Nat.{eq-or-lt_of_le, le_of_suc-le-suc, not-suc-le-zero}
use native.Mathlib.Numerals.{add-one}
use native.Mathlib.Omega.{arith}
use lib.Dec.{ltb}
use lib.ListN.{length, get_or, length-append, get_or-append}
use lib.Seq.{get_or_at}
use borrow.Author.Tests.{ltb-true, ltb-false}
use Rattle.model.specs.Questions.{every, some, lowest_from, lowest, total, up_to}
use Rattle.model.proofs.TestLaws.{true_not_false, and_both, or_neither}

-- a loop that has come to its end: what is so at i is so at n
at_end : {A : Type 0} (f : ℕ → A) (i n : ℕ) {x : A} → i ≤ n → n ≤ i → x ≡ f i → x ≡ f n
at_end f i n low high e = let q : i ≡ n = omega arith in rw q at e

-- ---- every
pub every_more : (P : ℕ → Bool) (i : ℕ) {ok : Bool} → ok ≡ every i P → (ok && P i) ≡ every (i + 1) P
unfolding every
every_more P i e = rw (add-one, e)

pub every_done : (P : ℕ → Bool) (i n : ℕ) {ok : Bool} → i ≤ n → n ≤ i → ok ≡ every i P → ok ≡ every n P
every_done P i n = at_end (λ k. every k P) i n

pub every_at : (P : ℕ → Bool) (n i : ℕ) → i < n → every n P ≡ true → P i ≡ true
unfolding every
every_at P zero i l e = absurd (not-suc-le-zero l)
every_at P (suc n) i l e =
    let b = and_both (every n P) (P n) e in
    ⊎_elim (λ q. rw q b.1) (λ lt. every_at P n i lt b.0) (eq-or-lt_of_le (le_of_suc-le-suc l))

pub every_all : (P : ℕ → Bool) (n : ℕ) → ((i : ℕ) → i < n → P i ≡ true) → every n P ≡ true
unfolding every
every_all P zero h = refl
every_all P (suc n) h = rw (every_all P n (λ i l. h i (omega arith)), h n (omega arith))

-- one that fails fails all
pub every_not : (P : ℕ → Bool) (n i : ℕ) → i < n → P i ≡ false → every n P ≡ false
every_not P n i l e = go (every n P) (every_at P n i l)
  where
    go : (b : Bool) → (b ≡ true → P i ≡ true) → b ≡ false
    go true f = let t = f refl in true_not_false cc
    go false f = refl

-- where not all have it, one has not
pub every_fails : (P : ℕ → Bool) (n : ℕ) → every n P ≡ false → (i : ℕ) × (i < n) × (P i ≡ false)
unfolding every
every_fails P zero e = true_not_false e
every_fails P (suc n) e = go (every n P) (every_fails P n) e
  where
    go : (a : Bool) → (a ≡ false → (i : ℕ) × (i < n) × (P i ≡ false)) → (a && P n) ≡ false → (i : ℕ) × (i < suc n) × (P i ≡ false)
    go true earlier f = (n, omega arith, f)
    go false earlier f = let h = earlier refl in (h.0, omega (arith, h.1), h.2)

-- ---- some
pub some_more : (P : ℕ → Bool) (i : ℕ) {found : Bool} → found ≡ some i P → (found || P i) ≡ some (i + 1) P
unfolding some
some_more P i e = rw (add-one, e)

pub some_done : (P : ℕ → Bool) (i n : ℕ) {found : Bool} → i ≤ n → n ≤ i → found ≡ some i P → found ≡ some n P
some_done P i n = at_end (λ k. some k P) i n

pub some_none : (P : ℕ → Bool) (n i : ℕ) → i < n → some n P ≡ false → P i ≡ false
unfolding some
some_none P zero i l e = absurd (not-suc-le-zero l)
some_none P (suc n) i l e =
    let b = or_neither (some n P) (P n) e in
    ⊎_elim (λ q. rw q b.1) (λ lt. some_none P n i lt b.0) (eq-or-lt_of_le (le_of_suc-le-suc l))

-- one that holds is some
pub some_there : (P : ℕ → Bool) (n i : ℕ) → i < n → P i ≡ true → some n P ≡ true
some_there P n i l e = go (some n P) refl
  where
    go : (x : Bool) → some n P ≡ x → some n P ≡ true
    go true ex = ex
    go false ex = true_not_false (sym e ∙ some_none P n i l ex)

-- none that holds is not some
pub some_nowhere : (P : ℕ → Bool) (n : ℕ) → ((i : ℕ) → i < n → P i ≡ false) → some n P ≡ false
unfolding some
some_nowhere P zero h = refl
some_nowhere P (suc n) h = rw (some_nowhere P n (λ i l. h i (omega arith)), h n (omega arith))

-- ---- the lowest, from i on: found at i, or from i + 1 on, or nowhere
pub lowest_here : (P : ℕ → Bool) (i n : ℕ) → i < n → P i ≡ true → lowest_from i (n - i) P ≡ i
unfolding lowest_from
lowest_here P i n l e = let q : n - i ≡ suc (n - (i + 1)) = omega arith in rw (q, e)

pub lowest_next : (P : ℕ → Bool) (i n : ℕ) → i < n → P i ≡ false → lowest_from i (n - i) P ≡ lowest_from (i + 1) (n - (i + 1)) P
unfolding lowest_from
lowest_next P i n l e = let q : n - i ≡ suc (n - (i + 1)) = omega arith in rw (q, e)

pub lowest_none : (P : ℕ → Bool) (i n : ℕ) → n ≤ i → lowest_from i (n - i) P ≡ i
unfolding lowest_from
lowest_none P i n l = let q : n - i ≡ 0 = omega arith in rw q

-- what is found has it
pub lowest_has : (P : ℕ → Bool) (i n : ℕ) → lowest_from i n P < i + n → P (lowest_from i n P) ≡ true
unfolding lowest_from
lowest_has P i zero l = absurd (omega arith)
lowest_has P i (suc n) l = go (P i) refl (lowest_has P (i + 1) n) l
  where
    go : (b : Bool) → P i ≡ b → (lowest_from (i + 1) n P < i + 1 + n → P (lowest_from (i + 1) n P) ≡ true)
        → cond b i (lowest_from (i + 1) n P) < i + suc n → P (cond b i (lowest_from (i + 1) n P)) ≡ true
    go true e later l = e
    go false e later l = later (omega arith)

-- it is below n, or n
pub lowest_most : (P : ℕ → Bool) (i n : ℕ) → lowest_from i n P ≤ i + n
unfolding lowest_from
lowest_most P i zero = omega arith
lowest_most P i (suc n) = go (P i) (lowest_most P (i + 1) n)
  where
    go : (b : Bool) → lowest_from (i + 1) n P ≤ i + 1 + n → cond b i (lowest_from (i + 1) n P) ≤ i + suc n
    go true h = omega arith
    go false h = omega arith

-- nothing below the lowest has it
pub lowest_below : (P : ℕ → Bool) (i n k : ℕ) → i ≤ k → k < lowest_from i n P → P k ≡ false
unfolding lowest_from
lowest_below P i zero k low l = absurd (omega arith)
lowest_below P i (suc n) k low l = go (P i) refl (lowest_below P (i + 1) n k) l
  where
    go : (b : Bool) → P i ≡ b → (i + 1 ≤ k → k < lowest_from (i + 1) n P → P k ≡ false) → k < cond b i (lowest_from (i + 1) n P) → P k ≡ false
    go true e later l = absurd (omega arith)
    go false e later l = ⊎_elim (λ q. rw q at e) (λ lt. later (omega arith) l) (eq-or-lt_of_le low)

-- one that holds is not below the lowest
pub lowest_low : (P : ℕ → Bool) (n i : ℕ) → P i ≡ true → lowest n P ≤ i
lowest_low P n i e = go (ltb i (lowest n P)) refl
  where
    go : (b : Bool) → ltb i (lowest n P) ≡ b → lowest n P ≤ i
    go true t = let f = lowest_below P 0 n i (omega arith) (ltb-true i (lowest n P) t) in true_not_false cc
    go false t = ltb-false i (lowest n P) t

-- where none has it the lowest is n
pub lowest_nowhere : (P : ℕ → Bool) (n : ℕ) → ((i : ℕ) → i < n → P i ≡ true → ⊥) → n ≤ lowest n P
lowest_nowhere P n none = go (ltb (lowest n P) n) refl
  where
    go : (b : Bool) → ltb (lowest n P) n ≡ b → n ≤ lowest n P
    go true t =
        let l = ltb-true (lowest n P) n t in
        absurd (none (lowest n P) l (lowest_has P 0 n (omega arith)))
    go false t = ltb-false (lowest n P) n t

-- some has it where the lowest is below n
pub some_lowest : (P : ℕ → Bool) (n : ℕ) → some n P ≡ ltb (lowest n P) n
some_lowest P n = go (ltb (lowest n P) n) refl
  where
    go : (b : Bool) → ltb (lowest n P) n ≡ b → some n P ≡ b
    go true e = some_there P n (lowest n P) (ltb-true _ _ e) (lowest_has P 0 n (omega (arith, ltb-true (lowest n P) n e)))
    go false e = some_nowhere P n (λ i l. lowest_below P 0 n i (omega arith) (omega (arith, ltb-false (lowest n P) n e)))

-- and the lowest has it
pub some_has : (P : ℕ → Bool) (n : ℕ) → some n P ≡ true → (lowest n P < n) × (P (lowest n P) ≡ true)
some_has P n e =
    let l = ltb-true (lowest n P) n (sym (some_lowest P n) ∙ e) in
    (l, lowest_has P 0 n (omega arith))

-- two tests that agree on the numbers have the same lowest
pub lowest_same : (P Q : ℕ → Bool) (i n : ℕ) → ((k : ℕ) → i ≤ k → k < i + n → P k ≡ Q k) → lowest_from i n P ≡ lowest_from i n Q
unfolding lowest_from
lowest_same P Q i zero h = refl
lowest_same P Q i (suc n) h = rw (h i (omega arith) (omega arith), lowest_same P Q (i + 1) n (λ k low l. h k (omega arith) (omega arith)))

-- ---- total
pub total_more : (f : ℕ → ℕ) (i : ℕ) → total (i + 1) f ≡ total i f + f i
unfolding total
total_more f i = rw add-one

pub total_most : (f : ℕ → ℕ) (n : ℕ) → ((i : ℕ) → f i ≤ 1) → total n f ≤ n
unfolding total
total_most f zero h = omega arith
total_most f (suc n) h = omega (arith, total_most f n h, h n)

-- ---- lists
pub length_up_to : {A : Type 0} (n : ℕ) (f : ℕ → A) → length (up_to n f) ≡ n
unfolding up_to
length_up_to zero f = refl
length_up_to (suc n) f = let e = length_up_to n f in length-append (up_to n f) (f n ∷ []) ∙ omega arith

pub up_to_at : {A : Type 0} (n : ℕ) (f : ℕ → A) (default : A) (i : ℕ) → i < n → get_or (up_to n f) i default ≡ f i
unfolding up_to
up_to_at zero f default i l = absurd (not-suc-le-zero l)
up_to_at (suc n) f default i l =
    ⊎_elim (λ q. rw q (get_or_at (up_to n f) (f n) [] default n (length_up_to n f)))
    (λ lt. get_or-append (up_to n f) (f n ∷ []) default i (rw (length_up_to n f) lt) ∙ up_to_at n f default i lt)
    (eq-or-lt_of_le (le_of_suc-le-suc l))
