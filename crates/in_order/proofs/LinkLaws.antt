-- A message and its link, and what a received message does to the balance of a share.
use Prim.Native.Nat.{ℕ, ◌+◌, ◌≤◌, ◌<◌}
use mathlib.Core.Path.{◌≡◌, refl, sym, subst}
use mathlib.Core.Logic.{◌≢◌}
use mathlib.Core.Bool.{Bool, true, false, ◌&&◌}
use native.Mathlib.Decide.{ℕ_discrete}
use native.Mathlib.Omega.{arith}
use lib.Dec.{eqb}
use borrow.Author.Tests.{eqb-true, eq-eqb, ne_eqb}
use Rattle.moreau.specs.Transformers.{assign}
use Rattle.moreau.proofs.Tables.{assign_here, assign_site, assign_pointer}
use Rattle.model.specs.declared.Posted.{Posted}
use Rattle.model.specs.declared.Posted.TheVariants.{Copy, Dec as Decr, IncDec, Nothing}
use Rattle.model.specs.Refusals.{◌when◌}
use Rattle.model.specs.Messages.{sender, receiver, pointer_of, cell_after, reply}
use Rattle.model.specs.Laws.{Inside}
use Rattle.model.specs.Survey.{copies, decs, inc_decs}
use Rattle.model.proofs.TestLaws.{and_both, and_false, at_most_1}
use Rattle.model.proofs.ReplyLaws.{reply_held, reply_home, reply_away}
use Rattle.in_order.specs.InOrder.{on_link}

-- ---- a link
pub on_link_most : (a b : ℕ) (m : Posted) → on_link a b m ≤ 1
on_link_most a b (Copy x y p) = at_most_1 (eqb x a && eqb y b)
on_link_most a b (Decr x y p) = at_most_1 (eqb x a && eqb y b)
on_link_most a b (IncDec x y z p) = at_most_1 (eqb x a && eqb y b)
on_link_most a b Nothing = omega arith

two_ends : (x y a b : ℕ) → 0 < (1 when (eqb x a && eqb y b)) → (x ≡ a) × (y ≡ b)
two_ends x y a b h = go (eqb x a && eqb y b) refl h
  where
    go : (t : Bool) → (eqb x a && eqb y b) ≡ t → 0 < (1 when t) → (x ≡ a) × (y ≡ b)
    go true e h = let q = and_both (eqb x a) (eqb y b) e in (eqb-true x a q.0, eqb-true y b q.1)
    go false e h = absurd (omega arith)

pub ends : (a b : ℕ) (m : Posted) → 0 < on_link a b m → (sender m ≡ a) × (receiver m ≡ b)
ends a b (Copy x y p) h = two_ends x y a b h
ends a b (Decr x y p) h = two_ends x y a b h
ends a b (IncDec x y z p) h = two_ends x y a b h
ends a b Nothing h = absurd (omega arith)

pub link_inside : (S G a b : ℕ) (m : Posted) → Inside S G m → 0 < on_link a b m → (a < S) × (b < S)
link_inside S G a b (Copy x y p) w on = let q = two_ends x y a b on in (subst (λ k. k < S) q.0 w.0, subst (λ k. k < S) q.1 w.1)
link_inside S G a b (Decr x y p) w on = let q = two_ends x y a b on in (subst (λ k. k < S) q.0 w.0, subst (λ k. k < S) q.1 w.1)
link_inside S G a b (IncDec x y z p) w on = let q = two_ends x y a b on in (subst (λ k. k < S) q.0 w.0, subst (λ k. k < S) q.1 w.1)
link_inside S G a b Nothing w on = absurd (omega arith)

-- an INC_DEC or a DEC from a to b is on that link
narrow : (s t : Bool) → (1 when (s && t)) ≤ (1 when s)
narrow true t = at_most_1 t
narrow false t = omega arith

pub counted_on_link : (a b p : ℕ) (m : Posted) → inc_decs a b p m + decs a b p m ≤ on_link a b m
counted_on_link a b p (Copy x y q) = omega arith
counted_on_link a b p (Decr x y q) = omega (arith, narrow (eqb x a && eqb y b) (eqb q p))
counted_on_link a b p (IncDec x y z q) = omega (arith, narrow (eqb x a && eqb y b) (eqb q p))
counted_on_link a b p Nothing = omega arith

-- ---- the balance of a share
abbrev pub Balanced : ℕ → ℕ → ℕ → ℕ → ℕ → Posted → Posted → Type 0
Balanced a o p before after old new = before + inc_decs a o p new + copies o a p old ≤ after + copies o a p new + decs a o p new

pub all_three : (x y q a b p : ℕ) → (x ≡ a) → (y ≡ b) → (q ≡ p) → (1 when (eqb x a && eqb y b && eqb q p)) ≡ 1
all_three x y q a b p e f g = rw (eq-eqb x a e, eq-eqb y b f, eq-eqb q p g)

not_first : (x y q a b p : ℕ) → x ≢ a → (1 when (eqb x a && eqb y b && eqb q p)) ≡ 0
not_first x y q a b p d = rw (ne_eqb x a d)

not_second : (x y q a b p : ℕ) → y ≢ b → (1 when (eqb x a && eqb y b && eqb q p)) ≡ 0
not_second x y q a b p d = rw (ne_eqb y b d, and_false (eqb x a))

not_third : (x y q a b p : ℕ) → q ≢ p → (1 when (eqb x a && eqb y b && eqb q p)) ≡ 0
not_third x y q a b p d = rw (ne_eqb q p d, and_false (eqb x a && eqb y b))

-- a COPY to a, for p
balanced_copy : (x a p c o : ℕ) → c ≤ 1 → Balanced a o p c 1 (Copy x a p) (reply (Copy x a p) c o)
balanced_copy x a p c o bit = go (ℕ_discrete c 1) (ℕ_discrete x o)
  where
    go : Dec (c ≡ 1) → Dec (x ≡ o) → Balanced a o p c 1 (Copy x a p) (reply (Copy x a p) c o)
    go (yes held) (yes e) = subst (Balanced a o p c 1 (Copy x a p)) (sym (reply_held x a p c o held)) (omega (arith, all_three x a p o a p e refl refl, all_three a x p a o p refl e refl))
    go (yes held) (no d) = subst (Balanced a o p c 1 (Copy x a p)) (sym (reply_held x a p c o held)) (omega (arith, not_first x a p o a p d))
    go (no free) (yes e) = subst (Balanced a o p c 1 (Copy x a p)) (sym (reply_home x a p c o free e)) (omega (arith, at_most_1 (eqb x o && eqb a a && eqb p p)))
    go (no free) (no d) = subst (Balanced a o p c 1 (Copy x a p)) (sym (reply_away x a p c o free d)) (omega (arith, not_first x a p o a p d, at_most_1 (eqb a a && eqb o o && eqb p p)))

balanced_here : (x : Posted) (c o : ℕ) → c ≤ 1 → Balanced (receiver x) o (pointer_of x) c (cell_after x c) x (reply x c o)
balanced_here (Copy x a p) c o bit = balanced_copy x a p c o bit
balanced_here (Decr x a p) c o bit = omega arith
balanced_here (IncDec x a z p) c o bit = omega arith
balanced_here Nothing c o bit = omega arith

-- what a posts after a receive at another site or for another pointer
balanced_there : (x : Posted) (a p c o n r : ℕ) → (receiver x ≡ a → pointer_of x ≡ p → ⊥) → Balanced a o p n n x (reply x c r)
balanced_there (Copy x y q) a p c o n r far = go (ℕ_discrete c 1) (ℕ_discrete x r) (ℕ_discrete y a) (ℕ_discrete q p)
  where
    go : Dec (c ≡ 1) → Dec (x ≡ r) → Dec (y ≡ a) → Dec (q ≡ p) → Balanced a o p n n (Copy x y q) (reply (Copy x y q) c r)
    go _ _ (yes e) (yes f) = absurd (far e f)
    go (yes held) _ (no d) _ = subst (Balanced a o p n n (Copy x y q)) (sym (reply_held x y q c r held)) (omega (arith, not_second x y q o a p d))
    go (yes held) _ (yes e) (no d) = subst (Balanced a o p n n (Copy x y q)) (sym (reply_held x y q c r held)) (omega (arith, not_third x y q o a p d))
    go (no free) (yes h) (no d) _ = subst (Balanced a o p n n (Copy x y q)) (sym (reply_home x y q c r free h)) (omega (arith, not_second x y q o a p d))
    go (no free) (yes h) (yes e) (no d) = subst (Balanced a o p n n (Copy x y q)) (sym (reply_home x y q c r free h)) (omega (arith, not_third x y q o a p d))
    go (no free) (no h) (no d) _ = subst (Balanced a o p n n (Copy x y q)) (sym (reply_away x y q c r free h)) (omega (arith, not_second x y q o a p d, not_first y r q a o p d))
    go (no free) (no h) (yes e) (no d) = subst (Balanced a o p n n (Copy x y q)) (sym (reply_away x y q c r free h)) (omega (arith, not_third x y q o a p d, not_third y r q a o p d))
balanced_there (Decr x y q) a p c o n r far = omega arith
balanced_there (IncDec x y z q) a p c o n r far = omega arith
balanced_there Nothing a p c o n r far = omega arith

-- A received message keeps the balance of every share.
pub balanced_receive : (cell : ℕ → ℕ → ℕ) (owner : ℕ → ℕ) (x : Posted) (a p : ℕ) → cell (receiver x) (pointer_of x) ≤ 1 → let c = cell (receiver x) (pointer_of x) in
    Balanced a (owner p) p (cell a p) (assign cell (receiver x) (pointer_of x) (cell_after x c) a p) x (reply x c (owner (pointer_of x)))
balanced_receive cell owner x a p bit = go (ℕ_discrete (receiver x) a) (ℕ_discrete (pointer_of x) p)
  where
    c : ℕ
    c = cell (receiver x) (pointer_of x)

    go : Dec (receiver x ≡ a) → Dec (pointer_of x ≡ p) → Balanced a (owner p) p (cell a p) (assign cell (receiver x) (pointer_of x) (cell_after x c) a p) x (reply x c (owner (pointer_of x)))
    go (yes e) (yes f) =
        rw (← e, ← f)
        (subst (λ n. Balanced (receiver x) (owner (pointer_of x)) (pointer_of x) c n x (reply x c (owner (pointer_of x)))) (sym (assign_here cell (receiver x) (pointer_of x) (cell_after x c)))
        (balanced_here x c (owner (pointer_of x)) bit))
    go (yes e) (no d) =
        subst (λ n. Balanced a (owner p) p (cell a p) n x (reply x c (owner (pointer_of x)))) (sym (assign_pointer cell (receiver x) (pointer_of x) (cell_after x c) a p d))
        (balanced_there x a p c (owner p) (cell a p) (owner (pointer_of x)) (λ _ f. d f))
    go (no d) _ =
        subst (λ n. Balanced a (owner p) p (cell a p) n x (reply x c (owner (pointer_of x)))) (sym (assign_site cell (receiver x) (pointer_of x) (cell_after x c) a p d))
        (balanced_there x a p c (owner p) (cell a p) (owner (pointer_of x)) (λ e _. d e))
