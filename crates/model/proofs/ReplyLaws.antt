-- What a message posts, by cases, and that its names stay in range.
use Prim.Native.Nat.{ℕ, ◌≤◌, ◌<◌}
use mathlib.Core.Path.{◌≡◌}
use mathlib.Core.Logic.{◌≢◌}
use mathlib.Core.Bool.{false}
use native.Mathlib.Decide.{ℕ_discrete}
use native.Mathlib.Omega.{arith}
use borrow.Author.Tests.{eq-eqb, ne_eqb}
use Rattle.model.specs.declared.Posted.{Posted}
use Rattle.model.specs.declared.Posted.TheVariants.{Copy, Dec as Decr, IncDec, Nothing}
use Rattle.model.specs.Messages.{is_nothing, receiver, pointer_of, cell_after, reply}
use Rattle.model.specs.Laws.{Inside}
use Rattle.model.proofs.TestLaws.{true_not_false}

-- ---- what a COPY posts
-- b holds already: a DEC back to the sender
pub reply_held : (a b p cell owner : ℕ) → cell ≡ 1 → reply (Copy a b p) cell owner ≡ Decr b a p
reply_held a b p cell owner e = rw (eq-eqb cell 1 e)

-- it came first, and from the owner: nothing
pub reply_home : (a b p cell owner : ℕ) → cell ≢ 1 → a ≡ owner → reply (Copy a b p) cell owner ≡ Nothing
reply_home a b p cell owner free home = rw (ne_eqb cell 1 free, eq-eqb a owner home)

-- it came first, and from another site: an INC_DEC to the owner
pub reply_away : (a b p cell owner : ℕ) → cell ≢ 1 → a ≢ owner → reply (Copy a b p) cell owner ≡ IncDec b owner a p
reply_away a b p cell owner free away = rw (ne_eqb cell 1 free, ne_eqb a owner away)

-- ---- names in range
pub inside_there : (S G : ℕ) (m : Posted) → is_nothing m ≡ false → Inside S G m → (receiver m < S) × (pointer_of m < G)
inside_there S G (Copy a b p) f w = (w.1, w.2)
inside_there S G (Decr a b p) f w = (w.1, w.2)
inside_there S G (IncDec a b c p) f w = (w.1, w.3)
inside_there S G Nothing f w = true_not_false f

pub bit_after : (m : Posted) (n : ℕ) → n ≤ 1 → cell_after m n ≤ 1
bit_after (Copy a b p) n h = omega arith
bit_after (Decr a b p) n h = h
bit_after (IncDec a b c p) n h = h
bit_after Nothing n h = h

pub reply_inside : (S G : ℕ) (m : Posted) (cell owner : ℕ) → owner < S → Inside S G m → Inside S G (reply m cell owner)
reply_inside S G (Copy a b p) cell owner lo w = go (ℕ_discrete cell 1) (ℕ_discrete a owner)
  where
    go : Dec (cell ≡ 1) → Dec (a ≡ owner) → Inside S G (reply (Copy a b p) cell owner)
    go (yes held) _ = rw (reply_held a b p cell owner held) (w.1, w.0, w.2)
    go (no free) (yes home) = rw (reply_home a b p cell owner free home) tt
    go (no free) (no away) = rw (reply_away a b p cell owner free away) (w.1, lo, w.0, w.2)
reply_inside S G (Decr a b p) cell owner lo w = tt
reply_inside S G (IncDec a b c p) cell owner lo w = omega arith
reply_inside S G Nothing cell owner lo w = tt
