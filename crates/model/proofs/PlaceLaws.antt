-- The places of a table of rows of g cells, and one cell of it changed.
use Prim.Native.Nat.{ℕ, ◌*◌, ◌<◌}
use mathlib.Core.Path.{◌≡◌, refl, sym, ◌∙◌}
use mathlib.Core.Logic.{◌≢◌}
use mathlib.Core.List.{List}
use native.Mathlib.Decide.{ℕ_discrete, dec_lt}
use native.Mathlib.Nat.{suc-mul, mul-le-mul_right}
use native.Mathlib.Omega.{arith}
use lib.ListN.{length, get_or, set}
use lib.Seq.{get_or-set_same, get_or-set_other}
use borrow.Author.Tests.{eq-eqb, ne_eqb}
use Rattle.moreau.specs.Transformers.{assign}
use Rattle.moreau.proofs.Tables.{assign_here, assign_site, assign_pointer}
use Rattle.model.specs.declared.Posted.{Posted}
use Rattle.model.specs.Laws.{with_slot}
use Rattle.model.specs.Tables.{place}

-- ---- a pool with one slot changed
module _ (pool : ℕ → Posted) (i : ℕ) (m : Posted) where
  pub changed_slot : with_slot pool i m i ≡ m
  unfolding with_slot
  changed_slot = rw (eq-eqb i i refl)

  pub other_slot : (j : ℕ) → j ≢ i → with_slot pool i m j ≡ pool j
  unfolding with_slot
  other_slot j apart = rw (ne_eqb j i apart)

-- ---- places
-- a cell lies in its table
pub place_inside : (sites g s p : ℕ) → s < sites → p < g → place g s p < sites * g
place_inside sites g s p ls lp = omega (arith, suc-mul s g, mul-le-mul_right g ls)

-- no two sites share a place
pub places_apart : (g s p t q : ℕ) → p < g → q < g → t ≢ s → place g t q ≢ place g s p
places_apart g s p t q lp lq apart e = go (dec_lt s t)
  where
    go : Dec (s < t) → ⊥
    go (yes l) = omega (arith, mul-le-mul_right g l)
    go (no l) = let r : t < s = omega arith in omega (arith, mul-le-mul_right g r)

-- a store at a place changes that cell alone
pub store_at_place : (l : List ℕ) (g s p n t q : ℕ) → p < g → q < g → place g s p < length l
    → get_or (set l (place g s p) n) (place g t q) 0 ≡ assign (λ s p. get_or l (place g s p) 0) s p n t q
store_at_place l g s p n t q lp lq h = go (ℕ_discrete s t) (ℕ_discrete p q)
  where
    go : Dec (s ≡ t) → Dec (p ≡ q) → get_or (set l (place g s p) n) (place g t q) 0 ≡ assign (λ s p. get_or l (place g s p) 0) s p n t q
    go (yes e) (yes f) = rw (← e, ← f) (get_or-set_same l (place g s p) n 0 h ∙ sym (assign_here _ s p n))
    go (yes e) (no f) = get_or-set_other l (place g s p) (place g t q) n 0 (rw (← e) (λ z. f (omega arith))) ∙ sym (assign_pointer _ s p n t q f)
    go (no apart) _ = get_or-set_other l (place g s p) (place g t q) n 0 (places_apart g s p t q lp lq (λ z. apart (sym z))) ∙ sym (assign_site _ s p n t q apart)
