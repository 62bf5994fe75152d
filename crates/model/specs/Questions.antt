-- Questions over the numbers below n, and lists of n values.
use Rattle.std.specs.Prelude.{ℕ, zero, suc, ◌+◌, Bool, true, false, ◌&&◌, ◌||◌, cond, List, [], ◌∷◌, ◌++◌}

-- P holds of every number below n
unfoldable pub every : ℕ → (ℕ → Bool) → Bool
every zero P = true
every (suc n) P = every n P && P n

-- P holds of some number below n
unfoldable pub some : ℕ → (ℕ → Bool) → Bool
some zero P = false
some (suc n) P = some n P || P n

-- of how many numbers below n P holds
unfoldable pub how_many : ℕ → (ℕ → Bool) → ℕ
how_many zero P = 0
how_many (suc n) P = how_many n P + cond (P n) 1 0

-- the lowest of the n numbers from i on of which P holds; i + n where there is none
unfoldable pub lowest_from : ℕ → ℕ → (ℕ → Bool) → ℕ
lowest_from i zero P = i
lowest_from i (suc n) P = cond (P i) i (lowest_from (i + 1) n P)

-- the lowest number below n of which P holds; n where there is none
abbrev pub lowest : ℕ → (ℕ → Bool) → ℕ
lowest n P = lowest_from 0 n P

-- f 0 + .. + f (n - 1)
unfoldable pub total : ℕ → (ℕ → ℕ) → ℕ
total zero f = 0
total (suc n) f = total n f + f n

-- f 0, .. , f (n - 1)
unfoldable pub up_to : {A : Type 0} → ℕ → (ℕ → A) → List A
up_to zero f = []
up_to (suc n) f = up_to n f ++ (f n ∷ [])
