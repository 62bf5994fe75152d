-- Rows of columns, and one of them raised.
use Prim.Native.Nat.{ℕ, ◌+◌, ◌<◌}
use mathlib.Core.Path.{◌≡◌, sym, ◌∙◌}
use mathlib.Core.Logic.{◌≢◌}
use mathlib.Core.List.{List, []}
use native.Mathlib.Decide.{ℕ_discrete}
use native.Mathlib.Omega.{arith}
use lib.ListN.{get_or, set, length-set}
use lib.Seq.{ext_get_or, get_or-set_same, get_or-set_other}
use Rattle.model.specs.Questions.{up_to}
use Rattle.model.proofs.QuestionLaws.{length_up_to, up_to_at}

-- two lists of n values that agree below n
pub up_to_alike : {A : Type 0} (default : A) (n : ℕ) (f g : ℕ → A) → ((k : ℕ) → k < n → f k ≡ g k) → up_to n f ≡ up_to n g
up_to_alike default n f g same =
    ext_get_or default (up_to n f) (up_to n g) (length_up_to n f ∙ sym (length_up_to n g))
    (λ k l. let lk = rw (length_up_to n f) at l in up_to_at n f default k lk ∙ same k lk ∙ sym (up_to_at n g default k lk))

-- a store at j gives the list that differs there alone
pub store_in_up_to : {A : Type 0} (default : A) (n : ℕ) (f g : ℕ → A) (j : ℕ) {x : A} → j < n → x ≡ g j → ((k : ℕ) → k ≢ j → f k ≡ g k) → set (up_to n f) j x ≡ up_to n g
store_in_up_to default n f g j {x} lj here apart =
    ext_get_or default (set (up_to n f) j x) (up_to n g) (length-set (up_to n f) j x ∙ length_up_to n f ∙ sym (length_up_to n g))
    (λ k l. let lk : k < n = omega (arith, length-set (up_to n f) j x, length_up_to n f) in go k lk (ℕ_discrete k j) ∙ sym (up_to_at n g default k lk))
  where
    go : (k : ℕ) → k < n → Dec (k ≡ j) → get_or (set (up_to n f) j x) k default ≡ g k
    go k lk (yes q) = rw q (get_or-set_same (up_to n f) j x default (rw (length_up_to n f) lj) ∙ here)
    go k lk (no q) = get_or-set_other (up_to n f) j k x default q ∙ up_to_at n f default k lk ∙ apart k q

-- ---- m rows of n columns
abbrev pub grid : ℕ → ℕ → (ℕ → ℕ → ℕ) → List (List ℕ)
grid m n f = up_to m (λ row. up_to n (f row))

module _ (m n : ℕ) (f : ℕ → ℕ → ℕ) (a b : ℕ) (la : a < m) (lb : b < n) where
  -- what stands at row a, column b
  pub grid_at : get_or (get_or (grid m n f) a []) b 0 ≡ f a b
  grid_at = rw (up_to_at m (λ row. up_to n (f row)) [] a la) (up_to_at n (f a) 0 b lb)

  -- row a, column b raised by w
  pub grid_raised : (g : ℕ → ℕ → ℕ) (w : ℕ) → f a b + w ≡ g a b → ((column : ℕ) → column ≢ b → f a column ≡ g a column) → ((row column : ℕ) → row ≢ a → f row column ≡ g row column)
      → set (grid m n f) a (set (get_or (grid m n f) a []) b (get_or (get_or (grid m n f) a []) b 0 + w)) ≡ grid m n g
  grid_raised g w here other_column other_row =
      store_in_up_to [] m (λ row. up_to n (f row)) (λ row. up_to n (g row)) a la
      (rw (grid_at, up_to_at m (λ row. up_to n (f row)) [] a la) (store_in_up_to 0 n (f a) (g a) b lb here other_column))
      (λ row apart. up_to_alike 0 n (f row) (g row) (λ column l. other_row row column apart))
