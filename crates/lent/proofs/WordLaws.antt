-- The lengths and the owners of a good opening of a desk on words.
use Rattle.std.specs.Prelude.{ℕ, ◌≡◌, ◌≤◌, true, List}
use native.Mathlib.Omega.{arith}
use Rattle.model.specs.Tables.{all_below}
use Rattle.model.proofs.InWords.{Below, all_below_in_words}

-- owners below S are below 64
pub owners_below_64 : (S : ℕ) (owners : List ℕ) → S ≤ 64 → all_below S owners ≡ true → all_below 64 owners ≡ true
unfolding Below
owners_below_64 S owners l e = (all_below_in_words 64 owners).1 (λ p lp. omega (arith, (all_below_in_words S owners).0 e p lp))
