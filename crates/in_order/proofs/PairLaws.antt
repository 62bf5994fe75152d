-- A message advances the number of its pair and no other.
use Prim.Native.Nat.{ℕ, zero, suc, ◌+◌, ◌*◌, ◌%◌, ◌≤◌, ◌<◌}
use mathlib.Core.Path.{◌≡◌, refl, ap₂, ◌∙◌}
use mathlib.Core.Bool.{false, ◌&&◌}
use mathlib.Core.List.{List}
use native.Mathlib.Decide.{ℕ_discrete}
use native.Mathlib.Omega.{arith}
use lib.Dec.{eqb}
use lib.ListN.{length, set}
use borrow.Author.Tests.{eq-eqb, ne_eqb}
use Rattle.moreau.specs.Transformers.{assign}
use Rattle.moreau.proofs.Tables.{assign_here, assign_site, assign_pointer}
use Rattle.model.specs.declared.Posted.{Posted}
use Rattle.model.specs.declared.Posted.TheVariants.{Copy, Dec as Decr, IncDec, Nothing}
use Rattle.model.specs.Refusals.{◌when◌}
use Rattle.model.specs.Messages.{is_nothing, sender, receiver}
use Rattle.model.specs.Laws.{Inside}
use Rattle.model.specs.Tables.{place}
use Rattle.model.proofs.TestLaws.{true_not_false, and_false}
use Rattle.model.proofs.PlaceLaws.{place_inside, store_at_place}
use Rattle.in_order.specs.Ordered.{next, of_pair, number_for, advanced}
use Rattle.in_order.specs.InOrder.{on_link, moved}
use Rattle.in_order.proofs.LinkLaws.{ends}

-- the number of a message's pair lies in its table
pub pair_inside : (s g : ℕ) (m : Posted) → is_nothing m ≡ false → Inside s g m → place s (sender m) (receiver m) < s * s
pair_inside s g (Copy x y p) used w = place_inside s s x y w.0 w.1
pair_inside s g (Decr x y p) used w = place_inside s s x y w.0 w.1
pair_inside s g (IncDec x y z p) used w = place_inside s s x y w.0 w.1
pair_inside s g Nothing used w = true_not_false used

module _ (s : ℕ) (numbers : List ℕ) (long : length numbers ≡ s * s) where
  one_on : (x y a b : ℕ) → x < s → y < s → b < s
      → of_pair s (set numbers (place s x y) (next (of_pair s numbers x y))) a b ≡ moved (1 when (eqb x a && eqb y b)) (of_pair s numbers a b)
  one_on x y a b lx ly lb =
      store_at_place numbers s x y (next (of_pair s numbers x y)) a b ly lb (rw long (place_inside s s x y lx ly)) ∙ go (ℕ_discrete x a) (ℕ_discrete y b)
    where
      go : Dec (x ≡ a) → Dec (y ≡ b) → assign (of_pair s numbers) x y (next (of_pair s numbers x y)) a b ≡ moved (1 when (eqb x a && eqb y b)) (of_pair s numbers a b)
      go (yes e) (yes g) = rw (← e, ← g, eq-eqb x x refl, eq-eqb y y refl) (assign_here (of_pair s numbers) x y (next (of_pair s numbers x y)))
      go (yes e) (no d) = rw (ne_eqb y b d, and_false (eqb x a)) (assign_pointer (of_pair s numbers) x y (next (of_pair s numbers x y)) a b d)
      go (no d) _ = rw (ne_eqb x a d) (assign_site (of_pair s numbers) x y (next (of_pair s numbers x y)) a b d)

  pub advanced_at : (g : ℕ) (m : Posted) → Inside s g m → (a b : ℕ) → b < s → of_pair s (advanced s numbers m) a b ≡ moved (on_link a b m) (of_pair s numbers a b)
  advanced_at g (Copy x y p) w a b lb = one_on x y a b w.0 w.1 lb
  advanced_at g (Decr x y p) w a b lb = one_on x y a b w.0 w.1 lb
  advanced_at g (IncDec x y z p) w a b lb = one_on x y a b w.0 w.1 lb
  advanced_at g Nothing w a b lb = refl

-- ---- numbers of pairs that are the remainders of f
abbrev pub Tracks : ℕ → List ℕ → (ℕ → ℕ → ℕ) → Type 0
Tracks s numbers f = (a b : ℕ) → a < s → b < s → of_pair s numbers a b ≡ f a b % 65536

-- a number that advances with f
pub turned : (w k n : ℕ) → w ≤ 1 → n ≡ k % 65536 → moved w n ≡ (k + w) % 65536
turned zero k n h e = omega arith
turned (suc w) k n h e = omega arith

-- the number that a message takes
pub numbered_as : (s g : ℕ) (numbers : List ℕ) (f : ℕ → ℕ → ℕ) (m : Posted) → is_nothing m ≡ false → Inside s g m → Tracks s numbers f → number_for s numbers m ≡ f (sender m) (receiver m) % 65536
numbered_as s g numbers f (Copy x y p) used w tracks = tracks x y w.0 w.1
numbered_as s g numbers f (Decr x y p) used w tracks = tracks x y w.0 w.1
numbered_as s g numbers f (IncDec x y z p) used w tracks = tracks x y w.0 w.1
numbered_as s g numbers f Nothing used w tracks = true_not_false used

-- the number that a message from a to b takes
pub number_on : (s : ℕ) (numbers : List ℕ) (a b : ℕ) (m : Posted) → 0 < on_link a b m → number_for s numbers m ≡ of_pair s numbers a b
number_on s numbers a b (Copy x y p) on = let q = ends a b (Copy x y p) on in ap₂ (of_pair s numbers) q.0 q.1
number_on s numbers a b (Decr x y p) on = let q = ends a b (Decr x y p) on in ap₂ (of_pair s numbers) q.0 q.1
number_on s numbers a b (IncDec x y z p) on = let q = ends a b (IncDec x y z p) on in ap₂ (of_pair s numbers) q.0 q.1
number_on s numbers a b Nothing on = absurd (omega arith)
