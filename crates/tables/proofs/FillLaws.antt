-- A loop that writes a list from the front, one value a turn, until it is the wanted list.
use Prim.Native.Nat.{ℕ, ◌+◌, ◌<◌}
use mathlib.Core.Path.{◌≡◌, refl, sym, ◌∙◌}
use mathlib.Core.List.{List}
use native.Mathlib.Numerals.{add-one}
use native.Mathlib.Omega.{arith}
use lib.ListN.{length, get_or, take, set, replicate, length-set, length-replicate, get_or-replicate}
use lib.Seq.{take-suc, take-suc-set}

-- the first i values are those of the wanted list, which is as long
pub record Filled (wanted before later : List ℕ) (i : ℕ) : Type 0 where
  pub long : length later ≡ length before
  pub whole : length wanted ≡ length before
  pub front : take i later ≡ take i wanted

pub filled_none : (wanted before : List ℕ) → length wanted ≡ length before → Filled wanted before before 0
filled_none wanted before e = record { long = refl; whole = e; front = refl }

pub filled_more : {wanted before later : List ℕ} (i value default : ℕ) → i < length later → value ≡ get_or wanted i default → Filled wanted before later i
    → Filled wanted before (set later i value) (i + 1)
filled_more {wanted} {before} {later} i value default l e f =
    record {
      long = length-set later i value ∙ f.long;
      whole = f.whole;
      front = rw add-one (take-suc-set later i value l ∙ rw (f.front, e) (sym (take-suc wanted i default (omega arith))));
    }

-- ---- a list of zeros
abbrev pub Zeroed : List ℕ → List ℕ → ℕ → Type 0
Zeroed before later i = Filled (replicate (length before) 0) before later i

pub zeroed_none : (before : List ℕ) → Zeroed before before 0
zeroed_none before = filled_none (replicate (length before) 0) before (length-replicate (length before) 0)

pub zeroed_more : (before later : List ℕ) (i : ℕ) → i < length later → Zeroed before later i → Zeroed before (set later i 0) (i + 1)
zeroed_more before later i l f = filled_more i 0 0 l (sym (get_or-replicate (length before) i 0 0 (omega arith))) f
