-- Document 01, "What the host lends" and "Other edges": the desks that open and those that give 1, one table, one claim.
use Prim.Native.Nat.{ℕ, ◌*◌}
use mathlib.Core.Path.{◌≡◌, refl}
use mathlib.Core.List.{List, [], ◌∷◌}
use lib.ListN.{replicate}
use Rattle.model.specs.Refusals.{BadShape}
use Rattle.model.specs.Questions.{every}
use Rattle.model.specs.Calls.{open_refusal, open_desk}
use Rattle.model.specs.Tables.{Desk, lent, all_below}
use Rattle.model.specs.Flat.{flat}

-- S, G, the bytes of the pool, and the number of an opening with tables of S x G cells
pub record Edge : Type 0 where
  pub sites : ℕ
  pub pointers : ℕ
  pub pool : ℕ
  pub number : ℕ

abbrev pub edge : ℕ → ℕ → ℕ → ℕ → Edge
edge s g n number = record { sites = s; pointers = g; pool = n; number = number }

pub edges : List Edge
edges =
    edge 1 1 5 0
    ∷ edge 64 1 5 0
    ∷ edge 3 0 5 0
    ∷ edge 3 256 5 0
    ∷ edge 3 1 0 0
    ∷ edge 3 1 5120 0
    ∷ edge 64 256 5120 0
    ∷ edge 0 1 5 BadShape
    ∷ edge 65 1 5 BadShape
    ∷ edge 3 257 5 BadShape
    ∷ edge 3 1 5125 BadShape
    ∷ edge 3 1 7 BadShape
    ∷ []

-- all zeros, of those lengths
abbrev zeros : Edge → Desk
zeros e = lent e.sites (replicate e.pointers 0) (replicate (e.sites * e.pointers) 0) (replicate (e.sites * e.pointers) 0) (replicate e.pool 0)

pub numbers : List Edge → List ℕ
numbers [] = []
numbers (e ∷ es) = (open_desk flat (zeros e)).answer.number ∷ numbers es

pub listed : List Edge → List ℕ
listed [] = []
listed (e ∷ es) = e.number ∷ listed es

pub edges_open_as_listed : numbers edges ≡ listed edges
unfolding edges numbers listed open_desk open_refusal all_below every
edges_open_as_listed = refl
