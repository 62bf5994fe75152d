-- Lines and their answers as texts, for claims about a whole transcript.
use Prim.Native.Nat.{ℕ}
use Prim.Native.Char.{code}
use Prim.Native.String.{String, [] as no_more, ◌∷◌ as ◌before◌}
use mathlib.Core.List.{List, [], ◌∷◌, ◌++◌}
use Rattle.model.specs.Lines.{newline}

-- a line and its answer
pub record Row : Type 0 where
  pub line : String
  pub answer : String

abbrev pub row : String → String → Row
row line answer = record { line = line; answer = answer }

-- the characters of a text, with its newline
unfoldable pub characters : String → List ℕ
characters no_more = newline ∷ []
characters (c before cs) = code c ∷ characters cs

-- the texts of a list of rows, one after another
unfoldable pub joined : (Row → String) → List Row → List ℕ
joined text [] = []
joined text (r ∷ rs) = characters (text r) ++ joined text rs
