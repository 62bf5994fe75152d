-- A book as it is written: for each address, in the order of the pointers, a length byte and then the address.
use Rattle.std.specs.Prelude.{ℕ, List, [], ◌∷◌, ◌++◌, length}

unfoldable pub written : List (List ℕ) → List ℕ
written [] = []
written (address ∷ rest) = length address ∷ address ++ written rest
