-- Document 02, Three: the next numbers of the ordered pairs of sites.
use Rattle.std.specs.Prelude.{ℕ, ◌≡◌, ◌<◌, false, List, length}
use Rattle.model.specs.declared.Posted.{Posted}
use Rattle.model.specs.Tables.{place}
use Rattle.model.specs.Messages.{is_nothing, sender, receiver}

-- the pair of a message, where there is one, has a number
abbrev pub HasPair : ℕ → List ℕ → Posted → Type 0
HasPair s numbers m = is_nothing m ≡ false → place s (sender m) (receiver m) < length numbers
