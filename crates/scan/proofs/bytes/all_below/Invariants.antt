-- The largest byte so far is below n where every byte so far is.
use mathlib.Core.Path.{◌≡◌}
use lib.Dec.{ltb}
use Rattle.model.specs.Questions.{every}
use Rattle.model.specs.Tables.{byte_below}
use Rattle.scan.proofs.bytes.all_below.Given as goal

abbrev pub invariant-loop-x : goal.invariant-loop-x
invariant-loop-x l = ltb l.largest l.n ≡ every l.x-index (byte_below l.n l.bytes)
