-- Zero after zero.
use Rattle.std.proofs.Common.{◌≡◌, take}
use lib.ListN.{replicate}
use Rattle.tables.proofs.clear.clear.Given as goal

abbrev pub invariant-loop-number : goal.invariant-loop-number
invariant-loop-number g l = take l.number-index l.table ≡ replicate l.number-index l.zero
