-- What is counted so far is the count over the slots so far.
use Rattle.std.proofs.Common.{◌≡◌, ◌*◌}
use Rattle.model.specs.Tables.{message_at}
use Rattle.slots.specs.Counted.{counts_of}
use Rattle.slots.proofs.count.count.Given as goal

abbrev pub invariant-loop-t : goal.invariant-loop-t
invariant-loop-t g l = l.counts ≡ counts_of (message_at g.row.W l.pool) (l.t * 4) l.site l.owner l.p
