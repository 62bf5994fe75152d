-- None of the slots so far is empty.
use Rattle.std.proofs.Common.{◌≡◌, ◌*◌}
use Rattle.model.specs.Questions.{lowest}
use Rattle.model.specs.Tables.{empty_at}
use Rattle.slots.proofs.lowest.lowest_empty.Given as goal

abbrev pub invariant-loop-t : goal.invariant-loop-t
invariant-loop-t g l = lowest (l.t * 4) (empty_at g.row.W l.pool) ≡ l.t * 4
