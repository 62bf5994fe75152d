-- None below the slot is empty.
use Rattle.std.proofs.Common.{◌≡◌}
use Rattle.model.specs.Questions.{lowest}
use Rattle.model.specs.Tables.{empty_at}
use Rattle.slots.proofs.lowest.lowest_below.Given as goal

abbrev pub invariant-loop-slot : goal.invariant-loop-slot
invariant-loop-slot g l = lowest l.slot (empty_at g.row.W l.pool) ≡ l.slot
