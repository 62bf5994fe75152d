-- None below the slot is empty.
use Rattle.std.proofs.Common.{◌≡◌}
use Rattle.model.specs.Questions.{lowest}
use Rattle.lent.proofs.pool.Slots.lowest_empty.Given as goal

abbrev pub invariant-loop-slot : goal.invariant-loop-slot
invariant-loop-slot g l = lowest l.slot (g.Self.Slots.pool.empty l.self) ≡ l.slot
