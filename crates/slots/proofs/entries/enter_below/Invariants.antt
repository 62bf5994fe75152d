-- The rows so far are the sheet of the slots so far.
use Rattle.std.proofs.Common.{◌≡◌}
use Rattle.model.specs.Tables.{message_at}
use Rattle.slots.specs.FirstSlots.{entries as entries_of}
use Rattle.slots.proofs.entries.enter_below.Given as goal

abbrev pub invariant-loop-slot : goal.invariant-loop-slot
invariant-loop-slot g l = l.rows ≡ entries_of (message_at g.row.W l.pool) l.p l.slot
