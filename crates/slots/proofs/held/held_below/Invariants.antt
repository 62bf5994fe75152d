-- None below the slot holds one.
use Rattle.std.proofs.Common.{◌≡◌, false}
use Rattle.model.specs.Questions.{some}
use Rattle.model.specs.Messages.{is_inc_dec}
use Rattle.model.specs.Tables.{message_at}
use Rattle.slots.proofs.held.held_below.Given as goal

abbrev pub invariant-loop-slot : goal.invariant-loop-slot
invariant-loop-slot g l = some l.slot (λ slot. is_inc_dec l.a l.b l.p (message_at g.row.W l.pool slot)) ≡ false
