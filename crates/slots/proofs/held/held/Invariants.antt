-- None of the slots so far holds one.
use Rattle.std.proofs.Common.{◌≡◌, ◌*◌, false}
use Rattle.model.specs.Questions.{some}
use Rattle.model.specs.Messages.{is_inc_dec}
use Rattle.model.specs.Tables.{message_at}
use Rattle.slots.proofs.held.held.Given as goal

abbrev pub invariant-loop-t : goal.invariant-loop-t
invariant-loop-t g l = some (l.t * 4) (λ slot. is_inc_dec l.a l.b l.p (message_at g.row.W l.pool slot)) ≡ false
