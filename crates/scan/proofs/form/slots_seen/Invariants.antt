-- What is seen tells of the slots so far.
use Rattle.scan.specs.Form.{Tells}
use Rattle.scan.proofs.form.slots_seen.Given as goal

abbrev pub invariant-loop-i : goal.invariant-loop-i
invariant-loop-i g l = Tells g.F.SlotForm.form l.kinds.room l.pool l.i l.seen
