-- What is seen tells of the groups so far.
use Prim.Native.Nat.{◌+◌, ◌*◌}
use Rattle.scan.specs.Form.{Tells}
use Rattle.scan.proofs.form.with_eights.Given as goal

abbrev pub invariant-loop-j : goal.invariant-loop-j
invariant-loop-j g l = Tells g.F.SlotForm.form l.kinds.room l.pool (l.first + l.j * 8) l.seen
