-- Row after row, each behind those before it.
use Rattle.std.proofs.Common.{◌≡◌, ◌*◌, take}
use Rattle.model.specs.Questions.{up_to}
use Rattle.pointer_desk.specs.Boundary.{count_of}
use Rattle.pointer_desk.proofs.counts.write_rows.Given as goal

abbrev pub invariant-loop-row : goal.invariant-loop-row
invariant-loop-row l = take (l.row * 64) l.sheet ≡ up_to (l.row * 64) (count_of l.rows)
