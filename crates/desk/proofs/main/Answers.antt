-- What is written is a part of what `run` was lent.
use mathlib.Core.Path.{sym}
use native.Mathlib.Omega.{arith}
use lib.Seq.{length-take-le}
use Rattle.runner.proofs.Whole.{count_most}
use Rattle.desk.proofs.main.Goals as goal

pub slice_bounds-output-end : goal.slice_bounds-output-end
slice_bounds-output-end c = omega (arith, count_most _ _ c.run-m.ensures)

pub slice_bounds-write_all-end : goal.slice_bounds-write_all-end
slice_bounds-write_all-end c =
    sym (length-take-le c.run-m.result c.run-m.new.output (omega (arith, count_most _ _ c.run-m.ensures)))
