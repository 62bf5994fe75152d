-- The larger of the largest so far and the next byte is the largest then.
use Prim.Native.Nat.{max}
use mathlib.Core.Path.{◌≡◌, ◌∙◌}
use native.Mathlib.Omega.{arith}
use lib.ListN.{length, get_or}
use borrow.Author.Tests.{lt-ltb}
use Rattle.model.specs.Questions.{every}
use Rattle.model.specs.Tables.{all_below}
use Rattle.model.proofs.QuestionLaws.{every_more, every_done}
use Rattle.scan.proofs.ByteLaws.{larger_below}
use Rattle.scan.proofs.bytes.all_below.Goals as goal
use Rattle.scan.proofs.bytes.all_below.Goals.{else-largest-x, then-largest-x}

pub loop-x-init : goal.loop-x-init
unfolding every
loop-x-init c = lt-ltb 0 c.args.n (omega arith)

pub loop-x-preserved : goal.loop-x-preserved
loop-x-preserved c =
    let l = c.loop-x in
    let x = get_or c.args.bytes.now l.x-index 0 in
    let e : c.if-largest-x.largest ≡ max l.largest x = elim c.if-largest-x.branch [ then-largest-x w ↦ omega arith | else-largest-x w ↦ omega arith ] in
    larger_below l.largest x c.args.n e ∙ every_more _ l.x-index l.invariant

pub returns : goal.returns
unfolding all_below
returns c = every_done _ c.loop-x.x-index (length c.args.bytes.now) (omega arith) (omega arith) c.loop-x.invariant
