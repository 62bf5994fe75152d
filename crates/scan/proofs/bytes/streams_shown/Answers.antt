-- What is seen so far is clear where the words so far of each stream hold zeros and ones.
use mathlib.Core.Path.{refl, ◌∙◌}
use Rattle.model.specs.Questions.{every}
use Rattle.model.specs.Tables.{byte_below}
use Rattle.model.proofs.QuestionLaws.{every_done}
use Rattle.scan.proofs.EightLaws.{streams_done, streams_more}
use Rattle.scan.proofs.bytes.streams_shown.Goals as goal

pub loop-i-init : goal.loop-i-init
unfolding every
loop-i-init c = refl

pub loop-i-preserved : goal.loop-i-preserved
loop-i-preserved c =
    let l = c.loop-i in
    let a = c.args in
    streams_more a.bytes.now c.type_inv.bytes a.q l.i l.seen c.eight_at.ensures c.eight_at-in-loop-i.ensures c.eight_at-in-loop-i-2.ensures c.eight_at-in-loop-i-3.ensures l.invariant

pub returns : goal.returns
returns c =
    let l = c.loop-i in
    every_done _ l.i c.args.q l.auto.i-end c.loop-i-test.false l.invariant ∙ streams_done (byte_below 2 c.args.bytes.now) c.args.q
