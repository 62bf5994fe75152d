-- The slot holds one, or none up to it does.
use Rattle.std.proofs.Common.{sym, ◌∙◌}
use Rattle.model.proofs.QuestionLaws.{some_there}
use Rattle.slots.proofs.HeldLaws.{none_more}
use Rattle.slots.proofs.held.held_below.Goals as goal

pub returns-then-holds : goal.returns-then-holds
returns-then-holds g c = sym (some_there _ _ c.loop-slot.slot c.loop-slot-test.true (sym c.holds.ensures ∙ c.if-holds.true))

pub loop-slot-preserved : goal.loop-slot-preserved
loop-slot-preserved g c = none_more _ _ c.loop-slot.invariant (sym c.holds.ensures ∙ c.if-holds.false)
