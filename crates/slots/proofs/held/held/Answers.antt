-- A turn meets one, or none so far holds one.
use Rattle.std.proofs.Common.{◌+◌, ◌*◌, refl, sym, ◌∙◌, arith}
use Rattle.model.specs.Questions.{some}
use Rattle.slots.proofs.HeldLaws.{some_longer}
use Rattle.slots.proofs.held.held.Goals as goal

pub loop-t-init : goal.loop-t-init
unfolding some
loop-t-init g c = refl

pub returns-then-held_below : goal.returns-then-held_below
returns-then-held_below g c = sym (some_longer _ (c.loop-t.t * 4 + 4) _ (sym c.held_below.ensures ∙ c.if-held_below.true) (omega arith))
