-- What is posted names a pair of sites, and so does what is received.
use mathlib.Core.Path.{◌∙◌}
use Rattle.model.specs.Tables.{lent}
use Rattle.lent.proofs.NumberedLaws.{posted_pair, handled_pair}
use Rattle.ordered.proofs.receive.receive.Goals as goal

pub post-requires-clause-m_in_bounds : goal.post-requires-clause-m_in_bounds
post-requires-clause-m_in_bounds c = posted_pair (c.new.ensures ∙ (λ w. lent c.args.s c.args.owners.now c.args.send.now c.args.receive.now (c.new-slots.ensures w))) c.in_ok-change.ensures.placed

pub advance-requires : goal.advance-requires
advance-requires c = rw c.read_slot.ensures (handled_pair (c.new.ensures ∙ (λ w. lent c.args.s c.args.owners.now c.args.send.now c.args.receive.now (c.new-slots.ensures w))) c.in_ok-change.ensures.placed c.in_ok-change.ensures.handled)
