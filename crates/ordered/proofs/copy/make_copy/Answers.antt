-- What is posted names a pair of sites.
use mathlib.Core.Path.{◌∙◌}
use Rattle.model.specs.Tables.{lent}
use Rattle.lent.proofs.NumberedLaws.{posted_pair}
use Rattle.ordered.proofs.copy.make_copy.Goals as goal

pub post-requires-clause-m_in_bounds : goal.post-requires-clause-m_in_bounds
post-requires-clause-m_in_bounds c = posted_pair (c.new.ensures ∙ (λ w. lent c.args.s c.args.owners.now c.args.send.now c.args.receive.now (c.new-slots.ensures w))) c.in_ok-change.ensures.placed
