-- What the pool inside counts.
use Rattle.lent.proofs.tests.PlainSlots.count.Goals as goal

pub returns : goal.returns
returns c = rw (← c.self.view_is) c.count.ensures
