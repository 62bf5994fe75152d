-- Of the bytes that are seen.
use Rattle.lent.proofs.held_slots.HeldSlotsSlots.count.Goals as goal

pub returns : goal.returns
returns c = rw (← c.self.view_is) c.count.ensures
