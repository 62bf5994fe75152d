-- Of the bytes that are seen.
use Rattle.lent.proofs.numbered_slots.NumberedSlotsSlots.entries.Goals as goal

pub returns : goal.returns
returns c = rw (← c.self.view_is) c.entries.ensures
