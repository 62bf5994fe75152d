-- A good slot's message names a pair.
use Rattle.lent.proofs.NumberedLaws.{due_inside}
use Rattle.lent.proofs.numbered_slots.NumberedSlotsSlots.early.Goals as goal

pub bounds-self-inside-pair_of : goal.bounds-self-inside-pair_of
bounds-self-inside-pair_of c =
    let r = c.requires in
    let d = due_inside c.args.s r.0 c.args.self.now c.args.slot r.4 r.5 r.2 r.3 in
    rw (c.pair_of.ensures, c.message.ensures, ← c.self.view_is) (let h = d in rw (← c.self.view_is) at h)
