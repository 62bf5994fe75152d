-- The rooms of seven bytes are right.
use mathlib.Core.Path.{refl}
use Rattle.wide.proofs.WideLaws.{seven_sound, rooms_wide}
use Rattle.wide.proofs.word.SevenSlotForm.rooms_of.Goals as goal

pub returns : goal.returns
returns c =
    let a = c.args in
    rw c.wide_rooms.ensures (record { room = refl; low = rooms_wide a.s a.g; sound = seven_sound a.s a.g c.requires.0 c.requires.1 })
