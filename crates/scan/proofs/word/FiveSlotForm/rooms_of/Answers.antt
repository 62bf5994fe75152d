-- The rooms of five bytes are right.
use mathlib.Core.Path.{refl}
use native.Mathlib.Omega.{arith}
use Rattle.scan.proofs.FiveLaws.{five_sound, rooms_low}
use Rattle.scan.proofs.word.FiveSlotForm.rooms_of.Goals as goal

pub returns : goal.returns
returns c =
    let a = c.args in
    rw c.rooms_of.ensures (record { room = refl; low = λ j. omega (arith, rooms_low a.s a.g j); sound = five_sound a.s a.g c.requires.0 c.requires.1 })
