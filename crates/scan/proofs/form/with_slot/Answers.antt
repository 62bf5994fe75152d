-- The slot's number is the next.
use Prim.Native.Nat.{◌%◌}
use native.Mathlib.Omega.{arith}
use Rattle.scan.proofs.SeenLaws.{tells_more, tells_few}
use Rattle.scan.proofs.form.with_slot.Goals as goal

pub with_number-requires : goal.with_number-requires
with_number-requires g c =
    let few = tells_few g.F.SlotForm.form c.args.kinds.now.room c.args.pool.now c.args.slot c.args.seen c.requires.1 in
    omega (arith, few)

pub returns : goal.returns
returns g c =
    let a = c.args in
    let x = c.within.result in
    tells_more g.F.SlotForm.form a.kinds.now.room a.pool.now a.slot (x.whole % 4) x.looked a.seen c.with_number.result c.requires.1 c.within.ensures.shown c.with_number.ensures
