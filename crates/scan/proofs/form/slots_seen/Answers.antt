-- Nothing is seen of no slot; the last slot ends them.
use Prim.Native.Nat.{◌+◌, ◌*◌, ◌/◌, ◌%◌}
use mathlib.Core.Path.{◌≡◌, refl}
use native.Mathlib.Omega.{arith}
use Rattle.model.specs.Questions.{every, how_many}
use Rattle.scan.proofs.SeenLaws.{tells_more, tells_few}
use Rattle.scan.proofs.form.slots_seen.Goals as goal

pub loop-i-init : goal.loop-i-init
unfolding every how_many
loop-i-init g c = (refl, refl)

pub with_number-requires : goal.with_number-requires
with_number-requires g c =
    let few = tells_few g.F.SlotForm.form c.args.kinds.now.room c.args.pool.now _ c.with_eights-grouped.result c.with_eights-grouped.ensures in
    omega (arith, few)

pub returns : goal.returns
returns g c =
    let f = g.F.SlotForm.form in
    let a = c.args in
    let q : a.last % 8 + a.last / 8 * 8 ≡ a.last = omega arith in
    let told = rw q at c.with_eights-grouped.ensures in
    rw (← c.requires) (tells_more f a.kinds.now.room a.pool.now a.last (c.alone-end.result.whole % 4) c.alone-end.result.looked c.with_eights-grouped.result c.with_number.result told c.alone-end.ensures.shown c.with_number.ensures)
