-- What is seen tells of all slots.
use mathlib.Core.Path.{sym, ◌∙◌}
use native.Mathlib.Omega.{arith}
use Rattle.scan.proofs.SeenLaws.{clear_answer, shown_answer, no_answer}
use Rattle.scan.proofs.form.slots_tested.Goals as goal

pub returns-then-n-eq0 : goal.returns-then-n-eq0
returns-then-n-eq0 g c =
    let a = c.args in
    no_answer g.F.SlotForm.form a.s a.g c.rooms_of.result c.rooms_of.ensures.sound a.pool.now (λ j. omega (arith, c.type_inv.pool j)) (sym c.slots-n.ensures ∙ c.if-n-eq0.true)

pub returns-then-is_clear : goal.returns-then-is_clear
returns-then-is_clear g c =
    let a = c.args in
    clear_answer g.F.SlotForm.form a.s a.g c.rooms_of.result c.rooms_of.ensures.sound a.pool.now (λ j. omega (arith, c.type_inv.pool j)) c.slots_seen-seen.result
    c.slots_seen-seen.ensures c.is_clear.ensures c.if-is_clear.true

pub returns-else-is_clear : goal.returns-else-is_clear
returns-else-is_clear g c =
    let a = c.args in
    shown_answer g.F.SlotForm.form a.s a.g c.rooms_of.result c.rooms_of.ensures.sound a.pool.now (λ j. omega (arith, c.type_inv.pool j)) c.slots_seen-seen.result
    c.slots_seen-seen.ensures c.is_clear.ensures c.if-is_clear.false
