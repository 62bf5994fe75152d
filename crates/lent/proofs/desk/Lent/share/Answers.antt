-- What is added and what is taken off stays in range; plus less minus is the share.
use Rattle.std.proofs.Common.{rules, ◌≡◌, ◌+◌}
use Rattle.std.specs.Prelude.{get_or}
use mathlib.Core.Path.{◌∙◌}
use mir.Syntax.{w32}
use mir.Val.{to_z, of_z}
use native.Mathlib.Omega.{arith}
use Rattle.model.specs.Parts.{desk_of}
use Rattle.model.specs.Survey.{balance, share_number, share_plus, share_minus}
use Rattle.slots.specs.FirstSlots.{plus_of, minus_of}
use Rattle.slots.proofs.AnswerLaws.{accepted_share}
use Rattle.slots.proofs.CountLaws.{plus_at_most, minus_at_most}
use Rattle.lent.proofs.PassedLaws.{cell_small, few_slots}
use Rattle.lent.proofs.desk.Lent.share.Goals as goal

pub overflow_add-cell : goal.overflow_add-cell
overflow_add-cell g c =
    let k = c.in_ok-front.ensures.passed in
    let plus : c.count-pooled.result.plus ≡ plus_of (g.P.Slots.pool.message c.self.inside.pool) (g.P.Slots.pool.slots c.self.inside.pool) c.args.site (get_or c.self.inside.owners.now c.args.pointer 0) c.args.pointer = λ w. (c.count-pooled.ensures w).plus in
    let a = cell_small c.self.view_is k g.met.C.Cell.lawful c.args.site c.args.pointer (search rules) (search rules) c.cell_in-cell.ensures in
    let b = plus_at_most (g.P.Slots.pool.message c.self.inside.pool) (g.P.Slots.pool.slots c.self.inside.pool) c.args.site (get_or c.self.inside.owners.now c.args.pointer 0) c.args.pointer in
    omega (arith, a, b, few_slots c.self.view_is k, plus)

pub balance-requires : goal.balance-requires
balance-requires g c =
    let k = c.in_ok-front.ensures.passed in
    let plus : c.count-pooled.result.plus ≡ plus_of (g.P.Slots.pool.message c.self.inside.pool) (g.P.Slots.pool.slots c.self.inside.pool) c.args.site (get_or c.self.inside.owners.now c.args.pointer 0) c.args.pointer = λ w. (c.count-pooled.ensures w).plus in
    let minus : c.count-pooled.result.minus ≡ minus_of (g.P.Slots.pool.message c.self.inside.pool) (g.P.Slots.pool.slots c.self.inside.pool) c.args.site (get_or c.self.inside.owners.now c.args.pointer 0) c.args.pointer = λ w. (c.count-pooled.ensures w).minus in
    let a = cell_small c.self.view_is k g.met.C.Cell.lawful c.args.site c.args.pointer (search rules) (search rules) c.cell_in-cell.ensures in
    let b = plus_at_most (g.P.Slots.pool.message c.self.inside.pool) (g.P.Slots.pool.slots c.self.inside.pool) c.args.site (get_or c.self.inside.owners.now c.args.pointer 0) c.args.pointer in
    let m = minus_at_most (g.P.Slots.pool.message c.self.inside.pool) (g.P.Slots.pool.slots c.self.inside.pool) c.args.site (get_or c.self.inside.owners.now c.args.pointer 0) c.args.pointer in
    let s = few_slots c.self.view_is k in
    (omega (arith, a, b, s, plus), omega (arith, m, s, minus))

pub returns : goal.returns
unfolding share_number share_plus share_minus
returns g c =
    let L = desk_of g.C.Cell.table g.P.Slots.pool in
    let d = c.args.self.now in
    let counts = c.count-pooled.ensures in
    let zero : share_number L d c.args.site c.args.pointer ≡ 0 = search rules in
    let plus : c.cell_in-cell.result + c.count-pooled.result.plus ≡ share_plus L d c.args.site c.args.pointer = rw (← c.self.view_is, c.cell_in-cell.ensures) (let p : c.count-pooled.result.plus ≡ plus_of (g.P.Slots.pool.message c.self.inside.pool) (g.P.Slots.pool.slots c.self.inside.pool) c.args.site (get_or c.self.inside.owners.now c.args.pointer 0) c.args.pointer = λ w. (counts w).plus in omega (arith, p)) in
    let minus : c.count-pooled.result.minus ≡ share_minus L d c.args.site c.args.pointer = rw (← c.self.view_is) (λ w. (counts w).minus) in
    let z : to_z w32 (of_z w32 c.balance.result) ≡ c.balance.result = search rules in
    accepted_share L d c.args.site c.args.pointer zero (z ∙ c.balance.ensures ∙ (λ w. balance (plus w) (minus w)))
