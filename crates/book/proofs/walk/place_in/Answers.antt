-- `place_in`: where 18 is passed the walk stands at the entry, which ends in the book.
use Rattle.std.proofs.Common.{arith}
use Rattle.std.proofs.lemmas.Grind.{common_steps}
use Rattle.book.proofs.RefusalLaws.{rest_end, place_kept}
use Rattle.book.proofs.walk.place_in.Goals as goal

pub returns-in_err-when-clause-number : goal.returns-in_err-when-clause-number
returns-in_err-when-clause-number c =
    let e = rest_end c.walk_from.result _ _ _ (omega (arith, c.min-before.ensures)) c.in-Some.ensures.place c.walk_from.ensures.place c.eq-whole.ensures c.in_err-when.ensures.number in
    grind (arith, common_steps)

pub returns-clause-place : goal.returns-clause-place
returns-clause-place c l =
    let z = rest_end c.walk_from.result _ _ _ (omega (arith, c.min-before.ensures)) c.in-Some.ensures.place c.walk_from.ensures.place c.eq-whole.ensures c.in_ok-when.ensures.number in
    (place_kept c.args.book.now c.args.p c.args.g l (omega (arith, c.min-before.ensures)) c.in-Some.ensures.place z).0

pub returns-clause-inside : goal.returns-clause-inside
returns-clause-inside c l =
    let z = rest_end c.walk_from.result _ _ _ (omega (arith, c.min-before.ensures)) c.in-Some.ensures.place c.walk_from.ensures.place c.eq-whole.ensures c.in_ok-when.ensures.number in
    (place_kept c.args.book.now c.args.p c.args.g l (omega (arith, c.min-before.ensures)) c.in-Some.ensures.place z).1
