-- `search`: 1, 2, 18, then 3, then what one pass over the book finds, or 20.
use Rattle.std.proofs.Common.{arith}
use Rattle.std.proofs.lemmas.Grind.{common_steps}
use Rattle.book.proofs.SearchLaws.{all_passed, few_owners, sought_refused, sought_accepted}
use Rattle.book.proofs.search.Goals as goal

pub returns-in_err-p : goal.returns-in_err-p
returns-in_err-p c =
    let z = all_passed _ _ _ _ c.in_ok-owners_refusal.ensures c.in_ok-found.ensures.number c.in_ok-when.ensures.number in
    let t = sought_refused _ _ _ _ _ z c.in_ok-found.found c.in_ok-found.ensures.pointer c.in_ok-found.ensures.inside _ c.in_err-p.ensures.value in
    grind (arith, common_steps)

pub overflow_cast-p : goal.overflow_cast-p
overflow_cast-p c =
    let z = all_passed _ _ _ _ c.in_ok-owners_refusal.ensures c.in_ok-found.ensures.number c.in_ok-when.ensures.number in
    let few = few_owners _ _ _ _ c.args.wanted.now z in
    grind (arith, common_steps)

pub returns : goal.returns
returns c =
    let z = all_passed _ _ _ _ c.in_ok-owners_refusal.ensures c.in_ok-found.ensures.number c.in_ok-when.ensures.number in
    sought_accepted _ _ _ _ _ z c.in_ok-found.found c.in_ok-found.ensures.pointer c.in_ok-found.ensures.inside c.new.result c.in_ok-p.ensures.value c.new.ensures
