-- `walk_from`: past as many entries as turns; where there is no entry, the walk has left the book for good.
use Rattle.std.proofs.Common.{◌+◌, refl, sym, arith}
use Rattle.book.specs.Walk.{walked}
use Rattle.book.proofs.EntryLaws.{walked_next, walked_out}
use Rattle.book.proofs.walk.walk_from.Goals as goal

pub loop-init : goal.loop-init
unfolding walked
loop-init c = (refl, λ low. low)

pub returns-in_err-at-clause-place : goal.returns-in_err-at-clause-place
returns-in_err-at-clause-place c =
    let l = c.loop in
    let a = c.args in
    let out = walked_next a.least a.book.now a.from l.counter l.invariant.0 c.in_err-at.ensures.place in
    let far = walked_out a.least a.book.now a.from (l.counter + 1) a.n (omega arith) (sym out) in
    cc

pub loop-preserved : goal.loop-preserved
loop-preserved c =
    let l = c.loop in
    let a = c.args in
    (walked_next a.least a.book.now a.from l.counter l.invariant.0 c.in_ok-at.ensures.place, λ low. c.in_ok-at.ensures.inside.1)
