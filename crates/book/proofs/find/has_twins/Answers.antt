-- `has_twins`: in a book each pointer has an entry, and the search below it finds what a lower one has.
use Rattle.std.proofs.Common.{◌<◌, length, refl, ◌∙◌, arith, below_more}
use Rattle.book.specs.Walk.{walked}
use Rattle.book.proofs.EntryLaws.{walked_next}
use Rattle.book.proofs.FindLaws.{entry_within, twin_sought, twin_found, twin_nowhere}
use Rattle.book.proofs.find.has_twins.Goals as goal

pub loop-p-init : goal.loop-p-init
unfolding walked
loop-p-init c = (refl, λ q l. absurd (omega arith))

pub returns-in_default : goal.returns-in_default
returns-in_default c =
    let a = c.args in
    let l = c.loop-p in
    absurd (omega (arith, entry_within a.owners.now a.book.now (length a.owners.now) c.requires l.p (omega arith) l.invariant.0 c.in_default.ensures.place))

pub returns-then-is_some : goal.returns-then-is_some
returns-then-is_some c =
    let l = c.loop-p in
    let m : l.p < length c.args.owners.now = omega arith in
    let sought = twin_sought _ _ _ c.requires l.p m l.invariant.0 c.in-Some.ensures.place m c.lowest.result c.lowest.ensures.pointer c.lowest.ensures.inside c.is_some.ensures in
    twin_found _ _ l.p m (sought ∙ c.if-is_some.true)

pub loop-p-preserved : goal.loop-p-preserved
loop-p-preserved c =
    let l = c.loop-p in
    let m : l.p < length c.args.owners.now = omega arith in
    let sought = twin_sought _ _ _ c.requires l.p m l.invariant.0 c.in-Some.ensures.place m c.lowest.result c.lowest.ensures.pointer c.lowest.ensures.inside c.is_some.ensures in
    (walked_next 1 _ 0 l.p l.invariant.0 c.in-Some.ensures.place, below_more _ _ l.invariant.1 (sought ∙ c.if-is_some.false))

pub returns : goal.returns
returns c = twin_nowhere _ _ (λ q l. c.loop-p.invariant.1 q (omega arith))
