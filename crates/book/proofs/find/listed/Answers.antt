-- `listed`: the tests are those of `meets`; 18 where the walk leaves the book or does not end where it does.
use Rattle.std.proofs.Common.{◌+◌, refl, sym, ◌∙◌, arith, below_more, length}
use Rattle.std.proofs.lemmas.Grind.{common_steps}
use Rattle.book.specs.Walk.{walked}
use Rattle.book.proofs.EntryLaws.{walked_next}
use Rattle.book.proofs.FindLaws.{first_lowest, none_lowest, meets_not_owner, meets_same}
use Rattle.book.proofs.RefusalLaws.{rest_end, walked_short, walked_end}
use Rattle.book.proofs.find.listed.Goals as goal
use Rattle.book.proofs.find.listed.Goals.{else-own-owner-via-then-own-owner+else-same_bytes, else-own-owner-via-else-own-owner}

pub loop-p-init : goal.loop-p-init
unfolding walked
loop-p-init c = (refl, omega arith, λ q l. absurd (omega arith))

pub returns-in_default-clause-number : goal.returns-in_default-clause-number
returns-in_default-clause-number c =
    let l = c.loop-p in
    rw (walked_short c.args.book.now (l.p + 1) (length c.args.owners.now) (omega arith) (walked_next 1 c.args.book.now 0 l.p l.invariant.0 c.in_default.ensures.place))

pub returns-in_err-when-clause-number : goal.returns-in_err-when-clause-number
returns-in_err-when-clause-number c =
    let l = c.loop-p in
    let past = walked_next 1 c.args.book.now 0 l.p l.invariant.0 c.in-Some.ensures.place in
    let e = rest_end c.walk_from.result _ (l.p + 1) (length c.args.owners.now) (omega arith) past c.walk_from.ensures.place c.eq-whole.ensures c.in_err-when.ensures.number in
    grind (arith, common_steps)

pub returns-then-same_bytes-clause-number : goal.returns-then-same_bytes-clause-number
returns-then-same_bytes-clause-number c =
    let l = c.loop-p in
    let past = walked_next 1 c.args.book.now 0 l.p l.invariant.0 c.in-Some.ensures.place in
    rest_end c.walk_from.result _ (l.p + 1) (length c.args.owners.now) (omega arith) past c.walk_from.ensures.place c.eq-whole.ensures c.in_ok-when.ensures.number

pub returns-then-same_bytes-clause-pointer : goal.returns-then-same_bytes-clause-pointer
returns-then-same_bytes-clause-pointer c =
    let l = c.loop-p in
    let e = c.in-Some.ensures in
    first_lowest _ _ l.p (omega arith) l.invariant.2
    (sym (meets_same _ _ _ _ l.p l.invariant.0 e.place e.inside.1 c.if-own-owner.true c.same_bytes.ensures) ∙ c.if-same_bytes.true)

pub loop-p-preserved : goal.loop-p-preserved
loop-p-preserved c =
    let l = c.loop-p in
    let e = c.in-Some.ensures in (
      walked_next 1 c.args.book.now 0 l.p l.invariant.0 e.place,
      e.inside.1,
      below_more _ _ l.invariant.2
          (elim c.else-own-owner.branch [
            | else-own-owner-via-then-own-owner+else-same_bytes w ↦
                sym (meets_same _ _ _ _ l.p l.invariant.0 e.place e.inside.1 w.if-own-owner.true w.same_bytes.ensures) ∙ w.if-same_bytes.false
            | else-own-owner-via-else-own-owner w ↦ meets_not_owner _ _ _ _ l.p l.invariant.0 w.if-own-owner.false
          ]),
    )

pub returns-in_err-when-2-clause-number : goal.returns-in_err-when-2-clause-number
returns-in_err-when-2-clause-number c =
    let e = walked_end c.args.book.now (length c.args.owners.now) c.loop-p.invariant.0 (omega arith) c.in_err-when-2.ensures.number in
    grind (arith, common_steps)

pub returns-clause-number : goal.returns-clause-number
returns-clause-number c = walked_end c.args.book.now (length c.args.owners.now) c.loop-p.invariant.0 (omega arith) c.in_ok-when-2.ensures.number

pub returns-clause-pointer : goal.returns-clause-pointer
returns-clause-pointer c = none_lowest _ _ (λ q l. c.loop-p.invariant.2 q (omega arith))
