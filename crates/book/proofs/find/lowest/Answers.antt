-- `lowest`: the tests are those of `meets`; where there is no entry, no later pointer meets either.
use Rattle.std.proofs.Common.{refl, sym, ◌∙◌, arith, below_more}
use Rattle.book.specs.Walk.{walked}
use Rattle.book.proofs.EntryLaws.{walked_next}
use Rattle.book.proofs.FindLaws.{first_lowest, none_lowest, none_lowest_on, meets_not_owner, meets_same, meets_none}
use Rattle.book.proofs.find.lowest.Goals as goal
use Rattle.book.proofs.find.lowest.Goals.{else-its-owner-via-then-its-owner+else-same_bytes, else-its-owner-via-else-its-owner}

pub loop-p-init : goal.loop-p-init
unfolding walked
loop-p-init c = (refl, λ q l. absurd (omega arith))

pub returns-in_err-end-clause-pointer : goal.returns-in_err-end-clause-pointer
returns-in_err-end-clause-pointer c =
    let l = c.loop-p in
    rw c.from_residual.ensures (none_lowest_on _ _ l.p l.invariant.1 (meets_none _ _ _ _ l.p l.invariant.0 c.in_err-end.ensures.place))

pub returns-then-same_bytes-clause-pointer : goal.returns-then-same_bytes-clause-pointer
returns-then-same_bytes-clause-pointer c =
    let l = c.loop-p in
    let e = c.in_ok-end.ensures in
    first_lowest _ _ l.p (omega arith) l.invariant.1
    (sym (meets_same _ _ _ _ l.p l.invariant.0 e.place e.inside.1 c.if-its-owner.true c.same_bytes.ensures) ∙ c.if-same_bytes.true)

pub loop-p-preserved : goal.loop-p-preserved
loop-p-preserved c =
    let l = c.loop-p in
    let e = c.in_ok-end.ensures in (
      walked_next 1 c.args.book.now 0 l.p l.invariant.0 e.place,
      below_more _ _ l.invariant.1
          (elim c.else-its-owner.branch [
            | else-its-owner-via-then-its-owner+else-same_bytes w ↦
                sym (meets_same _ _ _ _ l.p l.invariant.0 e.place e.inside.1 w.if-its-owner.true w.same_bytes.ensures) ∙ w.if-same_bytes.false
            | else-its-owner-via-else-its-owner w ↦ meets_not_owner _ _ _ _ l.p l.invariant.0 w.if-its-owner.false
          ]),
    )

pub returns-clause-pointer : goal.returns-clause-pointer
returns-clause-pointer c = none_lowest _ _ (λ q l. c.loop-p.invariant.1 q (omega arith))
