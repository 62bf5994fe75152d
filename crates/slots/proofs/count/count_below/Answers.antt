-- One slot more is counted; one of another pointer counts nothing.
use Rattle.std.proofs.Common.{◌∙◌, arith}
use Rattle.model.specs.Tables.{message_at}
use Rattle.slots.proofs.PointerLaws.{other_pointer}
use Rattle.slots.proofs.CountLaws.{counts_few, counts_to, counts_more, counts_kept}
use Rattle.slots.proofs.count.count_below.Goals as goal
use Rattle.slots.proofs.count.count_below.Goals.{then-pool-slot, else-pool-slot}

pub with-counts-requires : goal.with-counts-requires
with-counts-requires g c = let a = c.args in counts_few (message_at g.row.W a.pool.now) a.site a.owner a.p c.loop-slot.slot c.loop-slot.invariant (omega arith)

pub loop-slot-preserved : goal.loop-slot-preserved
loop-slot-preserved g c =
    let a = c.args in
    elim c.if-pool-slot.branch [
      | then-pool-slot w ↦ w.counts-is ∙ counts_more (message_at g.row.W a.pool.now) a.site a.owner a.p c.loop-slot.slot c.loop-slot.invariant w.read_slot.ensures w.with-counts.ensures
      | else-pool-slot w ↦ w.counts-is ∙ counts_kept (message_at g.row.W a.pool.now) a.site a.owner a.p c.loop-slot.slot c.loop-slot.invariant (other_pointer g.row.W a.pool.now c.loop-slot.slot a.p w.if-pool-slot.false)
    ]

pub returns : goal.returns
returns g c = let a = c.args in counts_to (message_at g.row.W a.pool.now) a.site a.owner a.p c.loop-slot.slot c.loop-slot.invariant a.end (omega arith)
