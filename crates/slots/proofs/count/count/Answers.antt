-- What is counted so far is the count over the slots so far.
use Rattle.std.proofs.Common.{◌+◌, ◌*◌, arith}
use Rattle.model.specs.Tables.{message_at}
use Rattle.slots.proofs.CountLaws.{no_counts, counts_to}
use Rattle.slots.proofs.count.count.Goals as goal

pub loop-t-init : goal.loop-t-init
loop-t-init g c = no_counts (message_at g.row.W c.args.pool.now) c.args.site c.args.owner c.args.p

pub loop-t-preserved : goal.loop-t-preserved
loop-t-preserved g c = let a = c.args in counts_to (message_at g.row.W a.pool.now) a.site a.owner a.p _ c.count_below-counts.ensures ((c.loop-t.t + 1) * 4) (omega arith)

pub count_below-requires-clause-so_far : goal.count_below-requires-clause-so_far
count_below-requires-clause-so_far g c = let a = c.args in counts_to (message_at g.row.W a.pool.now) a.site a.owner a.p (c.loop-t.t * 4) c.loop-t.invariant _ (omega arith)
