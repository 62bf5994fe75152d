-- The slot's message is counted in its own row and column.
use Rattle.std.proofs.Common.{◌≤◌, ◌<◌, [], get_or, arith}
use Rattle.model.specs.Tables.{message_at}
use Rattle.slots.proofs.SheetLaws.{amount_at_most_1, entry_at_most, entries_more, row_below_3}
use Rattle.slots.proofs.entries.enter.Goals as goal

pub overflow_add-rows : goal.overflow_add-rows
overflow_add-rows g c =
    let a = c.args in
    let row : c.row.result < 3 = rw c.row.ensures (row_below_3 c.read_slot-m.result) in
    let column : c.column.result < 64 = rw (c.column.ensures, c.read_slot-m.ensures) c.requires.site in
    let entry : get_or (get_or a.rows.now c.row.result []) c.column.result 0 ≤ a.slot = entry_at_most (message_at g.row.W a.pool.now) a.p a.slot _ _ c.requires.so_far row column in
    let counted : c.amount.result ≤ 1 = rw c.amount.ensures (amount_at_most_1 a.p c.read_slot-m.result) in
    omega arith

pub returns : goal.returns
returns g c =
    let a = c.args in
    let message = c.read_slot-m.ensures in
    rw c.requires.so_far
    (entries_more (message_at g.row.W a.pool.now) a.p a.slot _ _ _ (rw message at c.row.ensures) (rw message at c.column.ensures) (rw message at c.amount.ensures)
    (rw (c.column.ensures, message) c.requires.site))
