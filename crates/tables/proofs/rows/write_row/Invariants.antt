-- Cell after cell, each 1 where the site owns the pointer.
use Rattle.std.proofs.Common.{◌≡◌, take}
use Rattle.model.specs.Tables.{own_row}
use Rattle.tables.proofs.rows.write_row.Given as goal

abbrev pub invariant-loop-p : goal.invariant-loop-p
invariant-loop-p l = take l.p l.row ≡ own_row l.site (take l.p l.owners)
