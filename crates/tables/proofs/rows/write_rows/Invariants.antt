-- Row after row, each at its site's place.
use Rattle.std.proofs.Common.{◌≡◌, ◌*◌, length, take}
use Rattle.model.specs.Tables.{own_rows}
use Rattle.tables.proofs.rows.write_rows.Given as goal

abbrev pub invariant-loop-site : goal.invariant-loop-site
invariant-loop-site l = (l.at ≡ l.site * length l.owners) × (take l.at l.cells ≡ own_rows l.site l.owners)
