-- The rows, where the number is 0.
use Rattle.std.proofs.Common.{rules, ◌≡◌}
use Rattle.model.specs.Parts.{desk_of}
use Rattle.model.specs.Survey.{sheet_number, sheet}
use Rattle.lent.proofs.desk.Lent.sheet.Goals as goal

pub returns-clause-rows : goal.returns-clause-rows
unfolding sheet_number sheet
returns-clause-rows g c =
    let z : sheet_number (desk_of g.C.Cell.table g.P.Slots.pool) c.args.self.now c.args.pointer ≡ 0 = search rules in
    rw (z, ← c.self.view_is) c.entries.ensures
