-- The owner's counter stands in the send table.
use Rattle.std.proofs.Common.{rules}
use Rattle.std.specs.Prelude.{get_or}
use Rattle.lent.proofs.PassedLaws.{in_send}
use Rattle.lent.proofs.desk.Lent.ask.Goals as goal

pub bounds-self-inside-place_of : goal.bounds-self-inside-place_of
bounds-self-inside-place_of g c =
    in_send c.self.view_is c.in_ok-front.ensures.passed (get_or c.self.inside.owners.now c.args.pointer 0) c.args.pointer (search rules) (search rules) c.place_of.ensures
