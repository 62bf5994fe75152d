-- What is known of the desk when 1, 2 and 3 are not given.
use mathlib.Core.Path.{sym}
use Rattle.model.specs.Calls.{front}
use Rattle.lent.proofs.PassedLaws.{passed}
use Rattle.lent.proofs.desk.Lent.front.Goals as goal

pub returns-clause-passed : goal.returns-clause-passed
unfolding front
returns-clause-passed g c = passed g.C.Cell.table g.P.Slots.pool g.met.P.Slots.lawful c.args.self.now c.args.named (rw (sym c.in_ok-refusal.ensures, sym c.in_ok-when.ensures.number))
