-- Owner after owner, as the line has them.
use Rattle.std.proofs.Common.{◌≡◌, ◌+◌, take}
use Rattle.model.specs.Questions.{up_to}
use Rattle.model.specs.Lines.{byte_at}
use Rattle.runner.proofs.opening.fill_owners.Given as goal

abbrev pub invariant-loop-p : goal.invariant-loop-p
invariant-loop-p l = take l.p l.owners ≡ up_to l.p (λ p. byte_at l.line (p + 3))
