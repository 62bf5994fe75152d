-- `walk_from`: past as many entries as turns.
use Rattle.std.proofs.Common.{◌≡◌, ◌≤◌, length}
use Rattle.book.specs.Walk.{walked}
use Rattle.book.proofs.walk.walk_from.Given as goal

abbrev pub invariant-loop : goal.invariant-loop
invariant-loop l = (l.at ≡ walked l.least l.book l.from l.counter) × (l.from ≤ length l.book → l.at ≤ length l.book)
