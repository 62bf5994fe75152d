-- `has_twins`: no pointer passed has what a lower one has, and the walk stands at p.
use Rattle.std.proofs.Common.{◌≡◌, ℕ, ◌<◌, false}
use Rattle.book.specs.Book.{twin_below}
use Rattle.book.specs.Walk.{walked}
use Rattle.book.proofs.find.has_twins.Given as goal

abbrev pub invariant-loop-p : goal.invariant-loop-p
invariant-loop-p l = (l.at ≡ walked 1 l.book 0 l.p) × ((q : ℕ) → q < l.p → twin_below l.owners l.book q ≡ false)
