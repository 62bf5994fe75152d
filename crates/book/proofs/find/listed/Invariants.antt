-- `listed`: no pointer passed has both, and the walk stands at p.
use Rattle.std.proofs.Common.{◌≡◌, ℕ, ◌<◌, ◌≤◌, false, length}
use Rattle.book.specs.Walk.{walked, meets}
use Rattle.book.proofs.find.listed.Given as goal

abbrev pub invariant-loop-p : goal.invariant-loop-p
invariant-loop-p l = (l.at ≡ walked 1 l.book 0 l.p) × (l.at ≤ length l.book) × ((q : ℕ) → q < l.p → meets l.owners l.book l.owner l.address q ≡ false)
