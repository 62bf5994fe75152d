-- Site after site, each cell at its bit.
use Rattle.std.proofs.Common.{◌≡◌}
use Rattle.word_cells.specs.WordCells.{packed_word}
use Rattle.bits.proofs.pack.packed_word.Given as goal

abbrev pub invariant-loop-site : goal.invariant-loop-site
invariant-loop-site l = l.word ≡ packed_word l.site l.g l.cells l.p
