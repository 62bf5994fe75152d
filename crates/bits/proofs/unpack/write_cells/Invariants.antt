-- Row after row, each at its site's place.
use Rattle.std.proofs.Common.{◌≡◌, ◌*◌, length, take}
use Rattle.word_cells.specs.WordCells.{unpacked}
use Rattle.bits.proofs.unpack.write_cells.Given as goal

abbrev pub invariant-loop-site : goal.invariant-loop-site
invariant-loop-site l = take (l.site * length l.words) l.cells ≡ unpacked l.site l.words
