-- Cell after cell, each the bit of its word.
use Rattle.std.proofs.Common.{◌≡◌, map, take}
use Rattle.word_cells.specs.WordCells.{bit}
use Rattle.bits.proofs.unpack.write_row.Given as goal

abbrev pub invariant-loop-p : goal.invariant-loop-p
invariant-loop-p l = take l.p l.row ≡ map (λ word. bit word l.site) (take l.p l.words)
