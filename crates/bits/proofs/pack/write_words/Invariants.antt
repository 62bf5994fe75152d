-- Word after word, each packed from the cells of its pointer.
use Rattle.std.proofs.Common.{◌≡◌, length, take}
use Rattle.model.specs.Questions.{up_to}
use Rattle.word_cells.specs.WordCells.{packed_word}
use Rattle.bits.proofs.pack.write_words.Given as goal

abbrev pub invariant-loop-p : goal.invariant-loop-p
invariant-loop-p l = take l.p l.words ≡ up_to l.p (packed_word l.sites (length l.words) l.cells)
