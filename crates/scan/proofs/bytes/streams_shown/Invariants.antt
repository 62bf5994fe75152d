-- What is seen so far is clear where the words so far of each stream hold zeros and ones.
use mathlib.Core.Path.{◌≡◌}
use Rattle.model.specs.Questions.{every}
use Rattle.model.specs.Tables.{byte_below}
use Rattle.scan.specs.Word.{clear, bit_mask}
use Rattle.scan.proofs.EightLaws.{in_streams}
use Rattle.scan.proofs.bytes.streams_shown.Given as goal

abbrev pub invariant-loop-i : goal.invariant-loop-i
invariant-loop-i l = clear bit_mask l.seen ≡ every l.i (in_streams (byte_below 2 l.bytes) l.q)
