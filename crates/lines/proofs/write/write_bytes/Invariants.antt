-- `write_bytes` meets its promise: what is left, written at the loop's place, gives what all, written at the start, gives.
use mathlib.Core.Path.{◌≡◌}
use Prim.Native.Nat.{◌+◌, ◌*◌}
use lib.ListN.{drop}
use lib.Seq.{sets}
use Rattle.model.specs.Lines.{digits_of}
use Rattle.lines.proofs.write.write_bytes.Given as goal

abbrev pub invariant-loop-i : goal.invariant-loop-i
invariant-loop-i l = sets l.text (l.at + l.i * 2) (digits_of (drop l.i l.bytes)) ≡ sets l.initial.text l.at (digits_of l.bytes)
