-- The buffer keeps its length, and what is read stands within it.
use Rattle.std.proofs.Common.{length, ◌-◌, ◌≡◌, ◌≤◌}
use Rattle.desk.proofs.read_full.Given as goal

abbrev pub invariant-loop-n : goal.invariant-loop-n
invariant-loop-n l = (l.n ≤ length l.buffer) × (length l.buffer ≡ length l.initial.buffer)

abbrev pub decreases-loop-n : goal.decreases-loop-n
decreases-loop-n l = length l.buffer - l.n
