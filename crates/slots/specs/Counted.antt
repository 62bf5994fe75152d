-- What the pool adds to a share and what it takes from it, as one value.
use Rattle.std.specs.Prelude.{ℕ, ◌+◌}
use Rattle.model.specs.declared.Posted.{Posted}
use Rattle.model.specs.Survey.{copies, decs, inc_decs}
use Rattle.slots.specs.declared.count.Counts.{Counts}
use Rattle.slots.specs.FirstSlots.{plus_of, minus_of}

-- the counts with one message more
abbrev pub counted : ℕ → ℕ → ℕ → Counts → Posted → Counts
counted site owner p c m = record { plus = c.plus + (decs site owner p m + copies owner site p m); minus = c.minus + inc_decs site owner p m }

-- the counts of the first n slots
abbrev pub counts_of : (ℕ → Posted) → ℕ → ℕ → ℕ → ℕ → Counts
counts_of message n site owner p = record { plus = plus_of message n site owner p; minus = minus_of message n site owner p }
