-- Counts over the first n slots, as one pass makes them; over all slots they are those of the model's survey.
use Rattle.std.specs.Prelude.{ℕ, ◌+◌, ◌&&◌, not, List, eqb}
use Rattle.model.specs.declared.Posted.{Posted}
use Rattle.model.specs.Refusals.{◌when◌}
use Rattle.model.specs.Questions.{total, up_to}
use Rattle.model.specs.Messages.{pointer_of, is_nothing}
use Rattle.model.specs.Survey.{copies, decs, inc_decs, entered}

-- how many messages, each with its weight
abbrev pub weighed : (ℕ → Posted) → ℕ → (Posted → ℕ) → ℕ
weighed message n weight = total n (λ slot. weight (message slot))

-- what the pool adds to the share of a site, and what it takes from it
abbrev pub plus_of : (ℕ → Posted) → ℕ → ℕ → ℕ → ℕ → ℕ
plus_of message n site owner p = weighed message n (decs site owner p) + weighed message n (copies owner site p)

abbrev pub minus_of : (ℕ → Posted) → ℕ → ℕ → ℕ → ℕ → ℕ
minus_of message n site owner p = weighed message n (inc_decs site owner p)

-- what a message counts in the sheet of pointer p, at its own row and column
abbrev pub amount : ℕ → Posted → ℕ
amount p m = 1 when (not (is_nothing m) && eqb (pointer_of m) p)

-- the rows of the sheet of pointer p
abbrev pub entries : (ℕ → Posted) → ℕ → ℕ → List (List ℕ)
entries message p n = up_to 3 (λ row. up_to 64 (λ site. weighed message n (entered p (row + 1) site)))
