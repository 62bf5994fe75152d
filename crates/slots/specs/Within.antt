-- Document 01, "What the host lends": 0 to 1,024 slots.
use Rattle.std.specs.Prelude.{ℕ, ◌≤◌, List}
use Rattle.model.specs.Tables.{slots_of}

-- the slots from one place to before another, of a pool of at most 1,024 slots of w bytes, the five of a message or more
pub record Within (w : ℕ) (pool : List ℕ) (from end : ℕ) : Type 0 where
  pub wide : 5 ≤ w
  pub few : slots_of w pool ≤ 1024
  pub low : from ≤ end
  pub high : end ≤ slots_of w pool
