-- What a counting desk reads and writes, whatever its bytes are. D is the lent memory.
use Rattle.std.specs.Prelude.{ℕ, Bool}
use Rattle.model.specs.declared.Posted.{Posted}

pub record Layout (D : Type 0) : Type 0 where
  -- read: S, G, the owner of a pointer, the counter and the receive cell of a site and a pointer
  pub sites : D → ℕ
  pub pointers : D → ℕ
  pub owner : D → ℕ → ℕ
  pub counter : D → ℕ → ℕ → ℕ
  pub cell : D → ℕ → ℕ → ℕ
  -- read: how many slots, whether one is empty, the message of one
  pub slots : D → ℕ
  pub empty : D → ℕ → Bool
  pub message : D → ℕ → Posted
  -- tested: S, G, lengths and slot count (1); the owners (2 of an opening); owners, receive cells and slots (2 of a call)
  pub shaped : D → Bool
  pub owned : D → Bool
  pub sound : D → Bool
  -- tested: the number of a slot's message that comes too early, 9 in document 01; 0 where it may be received
  pub early : D → ℕ → ℕ
  -- written: all by an opening; a counter; a receive cell; a slot; and what is noted of a slot's message when it is handled
  pub cleared : D → D
  pub set_counter : D → ℕ → ℕ → ℕ → D
  pub set_cell : D → ℕ → ℕ → ℕ → D
  pub post : D → ℕ → Posted → D
  pub handled : D → ℕ → D
