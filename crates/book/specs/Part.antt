-- A part of lent memory, as a host sees it: the block, the place in the block, and the bytes.
use Rattle.std.specs.Prelude.{ℕ, ◌+◌, List, take, drop}
use Rattle.std.specs.Borrow.{Bor}

pub record Part : Type 0 where
  pub block : ℕ
  pub place : ℕ
  pub bytes : List ℕ

-- a slice that is lent or handed out
abbrev pub seen : Bor (List ℕ) → Part
seen slice = record { block = slice.ref_ptr.0; place = slice.ref_ptr.1; bytes = slice.now }

-- n bytes of a part, from a place in it on
abbrev pub within : Part → ℕ → ℕ → Part
within part at n = record { block = part.block; place = part.place + at; bytes = take n (drop at part.bytes) }
