-- The layout of document 01: flat tables with the cell of site s and pointer p at s x G + p, slots of five bytes, and Held.
use Rattle.std.specs.Prelude.{ℕ, ◌*◌, List, eqb, length, get_or, set, replicate}
use Rattle.std.proofs.lemmas.List.Edits.{sets}
use Rattle.model.specs.Messages.{slot_of}
use Rattle.model.specs.Layout.{Layout}
use Rattle.model.specs.Calls.{held_refusal}
use Rattle.model.specs.Tables.{Desk, place, pool_good, all_below, all_slots_good, slots_of, message_at, empty_at, own_rows}
use Rattle.model.specs.Parts.{ReceiveTable, Pool, desk_of}

-- receive table: S x G bytes, 0 or 1, same places as the send table
abbrev pub byte_cells : ReceiveTable (List ℕ)
byte_cells = record {
  cell_in = λ g receive s p. get_or receive (place g s p) 0;
  fits = λ s g receive. eqb (length receive) (s * g);
  bits = λ s receive. all_below 2 receive;
  owned = λ s owners. own_rows s owners;
  set_in = λ g receive s p n. set receive (place g s p) n;
}

-- pool: slots of 5 bytes, and Held
abbrev pub held_slots : Pool (List ℕ)
held_slots = record {
  slots = λ pool. slots_of 5 pool;
  empty = λ pool slot. empty_at 5 pool slot;
  message = λ pool slot. message_at 5 pool slot;
  fits = λ s pool. pool_good 5 (length pool);
  slots_good = λ s g pool. all_slots_good 5 s g pool;
  early = λ s pool slot. held_refusal (slots_of 5 pool) (message_at 5 pool) (message_at 5 pool slot);
  cleared = λ pool. replicate (length pool) 0;
  post = λ s pool slot m. sets pool (slot * 5) (slot_of m);
  handled = λ s pool slot. pool;
}

abbrev pub flat : Layout Desk
flat = desk_of byte_cells held_slots
