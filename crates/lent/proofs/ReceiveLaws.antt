-- The message of a full slot, and the order of what turns its receive down.
use Rattle.std.specs.Prelude.{ℕ, ◌≡◌, ◌<◌, length, ltb}
use mathlib.Core.Path.{refl, sym}
use Rattle.model.specs.declared.Posted.{Posted}
use Rattle.model.specs.Refusals.{EmptySlot, ◌when◌, ◌or_else◌}
use Rattle.model.specs.Messages.{receiver, pointer_of}
use Rattle.model.specs.Layout.{Layout}
use Rattle.model.specs.Parts.{ReceiveTable, Pool, LawfulCells, LawfulPool, desk_of}
use Rattle.model.specs.Tables.{Lent}
use Rattle.model.specs.Calls.{front, receive_number}
use Rattle.model.proofs.TestLaws.{or_else_assoc}
use Rattle.model.proofs.PartLaws.{desk_laws}
use Rattle.model.proofs.ReceiveLaws.{slot_number, own_number, slot_full, known_message}

module _ {D : Type 0} (L : Layout D) (d : D) (slot : ℕ) where
  pub receive_split : receive_number L d slot ≡ slot_number L d slot or_else own_number L d slot
  unfolding receive_number
  receive_split = sym (or_else_assoc (front L d (ltb slot (L.slots d))) (EmptySlot when L.empty d slot) (own_number L d slot))

-- a message's receiver and pointer are in range
pub in_range : {R Q : Type 0} (T : ReceiveTable R) (P : Pool Q) → LawfulCells T → LawfulPool P → (d : Lent R Q) (slot : ℕ) {m : Posted} → slot_number (desk_of T P) d slot ≡ 0 → m ≡ P.message d.pool slot
    → (receiver m < d.S) × (pointer_of m < length d.owners)
in_range T P C O d slot z em =
    let k = known_message T P d slot O (slot_full (desk_of T P) d slot (desk_laws T P C O) z) (λ f ls lp. tt {0}) em refl refl in
    (k.a_site, k.a_pointer)
