-- What a receive does is what `decided` decides, over any layout; after a refusal counter and cell are as given, and nothing is posted.
use Prim.Native.Nat.{ℕ, zero, suc}
use mathlib.Core.Path.{◌≡◌, refl}
use mathlib.Core.Logic.{◌≢◌}
use lib.Dec.{ltb}
use Rattle.model.specs.declared.Posted.{Posted}
use Rattle.model.specs.declared.Posted.TheVariants.{Nothing}
use Rattle.model.specs.Messages.{Effect}
use Rattle.model.specs.Refusals.{EmptySlot, ◌when◌, ◌or_else◌}
use Rattle.model.specs.Messages.{receiver, pointer_of, receive_refusal, counter_after, cell_after, reply, effect_unless, decided}
use Rattle.model.specs.Answers.{accepted, Outcome, unless}
use Rattle.model.specs.Layout.{Layout}
use Rattle.model.specs.Calls.{front, counter_there, cell_there, receive_number, received, receive}

-- ---- of its number
effect_number : (n : ℕ) (m : Posted) (owner cell counter : ℕ) → (effect_unless n m owner cell counter).number ≡ n
effect_number zero m owner cell counter = refl
effect_number (suc n) m owner cell counter = refl

effect_accepted : (n : ℕ) (m : Posted) (owner cell counter : ℕ) → n ≡ 0
    → effect_unless n m owner cell counter ≡ record { number = 0; counter = counter_after m counter; cell = cell_after m cell; posted = reply m cell owner }
effect_accepted n m owner cell counter e = rw e

effect_refused : (n : ℕ) (m : Posted) (owner cell counter : ℕ) → n ≢ 0
    → effect_unless n m owner cell counter ≡ record { number = n; counter = counter; cell = cell; posted = Nothing }
effect_refused zero m owner cell counter given = absurd (given refl)
effect_refused (suc n) m owner cell counter given = refl

-- The number is that of what comes too early, then the message's own.
pub decided_number : (m : Posted) (owner cell counter early : ℕ) → (decided m owner cell counter early).number ≡ early or_else receive_refusal m counter
decided_number m owner cell counter early = effect_number (early or_else receive_refusal m counter) m owner cell counter

-- After a refusal counter and cell are as given, and nothing is posted.
pub decided_refused : (m : Posted) (owner cell counter early : ℕ) → (decided m owner cell counter early).number ≢ 0
    → decided m owner cell counter early ≡ record { number = early or_else receive_refusal m counter; counter = counter; cell = cell; posted = Nothing }
decided_refused m owner cell counter early given =
    effect_refused (early or_else receive_refusal m counter) m owner cell counter (rw (decided_number m owner cell counter early) at given)

-- ---- of a slot
module _ {D : Type 0} (L : Layout D) where
  open L use {owner, slots, empty, message, early, set_counter, set_cell, post, handled}

  -- what is decided of the message of a slot
  abbrev pub decided_there : D → ℕ → Effect
  decided_there d slot = decided (message d slot) (owner d (pointer_of (message d slot))) (cell_there L d slot) (counter_there L d slot) (early d slot)

  -- the receiver's counter and cell as decided, and the slot with what is decided to be posted
  abbrev pub done_as : D → ℕ → Effect → Outcome D
  done_as d slot e =
      let m = message d slot in
      record {
        answer = accepted slot e.posted;
        desk = post (set_cell (set_counter (handled d slot) (receiver m) (pointer_of m) e.counter) (receiver m) (pointer_of m) e.cell) slot e.posted;
      }

  -- Where the number that is decided is 0, a received message does what is decided.
  pub received_as_decided : (d : D) (slot : ℕ) → (decided_there d slot).number ≡ 0 → received L d slot ≡ done_as d slot (decided_there d slot)
  unfolding received
  received_as_decided d slot e =
      let m = message d slot in
      let n = early d slot or_else receive_refusal m (counter_there L d slot) in
      let z : n ≡ 0 = rw (decided_number m (owner d (pointer_of m)) (cell_there L d slot) (counter_there L d slot) (early d slot)) at e in
      rw (effect_accepted n m (owner d (pointer_of m)) (cell_there L d slot) (counter_there L d slot) z)

  -- The number after 8 is the one that is decided.
  pub receive_number_decided : (d : D) (slot : ℕ)
      → receive_number L d slot ≡ front L d (ltb slot (slots d)) or_else EmptySlot when empty d slot or_else (decided_there d slot).number
  unfolding receive_number
  receive_number_decided d slot =
      let m = message d slot in
      rw (decided_number m (owner d (pointer_of m)) (cell_there L d slot) (counter_there L d slot) (early d slot))

  -- A receive does what is decided, or is refused.
  pub receive_as_decided : (d : D) (slot : ℕ)
      → receive L d slot
      ≡ unless (front L d (ltb slot (slots d)) or_else EmptySlot when empty d slot or_else (decided_there d slot).number) d (done_as d slot (decided_there d slot))
  unfolding receive
  receive_as_decided d slot =
      rw (receive_number_decided d slot)
      (go (front L d (ltb slot (slots d))) (EmptySlot when empty d slot) (decided_there d slot).number refl)
    where
      go : (a b n : ℕ) → (decided_there d slot).number ≡ n → unless (a or_else b or_else n) d (received L d slot) ≡ unless (a or_else b or_else n) d (done_as d slot (decided_there d slot))
      go (suc a) b n e = refl
      go zero (suc b) n e = refl
      go zero zero (suc n) e = refl
      go zero zero zero e = received_as_decided d slot e
