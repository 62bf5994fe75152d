-- Document 01, "What the host lends" and "The calls": a message, its slot bytes, and what it does where it is received.
use Rattle.std.specs.Prelude.{ℕ, zero, suc, ◌+◌, ◌-◌, Bool, true, false, ◌&&◌, cond, List, [], ◌∷◌, eqb}
use Rattle.model.specs.declared.Posted.{Posted}
use Rattle.model.specs.declared.Posted.TheVariants.{Copy, Dec, IncDec, Nothing}
use Rattle.model.specs.Refusals.{SameSite, CounterFull, CounterZero, ◌when◌, ◌or_else◌}

-- Kinds: 0 empty, 1 COPY, 2 DEC, 3 INC_DEC
abbrev pub kind_of : Posted → ℕ
kind_of (Copy from to p) = 1
kind_of (Dec from to p) = 2
kind_of (IncDec from to third p) = 3
kind_of Nothing = 0

-- a message as slot bytes: kind, from, to, third, pointer; in a COPY or DEC third is 0; an empty slot is five zero bytes
abbrev pub slot_of : Posted → List ℕ
slot_of (Copy from to p) = kind_of (Copy from to p) ∷ from ∷ to ∷ 0 ∷ p ∷ []
slot_of (Dec from to p) = kind_of (Dec from to p) ∷ from ∷ to ∷ 0 ∷ p ∷ []
slot_of (IncDec from to third p) = kind_of (IncDec from to third p) ∷ from ∷ to ∷ third ∷ p ∷ []
slot_of Nothing = kind_of Nothing ∷ 0 ∷ 0 ∷ 0 ∷ 0 ∷ []

-- slot bytes as a message; a kind above 3 is none
unfoldable pub message_of : ℕ → ℕ → ℕ → ℕ → ℕ → Posted
message_of zero from to third p = Nothing
message_of (suc zero) from to third p = Copy from to p
message_of (suc (suc zero)) from to third p = Dec from to p
message_of (suc (suc (suc zero))) from to third p = IncDec from to third p
message_of (suc (suc (suc (suc kind)))) from to third p = Nothing

-- no message
abbrev pub is_nothing : Posted → Bool
is_nothing (Copy from to p) = false
is_nothing (Dec from to p) = false
is_nothing (IncDec from to third p) = false
is_nothing Nothing = true

-- the site it came from, the site that receives it, and its pointer
abbrev pub sender : Posted → ℕ
sender (Copy from to p) = from
sender (Dec from to p) = from
sender (IncDec from to third p) = from
sender Nothing = 0

abbrev pub receiver : Posted → ℕ
receiver (Copy from to p) = to
receiver (Dec from to p) = to
receiver (IncDec from to third p) = to
receiver Nothing = 0

abbrev pub pointer_of : Posted → ℕ
pointer_of (Copy from to p) = p
pointer_of (Dec from to p) = p
pointer_of (IncDec from to third p) = p
pointer_of Nothing = 0

-- its own refusals, of the receiver's counter: COPY 4, DEC 10, INC_DEC 6
abbrev pub receive_refusal : Posted → ℕ → ℕ
receive_refusal (Copy from to p) counter = SameSite when eqb from to
receive_refusal (Dec from to p) counter = CounterZero when eqb counter 0
receive_refusal (IncDec from to third p) counter = CounterFull when eqb counter 65535
receive_refusal Nothing counter = 0

-- INC_DEC(a, b, third c): b's counter rises by 1; DEC(a, b): b's counter falls by 1
abbrev pub counter_after : Posted → ℕ → ℕ
counter_after (Copy from to p) counter = counter
counter_after (Dec from to p) counter = counter - 1
counter_after (IncDec from to third p) counter = counter + 1
counter_after Nothing counter = counter

-- COPY(a, b): b's receive cell is 1, or is set to 1
abbrev pub cell_after : Posted → ℕ → ℕ
cell_after (Copy from to p) cell = 1
cell_after (Dec from to p) cell = cell
cell_after (IncDec from to third p) cell = cell
cell_after Nothing cell = cell

-- COPY(a, b): if b's cell is 1, post DEC(b, a); otherwise, where a is not the owner, post INC_DEC(b, owner, third a)
-- INC_DEC(a, b, third c): post DEC(b, c)
abbrev pub reply : Posted → ℕ → ℕ → Posted
reply (Copy a b p) cell owner = cond (eqb cell 1) (Dec b a p) (cond (eqb a owner) Nothing (IncDec b owner a p))
reply (Dec a b p) cell owner = Nothing
reply (IncDec a b c p) cell owner = Dec b c p
reply Nothing cell owner = Nothing

-- what a receive decides: a refusal number (0: accepted), the receiver's counter and cell after it, and the posted message
pub record Effect : Type 0 where
  pub number : ℕ
  pub counter : ℕ
  pub cell : ℕ
  pub posted : Posted

-- what a receive decides, by its number: counter, cell and reply; after a refusal counter and cell stay, and nothing is posted
abbrev pub effect_unless : ℕ → Posted → ℕ → ℕ → ℕ → Effect
effect_unless zero m owner cell counter = record { number = 0; counter = counter_after m counter; cell = cell_after m cell; posted = reply m cell owner }
effect_unless (suc n) m owner cell counter = record { number = suc n; counter = counter; cell = cell; posted = Nothing }

-- of the message, the owner, the receiver's cell and counter, and the number of what comes too early; then the message's own
abbrev pub decided : Posted → ℕ → ℕ → ℕ → ℕ → Effect
decided m owner cell counter early = effect_unless (early or_else receive_refusal m counter) m owner cell counter

-- an INC_DEC from a to b for pointer p, with any third site
abbrev pub is_inc_dec : ℕ → ℕ → ℕ → Posted → Bool
is_inc_dec a b p (Copy from to q) = false
is_inc_dec a b p (Dec from to q) = false
is_inc_dec a b p (IncDec from to third q) = eqb from a && eqb to b && eqb q p
is_inc_dec a b p Nothing = false
