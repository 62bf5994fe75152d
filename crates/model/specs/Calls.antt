-- Document 01, "The calls" and "Why a call is turned down", over any layout.
use Rattle.std.specs.Prelude.{ℕ, ◌+◌, Bool, ◌&&◌, not, leb, ltb, eqb}
use Rattle.model.specs.declared.Posted.{Posted}
use Rattle.model.specs.declared.Posted.TheVariants.{Copy, Dec, IncDec, Nothing}
use Rattle.model.specs.declared.Call.{Call}
use Rattle.model.specs.declared.Call.TheVariants.{MakeCopy, Receive, Delete, Ask}
use Rattle.model.specs.Refusals.{BadShape, BadTable, BadName, SameSite, NotHeld, CounterFull, PoolFull, EmptySlot, Held, IsOwner, StillCounted, NotOwner, ◌when◌, ◌or_else◌}
use Rattle.model.specs.Questions.{some, how_many, lowest}
use Rattle.model.specs.Messages.{receiver, pointer_of, receive_refusal, counter_after, cell_after, reply, is_inc_dec}
use Rattle.model.specs.Answers.{accepted, accepted_telling, Outcome, unless}
use Rattle.model.specs.Layout.{Layout}

-- make copy 4, 5, 6, 7: of the owner, the sender's cell and counter, the lowest empty slot and the slot count
unfoldable pub copy_refusal : ℕ → ℕ → ℕ → ℕ → ℕ → ℕ → ℕ → ℕ
copy_refusal from to owner cell counter slot slots =
    SameSite when eqb from to
    or_else NotHeld when (not (eqb from owner) && eqb cell 0)
    or_else CounterFull when eqb counter 65535
    or_else PoolFull when leb slots slot

-- receive 9: DEC(a, b) while some of n slots holds an INC_DEC from a to b for that pointer, with any third site
abbrev pub held_refusal : ℕ → (ℕ → Posted) → Posted → ℕ
held_refusal n message (Copy a b p) = 0
held_refusal n message (Dec a b p) = Held when some n (λ slot. is_inc_dec a b p (message slot))
held_refusal n message (IncDec a b c p) = 0
held_refusal n message Nothing = 0

-- delete 11, 5, 12, 7: of the owner, the site's cell and counter, the lowest empty slot and the slot count
unfoldable pub delete_refusal : ℕ → ℕ → ℕ → ℕ → ℕ → ℕ → ℕ
delete_refusal site owner cell counter slot slots =
    IsOwner when eqb site owner
    or_else NotHeld when eqb cell 0
    or_else StillCounted when not (eqb counter 0)
    or_else PoolFull when leb slots slot

module _ {D : Type 0} (L : Layout D) where
  open L use {sites, pointers, owner, counter, cell, slots, empty, message, shaped, owned, sound, early, cleared, set_counter, set_cell, post, handled}

  -- 1, 2: what is lent breaks its form
  unfoldable pub lent_refusal : D → ℕ
  lent_refusal d = BadShape when not (shaped d) or_else BadTable when not (sound d)

  -- 1, 2, 3: before every call's own tests; named: whether the call's sites, pointer and slot are in range
  unfoldable pub front : D → Bool → ℕ
  front d named = lent_refusal d or_else BadName when not named

  -- the lowest empty slot; the slot count where no slot is empty
  abbrev pub lowest_empty : D → ℕ
  lowest_empty d = lowest (slots d) (empty d)

  -- how many slots are empty
  abbrev pub empty_slots : D → ℕ
  empty_slots d = how_many (slots d) (empty d)

  -- ---- opening
  unfoldable pub open_refusal : D → ℕ
  open_refusal d = BadShape when not (shaped d) or_else BadTable when not (owned d)

  unfoldable pub open_desk : D → Outcome D
  open_desk d = unless (open_refusal d) d (record { answer = accepted 0 Nothing; desk = cleared d })

  -- ---- make copy (from, to, pointer)
  unfoldable pub copy_number : D → ℕ → ℕ → ℕ → ℕ
  copy_number d from to p =
      front d (ltb from (sites d) && ltb to (sites d) && ltb p (pointers d))
      or_else copy_refusal from to (owner d p) (cell d from p) (counter d from p) (lowest_empty d) (slots d)

  -- the sender's counter rises by 1; COPY(from, to) goes to the lowest empty slot; the value is that slot; how many were empty before is told
  unfoldable pub copied : D → ℕ → ℕ → ℕ → Outcome D
  copied d from to p =
      let raised = set_counter d from p (counter d from p + 1) in
      record {
        answer = accepted_telling (empty_slots d) (lowest_empty d) (Copy from to p);
        desk = post raised (lowest_empty d) (Copy from to p);
      }

  unfoldable pub make_copy : D → ℕ → ℕ → ℕ → Outcome D
  make_copy d from to p = unless (copy_number d from to p) d (copied d from to p)

  -- ---- receive (slot)
  -- the receiver's counter and cell, the owner, and what is posted, for the message of a slot
  abbrev pub counter_there : D → ℕ → ℕ
  counter_there d slot = counter d (receiver (message d slot)) (pointer_of (message d slot))

  abbrev pub cell_there : D → ℕ → ℕ
  cell_there d slot = cell d (receiver (message d slot)) (pointer_of (message d slot))

  abbrev pub replied : D → ℕ → Posted
  replied d slot = reply (message d slot) (cell_there d slot) (owner d (pointer_of (message d slot)))

  -- 8, then what comes too early, then the message's own
  unfoldable pub receive_number : D → ℕ → ℕ
  receive_number d slot =
      front d (ltb slot (slots d))
      or_else EmptySlot when empty d slot
      or_else early d slot
      or_else receive_refusal (message d slot) (counter_there d slot)

  -- a message that is posted takes the handled slot; if none is posted, the slot becomes empty; the value is the slot
  unfoldable pub received : D → ℕ → Outcome D
  received d slot =
      let m = message d slot in
      let counted = set_counter (handled d slot) (receiver m) (pointer_of m) (counter_after m (counter_there d slot)) in
      let marked = set_cell counted (receiver m) (pointer_of m) (cell_after m (cell_there d slot)) in
      record {
        answer = accepted slot (replied d slot);
        desk = post marked slot (replied d slot);
      }

  unfoldable pub receive : D → ℕ → Outcome D
  receive d slot = unless (receive_number d slot) d (received d slot)

  -- ---- delete (site, pointer)
  unfoldable pub delete_number : D → ℕ → ℕ → ℕ
  delete_number d site p =
      front d (ltb site (sites d) && ltb p (pointers d))
      or_else delete_refusal site (owner d p) (cell d site p) (counter d site p) (lowest_empty d) (slots d)

  -- the receive cell becomes 0; DEC(site, owner) goes to the lowest empty slot; the value is that slot; how many were empty before is told
  unfoldable pub deleted : D → ℕ → ℕ → Outcome D
  deleted d site p =
      record {
        answer = accepted_telling (empty_slots d) (lowest_empty d) (Dec site (owner d p) p);
        desk = post (set_cell d site p 0) (lowest_empty d) (Dec site (owner d p) p);
      }

  unfoldable pub delete : D → ℕ → ℕ → Outcome D
  delete d site p = unless (delete_number d site p) d (deleted d site p)

  -- ---- ask (site, pointer)
  unfoldable pub ask_number : D → ℕ → ℕ → ℕ
  ask_number d site p =
      front d (ltb site (sites d) && ltb p (pointers d))
      or_else NotOwner when not (eqb site (owner d p))

  -- 1 if the owner's counter is 0, else 0; it changes nothing
  unfoldable pub asked : D → ℕ → Outcome D
  asked d p = record { answer = accepted (1 when eqb (counter d (owner d p) p) 0) Nothing; desk = d }

  unfoldable pub ask : D → ℕ → ℕ → Outcome D
  ask d site p = unless (ask_number d site p) d (asked d p)

  -- ---- a call
  unfoldable pub step : D → Call → Outcome D
  step d (MakeCopy from to p) = make_copy d from to p
  step d (Receive slot) = receive d slot
  step d (Delete site p) = delete d site p
  step d (Ask site p) = ask d site p
