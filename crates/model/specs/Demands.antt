-- The words of the three demands, over any layout.
use Rattle.std.specs.Prelude.{ℕ, ◌≤◌, ◌<◌, ◌≡◌, ◌≢◌, ◌⊎◌, Bool, true, false, ◌&&◌, ◌||◌, not, List, [], ◌∷◌, ◌++◌, eqb}
use Rattle.moreau.specs.StateSpace.{Msg, DEC, ⟅◌⟆, ◌∈◌}
use Rattle.moreau.specs.Transformers.{unpost, MayCopy, MAKE_COPY, MayReceive, RECEIVE, MayDelete, DELETE}
use Rattle.moreau.specs.Transitions.{Guard}
use Rattle.model.specs.declared.Posted.{Posted}
use Rattle.model.specs.declared.Posted.TheVariants.{Copy, Dec, IncDec, Nothing}
use Rattle.model.specs.declared.Call.{Call}
use Rattle.model.specs.declared.Call.TheVariants.{MakeCopy, Receive, Delete, Ask}
use Rattle.model.specs.Refusals.{BadShape, BadTable, BadName, SameSite, NotHeld, CounterFull, PoolFull, EmptySlot, Held, CounterZero, IsOwner, StillCounted, NotOwner, ◌or_else◌}
use Rattle.model.specs.Questions.{every}
use Rattle.model.specs.Layout.{Layout}
use Rattle.model.specs.Calls.{open_refusal, open_desk, step}
use Rattle.model.specs.Meaning.{meant, meaning}

-- ---- why a call is turned down: a table of numbers and reasons
pub record Row : Type 1 where
  pub number : ℕ
  pub reason : Type 0

infix 90 ◌because◌
abbrev pub ◌because◌ : ℕ → Type 0 → Row
n because why = record { number = n; reason = why }

-- n is the number of the first row whose reason holds; 0 where none holds
unfoldable pub FirstOf : List Row → ℕ → Type 0
FirstOf [] n = n ≡ 0
FirstOf (row ∷ rows) n = (row.reason × (n ≡ row.number)) ⊎ ((row.reason → ⊥) × FirstOf rows n)

-- ---- the numbers that document 01 lists for a call: 1, 2, 3, then its own
infix 50 ◌among◌
unfoldable pub ◌among◌ : ℕ → List ℕ → Type 0
n among [] = ⊥
n among (k ∷ ks) = (n ≡ k) ⊎ (n among ks)

-- early: the numbers of what comes too early
abbrev pub listed_with : List ℕ → Call → List ℕ
listed_with early (MakeCopy from to p) = 1 ∷ 2 ∷ 3 ∷ 4 ∷ 5 ∷ 6 ∷ 7 ∷ []
listed_with early (Receive slot) = 1 ∷ 2 ∷ 3 ∷ 8 ∷ (early ++ (4 ∷ 10 ∷ 6 ∷ []))
listed_with early (Delete site p) = 1 ∷ 2 ∷ 3 ∷ 11 ∷ 5 ∷ 12 ∷ 7 ∷ []
listed_with early (Ask site p) = 1 ∷ 2 ∷ 3 ∷ 13 ∷ []

abbrev pub listed : Call → List ℕ
listed = listed_with (Held ∷ [])

-- a message names a pointer
abbrev pub names : ℕ → Posted → Bool
names p (Copy from to q) = eqb q p
names p (Dec from to q) = eqb q p
names p (IncDec from to third q) = eqb q p
names p Nothing = false

-- ---- from desks of a given set, after any of a desk's own moves in any order; after d m is the desk that the move m leaves of d
pub data ReachedFrom {D Move : Type 0} (Start : D → Type 0) (after : D → Move → D) : D → Type 0 where
  begins : {d : D} → Start d → ReachedFrom Start after d
  moves : {d : D} → ReachedFrom Start after d → (m : Move) → ReachedFrom Start after (after d m)

module _ {D : Type 0} (L : Layout D) where
  open L use {sites, pointers, owner, counter, cell, slots, empty, message, shaped, owned, sound, early}

  abbrev pub NoSlotEmpty : D → Type 0
  NoSlotEmpty d = (slot : ℕ) → slot < slots d → empty d slot ≡ false

  -- some slot holds an INC_DEC from a to b for that pointer, with any third site
  pub record SomeIncDec (d : D) (a b p : ℕ) : Type 0 where
    pub slot : ℕ
    pub third : ℕ
    pub in_pool : slot < slots d
    pub holds : message d slot ≡ IncDec a b third p

  -- 1, 2, before the rows of a call
  abbrev pub lent_rows : D → List Row → List Row
  lent_rows d rows =
      BadShape because (shaped d ≡ false)
      ∷ BadTable because (sound d ≡ false)
      ∷ rows

  -- opening gives 1 and, for owners, 2
  abbrev pub open_rows : D → List Row
  open_rows d =
      BadShape because (shaped d ≡ false)
      ∷ BadTable because (owned d ≡ false)
      ∷ []

  -- make copy 3, 4, 5, 6, 7, where the pool is full
  abbrev pub copy_rows_when : Type 0 → D → ℕ → ℕ → ℕ → List Row
  copy_rows_when full d from to p =
      BadName because ((sites d ≤ from) ⊎ (sites d ≤ to) ⊎ (pointers d ≤ p))
      ∷ SameSite because (from ≡ to)
      ∷ NotHeld because ((from ≢ owner d p) × (cell d from p ≡ 0))
      ∷ CounterFull because (counter d from p ≡ 65535)
      ∷ PoolFull because full
      ∷ []

  abbrev pub copy_rows : D → ℕ → ℕ → ℕ → List Row
  copy_rows d = copy_rows_when (NoSlotEmpty d) d

  -- DEC 9: what comes too early in document 01
  abbrev pub held_rows_of : D → Posted → List Row
  held_rows_of d (Copy a b p) = []
  held_rows_of d (Dec a b p) = Held because (SomeIncDec d a b p) ∷ []
  held_rows_of d (IncDec a b c p) = []
  held_rows_of d Nothing = []

  -- the same of a slot
  abbrev pub held_rows : D → ℕ → List Row
  held_rows d slot = held_rows_of d (message d slot)

  -- COPY 4, DEC 10, INC_DEC 6
  abbrev pub message_rows : D → Posted → List Row
  message_rows d (Copy a b p) = SameSite because (a ≡ b) ∷ []
  message_rows d (Dec a b p) = CounterZero because (counter d b p ≡ 0) ∷ []
  message_rows d (IncDec a b c p) = CounterFull because (counter d b p ≡ 65535) ∷ []
  message_rows d Nothing = []

  -- receive 3, 8, then what comes too early (9 in document 01), then the message's own
  abbrev pub receive_rows : (D → ℕ → List Row) → D → ℕ → List Row
  receive_rows early_rows d slot =
      BadName because (slots d ≤ slot)
      ∷ EmptySlot because (empty d slot ≡ true)
      ∷ (early_rows d slot ++ message_rows d (message d slot))

  -- delete 3, 11, 5, 12, 7, where the pool is full
  abbrev pub delete_rows_when : Type 0 → D → ℕ → ℕ → List Row
  delete_rows_when full d site p =
      BadName because ((sites d ≤ site) ⊎ (pointers d ≤ p))
      ∷ IsOwner because (site ≡ owner d p)
      ∷ NotHeld because (cell d site p ≡ 0)
      ∷ StillCounted because (counter d site p ≢ 0)
      ∷ PoolFull because full
      ∷ []

  abbrev pub delete_rows : D → ℕ → ℕ → List Row
  delete_rows d = delete_rows_when (NoSlotEmpty d) d

  -- ask 3, 13
  abbrev pub ask_rows : D → ℕ → ℕ → List Row
  ask_rows d site p =
      BadName because ((sites d ≤ site) ⊎ (pointers d ≤ p))
      ∷ NotOwner because (site ≢ owner d p)
      ∷ []

  -- the rows of a call: 1, 2, then its own
  abbrev pub rows_of : (D → ℕ → List Row) → D → Call → List Row
  rows_of early_rows d (MakeCopy from to p) = lent_rows d (copy_rows d from to p)
  rows_of early_rows d (Receive slot) = lent_rows d (receive_rows early_rows d slot)
  rows_of early_rows d (Delete site p) = lent_rows d (delete_rows d site p)
  rows_of early_rows d (Ask site p) = lent_rows d (ask_rows d site p)

  -- these rows tell the layout's own test of what comes too early, whatever rows follow
  abbrev pub TellsEarly : (D → ℕ → List Row) → Type 1
  TellsEarly early_rows = (d : D) (slot : ℕ) (rows : List Row) (rest : ℕ) → FirstOf rows rest → FirstOf (early_rows d slot ++ rows) (early d slot or_else rest)

  -- share 3, 11
  abbrev pub share_rows : D → ℕ → ℕ → List Row
  share_rows d site p =
      BadName because ((sites d ≤ site) ⊎ (pointers d ≤ p))
      ∷ IsOwner because (site ≡ owner d p)
      ∷ []

  -- sheet 3
  abbrev pub sheet_rows : D → ℕ → List Row
  sheet_rows d p = BadName because (pointers d ≤ p) ∷ []

  -- ---- a slot is the lowest empty one
  pub record LowestEmpty (d : D) (slot : ℕ) : Type 0 where
    pub in_pool : slot < slots d
    pub empty_there : empty d slot ≡ true
    pub none_below : (lower : ℕ) → lower < slot → empty d lower ≡ false

  -- ---- e is d after a transition of the published machine, on what the memory means: every counter, every cell, every message
  pub record MakesCopy (d e : D) (from to p : ℕ) : Type 0 where
    pub in_range : (from < sites d) × (to < sites d) × (p < pointers d)
    pub may : MayCopy from to p (meaning L d)
    pub after : meaning L e ≡ MAKE_COPY from to p (meaning L d)

  -- the message m of the slot is in transit, passes the guard, and may be received
  pub record Receives (May : Guard) (d e : D) (slot : ℕ) : Type 0 where
    pub m : Msg
    pub stands : meant (message d slot) ≡ ⟅ m ⟆
    pub in_transit : m ∈ (meaning L d).pool
    pub guard : (a b p : ℕ) → m ≡ DEC a b p → May (meaning L d) a b p
    pub may : MayReceive m
    pub after : meaning L e ≡ RECEIVE m (unpost m (meaning L d))

  pub record Deletes (d e : D) (site p : ℕ) : Type 0 where
    pub in_range : (site < sites d) × (p < pointers d)
    pub may : MayDelete site p (meaning L d)
    pub after : meaning L e ≡ DELETE site p (meaning L d)

  -- ---- an accepted opening leaves this desk
  pub data Opened : D → Type 0 where
    opened : (d : D) → open_refusal L d ≡ 0 → Opened (open_desk L d).desk

  -- from an opened desk, after any calls in any order: calls with any arguments, accepted or refused
  abbrev pub Reached : D → Type 0
  Reached = ReachedFrom Opened (λ d c. (step L d c).desk)

  -- ---- no other site holds the pointer and no message in flight names it; no counter is asked
  pub record Quiet (d : D) (p : ℕ) : Type 0 where
    pub no_holder : (s : ℕ) → s < sites d → s ≢ owner d p → cell d s p ≡ 0
    pub no_message : (slot : ℕ) → slot < slots d → names p (message d slot) ≡ false

  -- ---- the look over every site and every message, computed: every other cell is 0, no slot names the pointer; no counter is read
  abbrev pub not_holding : D → ℕ → ℕ → Bool
  not_holding d p s = eqb s (owner d p) || eqb (cell d s p) 0

  abbrev pub not_naming : D → ℕ → ℕ → Bool
  not_naming d p slot = not (names p (message d slot))

  unfoldable pub look : D → ℕ → Bool
  look d p = every (sites d) (not_holding d p) && every (slots d) (not_naming d p)
