-- Document 01, "What the host lends": the lent parts, and what makes them good.
use Rattle.std.specs.Prelude.{ℕ, zero, suc, ◌+◌, ◌*◌, ◌/◌, ◌%◌, Bool, ◌&&◌, not, cond, List, [], ◌++◌, map, leb, ltb, eqb, length, get_or}
use Rattle.model.specs.declared.Posted.{Posted}
use Rattle.model.specs.Refusals.{BadShape, BadTable, ◌when◌, ◌or_else◌}
use Rattle.model.specs.Questions.{every, how_many, lowest}
use Rattle.model.specs.Messages.{message_of}

-- S, owners, send table, receive table, pool; R and Q are the forms of the last two
pub record Lent (R Q : Type 0) : Type 0 where
  pub S : ℕ
  pub owners : List ℕ
  pub send : List ℕ
  pub receive : R
  pub pool : Q

abbrev pub lent : {R Q : Type 0} → ℕ → List ℕ → List ℕ → R → Q → Lent R Q
lent s owners send receive pool = record { S = s; owners = owners; send = send; receive = receive; pool = pool }

-- in document 01 both are bytes
abbrev pub Desk : Type 0
Desk = Lent (List ℕ) (List ℕ)

-- the place of the cell of site s and pointer p, for G pointers
abbrev pub place : ℕ → ℕ → ℕ → ℕ
place g s p = s * g + p

-- ---- shape: S, G, a length or the slot count
-- S is 1 to 64, G is 0 to 256
abbrev pub sizes_good : ℕ → ℕ → Bool
sizes_good s g = leb 1 s && leb s 64 && leb g 256

-- 0 to 1,024 slots of w bytes
abbrev pub pool_good : ℕ → ℕ → Bool
pool_good w pools = eqb (pools % w) 0 && leb (pools / w) 1024

-- S x G counters, S x G bytes, slots of w bytes
abbrev pub lengths_good : ℕ → ℕ → ℕ → ℕ → ℕ → ℕ → Bool
lengths_good w s g sends receives pools = eqb sends (s * g) && eqb receives (s * g) && pool_good w pools

-- slots of 5 bytes
abbrev pub shape_good : ℕ → ℕ → ℕ → ℕ → ℕ → Bool
shape_good s g sends receives pools = sizes_good s g && lengths_good 5 s g sends receives pools

-- ---- table: an owner, a receive byte or a slot
-- every byte is below n
abbrev pub byte_below : ℕ → List ℕ → ℕ → Bool
byte_below n bytes i = ltb (get_or bytes i 0) n

unfoldable pub all_below : ℕ → List ℕ → Bool
all_below n bytes = every (length bytes) (byte_below n bytes)

-- the first five bytes of slot i, where slots are w bytes wide, handed on: kind, from, to, third, pointer
abbrev pub at_slot : {A : Type 0} → ℕ → (ℕ → ℕ → ℕ → ℕ → ℕ → A) → List ℕ → ℕ → A
at_slot w f pool i =
    f (get_or pool (i * w) 0) (get_or pool (i * w + 1) 0) (get_or pool (i * w + 2) 0) (get_or pool (i * w + 3) 0) (get_or pool (i * w + 4) 0)

-- an empty slot is five zero bytes; otherwise sites are below S, the pointer below G,
-- and third is a site in an INC_DEC and 0 in a COPY or DEC
abbrev pub slot_good : ℕ → ℕ → ℕ → ℕ → ℕ → ℕ → ℕ → Bool
slot_good s g kind from to third p =
    cond (eqb kind 0)
    (eqb from 0 && eqb to 0 && eqb third 0 && eqb p 0)
    (leb kind 3 && ltb from s && ltb to s && cond (eqb kind 3) (ltb third s) (eqb third 0) && ltb p g)

-- how many slots of w bytes a pool has
abbrev pub slots_of : ℕ → List ℕ → ℕ
slots_of w pool = length pool / w

unfoldable pub all_slots_good : ℕ → ℕ → ℕ → List ℕ → Bool
all_slots_good w s g pool = every (slots_of w pool) (at_slot w (slot_good s g) pool)

-- ---- S and the owners alone, as the book takes them: 1, 2
unfoldable pub owners_refusal : ℕ → List ℕ → ℕ
owners_refusal s owners = BadShape when not (sizes_good s (length owners)) or_else BadTable when not (all_below s owners)

-- ---- slots of w bytes as messages
abbrev pub message_at : ℕ → List ℕ → ℕ → Posted
message_at w pool i = at_slot w message_of pool i

abbrev pub empty_at : ℕ → List ℕ → ℕ → Bool
empty_at w pool i = eqb (get_or pool (i * w) 0) 0

-- what the search for the lowest empty slot answers: the slot, the slot count where none is empty, and how many are empty (Document 02, One)
pub record Empties : Type 0 where
  pub slot : ℕ
  pub count : ℕ

-- the search for the lowest empty slot, which also says how many are empty
abbrev pub searched : ℕ → List ℕ → Empties
searched w pool = record { slot = lowest (slots_of w pool) (empty_at w pool); count = how_many (slots_of w pool) (empty_at w pool) }

-- ---- what an opening writes into the receive table
-- the row of a site: 1 for each pointer that it owns, 0 for the others
abbrev pub own_row : ℕ → List ℕ → List ℕ
own_row site owners = map (λ owner. 1 when eqb site owner) owners

-- the rows of the sites below s, one after another
unfoldable pub own_rows : ℕ → List ℕ → List ℕ
own_rows zero owners = []
own_rows (suc s) owners = own_rows s owners ++ own_row s owners
