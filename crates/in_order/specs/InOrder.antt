-- Document 02, Three: the words of the demands that are the in-order desk's own.
use Rattle.std.specs.Prelude.{ℕ, zero, suc, ◌+◌, ◌-◌, ◌*◌, ◌%◌, ◌<◌, ◌≡◌, ◌≢◌, ◌&&◌, List, [], ◌∷◌, eqb, length, get_or}
use Rattle.moreau.specs.Transitions.{Guard}
use Rattle.model.specs.declared.Posted.{Posted}
use Rattle.model.specs.declared.Posted.TheVariants.{Copy, Dec, IncDec, Nothing}
use Rattle.model.specs.declared.Call.{Call}
use Rattle.model.specs.Refusals.{◌when◌}
use Rattle.model.specs.Survey.{in_flight}
use Rattle.model.specs.InWords.{Shaped, GoodSlots}
use Rattle.model.specs.Tables.{slots_of}
use Rattle.model.specs.Demands.{Row, ◌because◌, listed_with}
use Rattle.in_order.specs.Ordered.{OutOfOrder, OrderedDesk, number_at, next, of_pair, pair_number, number_for, ordered}

-- ---- 1 and 2 in words
-- as in document 01 with slots of 7 bytes, and S x S numbers to post and to receive
pub record ShapedInOrder (s g sends receives pools posts takes : ℕ) : Type 0 where
  pub tables : Shaped 7 s g sends receives pools
  pub post_length : posts ≡ s * s
  pub take_length : takes ≡ s * s

-- every owner is a site, every receive byte is 0 or 1, every slot is good in its first five bytes, and the number of an empty one is zero
pub record GoodTablesInOrder (d : OrderedDesk) : Type 0 where
  pub owners : (p : ℕ) → p < length d.owners → get_or d.owners p 0 < d.S
  pub cells : (i : ℕ) → i < length d.receive → get_or d.receive i 0 < 2
  pub slots : GoodSlots 7 d.S (length d.owners) d.pool.bytes
  pub numbers : (i : ℕ) → i < slots_of 7 d.pool.bytes → get_or d.pool.bytes (i * 7) 0 ≡ 0
      → (get_or d.pool.bytes (i * 7 + 5) 0 ≡ 0) × (get_or d.pool.bytes (i * 7 + 6) 0 ≡ 0)

-- ---- 21
-- the number of a slot, the next numbers of pair (a, b), and that of the pair of a slot's message
abbrev pub number_of : OrderedDesk → ℕ → ℕ
number_of d slot = number_at d.pool.bytes slot

abbrev pub next_to_post : OrderedDesk → ℕ → ℕ → ℕ
next_to_post d a b = of_pair d.S d.pool.to_post a b

abbrev pub next_to_receive : OrderedDesk → ℕ → ℕ → ℕ
next_to_receive d a b = of_pair d.S d.pool.to_receive a b

abbrev pub next_for : OrderedDesk → ℕ → ℕ
next_for d slot = pair_number d.S d.pool.to_receive (ordered.message d slot)

-- the rule in Held's place: the slot's number is the next to receive from a to b; no configuration of the machine knows it
abbrev pub AtNext : OrderedDesk → ℕ → Guard
AtNext d slot C a b p = number_of d slot ≡ next_to_receive d a b

-- the slot's number is not its pair's next to receive
abbrev pub order_rows : OrderedDesk → ℕ → List Row
order_rows d slot = OutOfOrder because (number_of d slot ≢ next_for d slot) ∷ []

-- receive 1, 2, 3, 8, 21, then COPY 4, DEC 10, INC_DEC 6; the others as in document 01
abbrev pub listed_in_order : Call → List ℕ
listed_in_order = listed_with (OutOfOrder ∷ [])

-- ---- what a call leaves in the numbers
-- 1 where a message goes from a to b, else 0
abbrev pub on_link : ℕ → ℕ → Posted → ℕ
on_link a b (Copy from to p) = 1 when (eqb from a && eqb to b)
on_link a b (Dec from to p) = 1 when (eqb from a && eqb to b)
on_link a b (IncDec from to third p) = 1 when (eqb from a && eqb to b)
on_link a b Nothing = 0

-- a pair's number after w messages of the pair, which are one or none
abbrev pub moved : ℕ → ℕ → ℕ
moved zero n = n
moved (suc w) n = next n

-- the numbers of e are those of d, with x of the slot received and m posted there
pub record Numbers (d e : OrderedDesk) (slot : ℕ) (x m : Posted) : Type 0 where
  pub in_pool : slot < ordered.slots d
  -- m takes its pair's next number to post; an emptied slot has zero; the other slots keep theirs
  pub given : number_of e slot ≡ number_for d.S d.pool.to_post m
  pub kept : (other : ℕ) → other ≢ slot → number_of e other ≡ number_of d other
  -- m's pair advances to post, x's pair to receive, and no other
  pub to_post : (a b : ℕ) → a < d.S → b < d.S → next_to_post e a b ≡ moved (on_link a b m) (next_to_post d a b)
  pub to_receive : (a b : ℕ) → a < d.S → b < d.S → next_to_receive e a b ≡ moved (on_link a b x) (next_to_receive d a b)

-- ---- a pair as a queue
-- how many messages of its pair are to be received before a slot's message
abbrev pub before : OrderedDesk → ℕ → ℕ
before d slot = (number_of d slot + 65536 - next_for d slot) % 65536

-- m goes to its pair's end, and what was behind x moves up by one
pub record Queued (d e : OrderedDesk) (slot : ℕ) (x m : Posted) : Type 0 where
  pub last : (a b : ℕ) → 0 < on_link a b m → before e slot + on_link a b x ≡ in_flight ordered d (on_link a b)
  pub rest : (a b other : ℕ) → other < ordered.slots d → other ≢ slot → 0 < on_link a b (ordered.message d other) → before e other + on_link a b x ≡ before d other
