-- Document 02, Three: the in-order desk. Its pool has slots of seven bytes, and beside it stand the next numbers of each ordered pair of sites.
use Rattle.std.specs.Prelude.{ℕ, ◌+◌, ◌*◌, ◌/◌, ◌%◌, Bool, true, ◌&&◌, not, cond, List, [], ◌∷◌, ◌++◌, eqb, length, get_or, set, replicate}
use Rattle.std.proofs.lemmas.List.Edits.{sets}
use Rattle.model.specs.declared.Posted.{Posted}
use Rattle.model.specs.Refusals.{◌when◌}
use Rattle.model.specs.Questions.{every}
use Rattle.model.specs.Messages.{slot_of, is_nothing, sender, receiver}
use Rattle.model.specs.Layout.{Layout}
use Rattle.model.specs.Tables.{Lent, lent, place, pool_good, slots_of, all_slots_good, message_at, empty_at}
use Rattle.model.specs.Parts.{Pool, desk_of}
use Rattle.model.specs.Flat.{byte_cells}

-- the number of the refusal: the slot's number is not its pair's next to receive
abbrev pub OutOfOrder : ℕ
OutOfOrder = 21

-- the bytes of the pool, and the next number to post and the next to receive of each ordered pair of sites
pub record NumberedPool : Type 0 where
  pub bytes : List ℕ
  pub to_post : List ℕ
  pub to_receive : List ℕ

abbrev pub numbered_pool : List ℕ → List ℕ → List ℕ → NumberedPool
numbered_pool bytes to_post to_receive = record { bytes = bytes; to_post = to_post; to_receive = to_receive }

-- ---- a slot: the five bytes of a message, then its number, high byte first
abbrev pub number_at : List ℕ → ℕ → ℕ
number_at bytes i = get_or bytes (i * 7 + 5) 0 * 256 + get_or bytes (i * 7 + 6) 0

abbrev pub numbered_slot : Posted → ℕ → List ℕ
numbered_slot m n = slot_of m ++ (n / 256 ∷ n % 256 ∷ [])

-- zero in an empty slot; any number is good in another
abbrev pub number_good : List ℕ → ℕ → Bool
number_good bytes i = cond (empty_at 7 bytes i) (eqb (get_or bytes (i * 7 + 5) 0) 0 && eqb (get_or bytes (i * 7 + 6) 0) 0) true

unfoldable pub all_numbers_good : List ℕ → Bool
all_numbers_good bytes = every (slots_of 7 bytes) (number_good bytes)

-- ---- the numbers of the pairs of S sites
-- numbers wrap from 65,535 to 0
abbrev pub next : ℕ → ℕ
next n = (n + 1) % 65536

-- pair (a, b) at a x S + b
abbrev pub of_pair : ℕ → List ℕ → ℕ → ℕ → ℕ
of_pair s numbers a b = get_or numbers (place s a b) 0

-- the number of a message's pair
abbrev pub pair_number : ℕ → List ℕ → Posted → ℕ
pair_number s numbers m = of_pair s numbers (sender m) (receiver m)

-- the number that is stored with a message: its pair's; zero where there is none
abbrev pub number_for : ℕ → List ℕ → Posted → ℕ
number_for s numbers m = cond (is_nothing m) 0 (pair_number s numbers m)

-- a message advances its pair's number
abbrev pub advanced : ℕ → List ℕ → Posted → List ℕ
advanced s numbers m = cond (is_nothing m) numbers (set numbers (place s (sender m) (receiver m)) (next (pair_number s numbers m)))

-- ---- the pool: 0 to 1,024 slots of 7 bytes, S x S numbers to post and to receive; a message is received only if it carries its pair's next number
abbrev pub in_order_slots : Pool NumberedPool
in_order_slots = record {
  slots = λ q. slots_of 7 q.bytes;
  empty = λ q slot. empty_at 7 q.bytes slot;
  message = λ q slot. message_at 7 q.bytes slot;
  fits = λ s q. pool_good 7 (length q.bytes) && eqb (length q.to_post) (s * s) && eqb (length q.to_receive) (s * s);
  slots_good = λ s g q. all_slots_good 7 s g q.bytes && all_numbers_good q.bytes;
  early = λ s q slot. OutOfOrder when not (eqb (number_at q.bytes slot) (pair_number s q.to_receive (message_at 7 q.bytes slot)));
  cleared = λ q. numbered_pool (replicate (length q.bytes) 0) (replicate (length q.to_post) 0) (replicate (length q.to_receive) 0);
  post = λ s q slot m. numbered_pool (sets q.bytes (slot * 7) (numbered_slot m (number_for s q.to_post m))) (advanced s q.to_post m) q.to_receive;
  handled = λ s q slot. numbered_pool q.bytes q.to_post (advanced s q.to_receive (message_at 7 q.bytes slot));
}

-- ---- the desk
abbrev pub OrderedDesk : Type 0
OrderedDesk = Lent (List ℕ) NumberedPool

abbrev pub lent_in_order : ℕ → List ℕ → List ℕ → List ℕ → List ℕ → List ℕ → List ℕ → OrderedDesk
lent_in_order s owners send receive bytes to_post to_receive = lent s owners send receive (numbered_pool bytes to_post to_receive)

abbrev pub ordered : Layout OrderedDesk
ordered = desk_of byte_cells in_order_slots
