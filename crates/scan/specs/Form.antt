-- A form of a slot as one number: how wide a slot is, what is looked at of it, and how it is tested.
use Rattle.std.specs.Prelude.{◌≡◌, ℕ, ◌+◌, ◌*◌, ◌%◌, ◌<◌, Bool, true, ◌&&◌, List, get_or}
use Rattle.model.specs.Questions.{every, how_many}
use Rattle.model.specs.Tables.{slots_of, empty_at, all_slots_good}
use Rattle.std.specs.Int.Bits.{bit_or}
use Rattle.scan.specs.Word.{eight_at, clear, slot_mask, rooms, word_empty}
use Rattle.scan.specs.declared.form.Seen.{Seen}

pub record Form : Type 0 where
  -- the bytes of a slot
  pub width : ℕ
  -- the bits that a good slot does not show
  pub mask : ℕ
  -- what is looked at of a slot as one number
  pub looked : ℕ → ℕ
  -- what is kept whole of it, where another slot follows and where the slot is read alone
  pub within : ℕ → ℕ
  pub alone : ℕ → ℕ
  -- for S and G, the rooms by kind
  pub room : ℕ → ℕ → List ℕ
  -- for S and G, whether all slots of a pool are good
  pub all_good : ℕ → ℕ → List ℕ → Bool

-- slot i of a pool as one number: eight bytes, those behind the slot too
abbrev pub number_at : Form → List ℕ → ℕ → ℕ
number_at f pool i = eight_at pool (i * f.width)

-- the test of a slot as one number, of this kind and with these bits: they are clear, and with the room of the kind too
abbrev pub bits_good : Form → List ℕ → ℕ → ℕ → Bool
bits_good f room kind bits = clear f.mask bits && clear f.mask (bits + get_or room kind 0)

abbrev pub word_good : Form → List ℕ → ℕ → Bool
word_good f room x = bits_good f room (x % 4) (f.looked x)

abbrev pub good_at : Form → List ℕ → List ℕ → ℕ → Bool
good_at f room pool i = word_good f room (number_at f pool i)

-- whether slot i is counted as empty
abbrev pub counted_at : Form → List ℕ → ℕ → Bool
counted_at f pool i = word_empty (number_at f pool i)

-- rooms are right for S and G: by them the numbers of a pool of bytes are good where its slots are, and then the empty slots are counted
pub record Sound (f : Form) (s g : ℕ) (room : List ℕ) : Type 0 where
  pub tested : (pool : List ℕ) → ((j : ℕ) → get_or pool j 0 < 256) → every (slots_of f.width pool) (good_at f room pool) ≡ f.all_good s g pool
  pub counted : (pool : List ℕ) → ((j : ℕ) → get_or pool j 0 < 256) → (i : ℕ) → good_at f room pool i ≡ true → counted_at f pool i ≡ empty_at f.width pool i

-- what is seen of the first n slots tells whether all are good, and how many are counted as empty
abbrev pub Tells : Form → List ℕ → List ℕ → ℕ → Seen → Type 0
Tells f room pool n seen =
    (clear f.mask (bit_or seen.numbers seen.sums) ≡ every n (good_at f room pool)) × (seen.empties ≡ how_many n (counted_at f pool))

-- the form of five bytes: all of them are looked at, and nothing else is kept
abbrev pub five : Form
five = record {
  width = 5;
  mask = slot_mask;
  looked = λ x. x % 1099511627776;
  within = λ x. x % 1099511627776;
  alone = λ x. x % 1099511627776;
  room = rooms;
  all_good = all_slots_good 5;
}
