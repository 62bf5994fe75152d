-- A slot of seven bytes as one number, of which the last two bytes are looked at where the slot is empty.
use Rattle.std.specs.Prelude.{ℕ, ◌+◌, ◌*◌, ◌%◌, ◌&&◌, List, [], ◌∷◌, get_or}
use Rattle.std.specs.Int.Bits.{bit_and}
use Rattle.model.specs.Tables.{all_slots_good}
use Rattle.in_order.specs.Ordered.{all_numbers_good}
use Rattle.scan.specs.Word.{rooms}
use Rattle.scan.specs.Form.{Form}

-- by kind, the bits that are looked at: all seven bytes of an empty slot, the first five of another
abbrev pub keeps : List ℕ
keeps = 72057594037927935 ∷ 1099511627775 ∷ 1099511627775 ∷ 1099511627775 ∷ []

-- 0x1000100808080FC: the bits that a slot of five bytes must not show, and the one above seven bytes
abbrev pub wide_mask : ℕ
wide_mask = 72058695705460988

-- by kind, what may be added: as for five bytes, and 65,534 to the last two of an empty slot, which then show in their lowest bit or above them
abbrev pub wide_rooms : ℕ → ℕ → List ℕ
wide_rooms s g = (get_or (rooms s g) 0 0 + 65534 * 1099511627776) ∷ get_or (rooms s g) 1 0 ∷ get_or (rooms s g) 2 0 ∷ get_or (rooms s g) 3 0 ∷ []

-- what is looked at of a slot as one number
abbrev pub looked : ℕ → ℕ
looked x = bit_and x (get_or keeps (x % 4) 0)

-- the form of seven bytes: the byte that follows comes in above, and is not looked at; alone a slot has none
abbrev pub seven : Form
seven = record {
  width = 7;
  mask = wide_mask;
  looked = looked;
  within = λ x. x;
  alone = λ x. x % 72057594037927936;
  room = wide_rooms;
  all_good = λ s g pool. all_slots_good 7 s g pool && all_numbers_good pool;
}
