-- A slot as one number, and what is added to it so that a field above its limit reaches the field's top bit.
use Rattle.std.specs.Prelude.{ℕ, ◌+◌, ◌-◌, ◌*◌, ◌%◌, ◌<◌, Bool, List, [], ◌∷◌, eqb, get_or}
use Rattle.std.specs.Int.Bits.{bit_and}

-- five fields, eight bits apart, the first lowest
abbrev pub packed : ℕ → ℕ → ℕ → ℕ → ℕ → ℕ
packed kind from to third p = kind + from * 256 + to * 65536 + third * 16777216 + p * 4294967296

-- eight bytes, the first lowest, and those of a list from a place on
abbrev pub eight : ℕ → ℕ → ℕ → ℕ → ℕ → ℕ → ℕ → ℕ → ℕ
eight a b c d e f g h = packed a b c d e + f * 1099511627776 + g * 281474976710656 + h * 72057594037927936

abbrev pub eight_at : List ℕ → ℕ → ℕ
eight_at bytes at =
    eight (get_or bytes at 0) (get_or bytes (at + 1) 0) (get_or bytes (at + 2) 0) (get_or bytes (at + 3) 0)
    (get_or bytes (at + 4) 0) (get_or bytes (at + 5) 0) (get_or bytes (at + 6) 0) (get_or bytes (at + 7) 0)

-- no bit of the mask is set
abbrev pub clear : ℕ → ℕ → Bool
clear mask a = eqb (bit_and a mask) 0

-- 0x100808080FC: the top bit of each field of a slot, and the kind's bits above 3
abbrev pub slot_mask : ℕ
slot_mask = 1101667533052

-- 0xFEFEFEFEFEFEFEFE: the bits of each of eight bytes but the lowest
abbrev pub bit_mask : ℕ
bit_mask = 18374403900871474942

-- by kind, what may be added to each field of a good slot before it reaches the field's top bit: 128 - s at a site, 256 - g at the pointer, 127 or 255 where it must be 0
abbrev pub rooms : ℕ → ℕ → List ℕ
rooms s g =
    packed 0 127 127 127 255
    ∷ packed 0 (128 - s) (128 - s) 127 (256 - g)
    ∷ packed 0 (128 - s) (128 - s) 127 (256 - g)
    ∷ packed 0 (128 - s) (128 - s) (128 - s) (256 - g)
    ∷ []

-- rooms that can be added to seven bytes within 64 bits
abbrev pub Low : List ℕ → Type 0
Low room = (j : ℕ) → get_or room j 0 < 72057594037927936

-- by kind, what a slot adds to the count of empty slots
abbrev pub ones : List ℕ
ones = 1 ∷ 0 ∷ 0 ∷ 0 ∷ []

-- whether a slot as one number is counted as empty: the rest by 4 is the kind of a good one
abbrev pub word_empty : ℕ → Bool
word_empty x = eqb (x % 4) 0
