-- Document 01, "Lines" and "Why a call is turned down": why a line, an opening line and an input are turned down, as tables of numbers and reasons.
use Rattle.std.specs.Prelude.{ℕ, ◌+◌, ◌-◌, ◌*◌, ◌/◌, ◌%◌, ◌≤◌, ◌<◌, ◌≡◌, ◌≢◌, ◌⊎◌, List, [], ◌∷◌, length, get_or}
use Rattle.model.specs.Refusals.{BadShape, BadTable, BadLine, UnknownCode, PrivateCode}
use Rattle.model.specs.Tables.{Desk}
use Rattle.model.specs.Flat.{flat}
use Rattle.model.specs.Lines.{digit_of}
use Rattle.model.specs.Demands.{Row, ◌because◌}

-- a digit is one of the characters 0 to 9, which are 48 to 57, and A to F, which are 65 to 70; lower case is no digit
pub data Digit (c : ℕ) : Type 0 where
  decimal : 48 ≤ c → c ≤ 57 → Digit c
  letter : 65 ≤ c → c ≤ 70 → Digit c

-- some character of the line is no digit
pub record NonDigit (line : List ℕ) : Type 0 where
  pub place : ℕ
  pub in_line : place < length line
  pub no_digit : Digit (get_or line place 0) → ⊥

-- the two digits at byte i of the line write a byte, and it is one of these
pub record Writes (line : List ℕ) (i : ℕ) (These : ℕ → Type 0) : Type 0 where
  pub byte : ℕ
  pub a_byte : byte < 256
  pub high : get_or line (i * 2) 0 ≡ digit_of (byte / 16)
  pub low : get_or line (i * 2 + 1) 0 ≡ digit_of (byte % 16)
  pub one_of_these : These byte

-- code 00, or 05 to 7F; code 80 to FF; codes 02 to 04; not 00
abbrev pub Unknown : ℕ → Type 0
Unknown code = (code ≡ 0) ⊎ ((5 ≤ code) × (code ≤ 127))

abbrev pub Private : ℕ → Type 0
Private code = (128 ≤ code) × (code ≤ 255)

abbrev pub TwoToFour : ℕ → Type 0
TwoToFour code = (2 ≤ code) × (code ≤ 4)

abbrev pub NotZero : ℕ → Type 0
NotZero last = last ≢ 0

-- a line: eight characters (14), digits (14), code (15, 16), last byte 00 for codes 02 to 04 (14)
abbrev pub line_rows : List ℕ → List Row
line_rows line =
    BadLine because (length line ≢ 8)
    ∷ BadLine because (NonDigit line)
    ∷ UnknownCode because (Writes line 0 Unknown)
    ∷ PrivateCode because (Writes line 0 Private)
    ∷ BadLine because (Writes line 0 TwoToFour × Writes line 3 NotZero)
    ∷ []

-- ---- the opening line: one byte S, two bytes slot count, then the owners
abbrev pub NoSiteCount : ℕ → Type 0
NoSiteCount S = (S ≡ 0) ⊎ (64 < S)

-- its slot count, high byte first, is one of these
abbrev pub WritesSlots : List ℕ → (ℕ → Type 0) → Type 0
WritesSlots line These = Writes line 1 (λ high. Writes line 2 (λ low. These (high * 256 + low)))

-- how many owners: every byte after the first three
abbrev pub owners_written : List ℕ → ℕ
owners_written line = length line / 2 - 3

-- S is 0 or above 64, the slot count is above 1,024, or there are more than 256 owners
abbrev pub NoSuchSizes : List ℕ → Type 0
NoSuchSizes line = Writes line 0 NoSiteCount ⊎ (WritesSlots line (λ slots. 1024 < slots) ⊎ (256 < owners_written line))

-- some owner is S or more
pub record NoSiteOwns (line : List ℕ) : Type 0 where
  pub pointer : ℕ
  pub in_line : pointer < owners_written line
  pub no_site : Writes line 0 (λ S. Writes line (pointer + 3) (λ owner. S ≤ owner))

-- fewer than 6 or more than 518 digits, an odd count or a non-digit (14); S, the slot count or the count of owners (1); an owner (2)
abbrev pub opening_line_rows : List ℕ → List Row
opening_line_rows line =
    BadLine because (length line < 6)
    ∷ BadLine because (518 < length line)
    ∷ BadLine because (length line % 2 ≡ 1)
    ∷ BadLine because (NonDigit line)
    ∷ BadShape because (NoSuchSizes line)
    ∷ BadTable because (NoSiteOwns line)
    ∷ []

-- a desk has S, the slot count and every owner as the line's bytes write them
pub record AsWritten (line : List ℕ) (d : Desk) : Type 0 where
  pub sites : Writes line 0 (λ byte. flat.sites d ≡ byte)
  pub slots : WritesSlots line (λ slots. flat.slots d ≡ slots)
  pub pointers : flat.pointers d ≡ owners_written line
  pub owners : (p : ℕ) → p < owners_written line → Writes line (p + 3) (λ byte. flat.owner d p ≡ byte)
