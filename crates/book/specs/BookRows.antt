-- Document 01, "The address book" and "Why a call is turned down": why a question of the book is turned down, as tables of numbers and reasons.
use Rattle.std.specs.Prelude.{ℕ, ◌≤◌, ◌<◌, ◌≡◌, ◌⊎◌, List, [], ◌∷◌, length, get_or}
use Rattle.model.specs.Refusals.{BadShape, BadTable, BadName, BadBook, Twins, NotListed}
use Rattle.model.specs.Demands.{Row, ◌because◌}
use Rattle.book.specs.Book.{address_of}
use Rattle.book.specs.Written.{written}

-- the book is exactly g entries: g addresses of 1 byte or more, written one after another, each behind its length byte
pub record ExactlyEntries (g : ℕ) (book : List ℕ) : Type 0 where
  pub addresses : List (List ℕ)
  pub count : length addresses ≡ g
  pub some_bytes : (p : ℕ) → p < g → 1 ≤ length (get_or addresses p [])
  pub whole : written addresses ≡ book

-- S is not 1 to 64, or G is above 256
abbrev pub BadSizes : ℕ → ℕ → Type 0
BadSizes s g = (s ≡ 0) ⊎ ((64 < s) ⊎ (256 < g))

-- some owner is not below S
pub record NoSite (s : ℕ) (owners : List ℕ) : Type 0 where
  pub pointer : ℕ
  pub in_range : pointer < length owners
  pub too_large : s ≤ get_or owners pointer 0

-- two pointers that have equal owner and equal address
pub record Alike (owners book : List ℕ) : Type 0 where
  pub low : ℕ
  pub high : ℕ
  pub apart : low < high
  pub inside : high < length owners
  pub owned : get_or owners low 0 ≡ get_or owners high 0
  pub named : address_of book low ≡ address_of book high

-- no pointer has this owner and this address
abbrev pub NoPointer : List ℕ → List ℕ → ℕ → List ℕ → Type 0
NoPointer owners book owner address = (p : ℕ) → p < length owners → get_or owners p 0 ≡ owner → address_of book p ≡ address → ⊥

-- 1 and 2 as an opening gives them, then 18, before the rows of a question
abbrev pub book_rows : ℕ → List ℕ → List ℕ → List Row → List Row
book_rows s owners book rows =
    BadShape because (BadSizes s (length owners))
    ∷ BadTable because (NoSite s owners)
    ∷ BadBook because (ExactlyEntries (length owners) book → ⊥)
    ∷ rows

-- the question for an address: then 3
abbrev pub address_rows : ℕ → List ℕ → List ℕ → ℕ → List Row
address_rows s owners book p = book_rows s owners book (BadName because (length owners ≤ p) ∷ [])

-- a check of the book: then 19
abbrev pub check_rows : ℕ → List ℕ → List ℕ → List Row
check_rows s owners book = book_rows s owners book (Twins because (Alike owners book) ∷ [])

-- a search by owner and whole address: then 3 for a wanted owner not below S, or 20
abbrev pub search_rows : ℕ → List ℕ → List ℕ → ℕ → List ℕ → List Row
search_rows s owners book owner wanted =
    book_rows s owners book
    (BadName because (s ≤ owner)
    ∷ NotListed because (NoPointer owners book owner wanted)
    ∷ [])
