-- How the code goes over a book, whatever its bytes are: a place beyond the book's end is "no entry here".
use Rattle.std.specs.Prelude.{ℕ, zero, suc, ◌+◌, Bool, ◌&&◌, cond, List, leb, eqb, length, get_or, take, drop}
use Rattle.book.specs.Book.{same}

-- past the entry at a place; beyond the book's end where none of this length or more ends in the book
unfoldable pub entry_end : ℕ → List ℕ → ℕ → ℕ
entry_end least book at =
    cond (leb least (get_or book at 0) && leb (at + 1 + get_or book at 0) (length book))
    (at + 1 + get_or book at 0)
    (length book + 1)

-- past n entries, the first of them at a place
unfoldable pub walked : ℕ → List ℕ → ℕ → ℕ → ℕ
walked least book at zero = at
walked least book at (suc n) = entry_end least book (walked least book at n)

-- an address stands at a place, and it is this one
unfoldable pub holds : List ℕ → List ℕ → ℕ → Bool
holds book address at = leb (entry_end 1 book at) (length book) && same (take (get_or book at 0) (drop (at + 1) book)) address

-- the walk finds this owner and this address at pointer p
unfoldable pub meets : List ℕ → List ℕ → ℕ → List ℕ → ℕ → Bool
meets owners book owner address p = eqb (get_or owners p 0) owner && holds book address (walked 1 book 0 p)
