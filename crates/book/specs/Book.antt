-- Document 01, "The address book": the entries of a book, and the answers to its three questions.
use Rattle.std.specs.Prelude.{ℕ, zero, suc, ◌+◌, Bool, ◌&&◌, not, cond, List, leb, ltb, eqb, length, get_or, take, drop}
use Rattle.model.specs.declared.Posted.TheVariants.{Nothing}
use Rattle.model.specs.Answers.{Answer}
use Rattle.model.specs.Refusals.{BadName, BadBook, Twins, NotListed, ◌when◌, ◌or_else◌}
use Rattle.model.specs.Questions.{every, some, lowest}
use Rattle.model.specs.Answers.{accepted, refused}
use Rattle.model.specs.Tables.{owners_refusal}
use Rattle.book.specs.Part.{Part, within}

-- ---- an entry is a length byte, then the address
-- where the entry of pointer p starts: pointer 0 comes first, and each entry follows the one before it
unfoldable pub entry_at : List ℕ → ℕ → ℕ
entry_at book zero = 0
entry_at book (suc p) = entry_at book p + 1 + get_or book (entry_at book p) 0

abbrev pub length_byte : List ℕ → ℕ → ℕ
length_byte book p = get_or book (entry_at book p) 0

-- the address of pointer p: as many bytes as its length byte says, behind it
abbrev pub address_of : List ℕ → ℕ → List ℕ
address_of book p = take (length_byte book p) (drop (entry_at book p + 1) book)

-- its length is least or more: 1 in an address, 0 where an entry may be empty
abbrev pub long_enough : ℕ → List ℕ → ℕ → Bool
long_enough least book p = leb least (length_byte book p)

-- exactly g entries, of length least or more: nothing follows the last entry (proofs/Written.antt: these are the books written so)
unfoldable pub entries : ℕ → ℕ → List ℕ → Bool
entries least g book = every g (long_enough least book) && eqb (entry_at book g) (length book)

-- an address is 1 to 255 bytes: no length byte is 0
abbrev pub is_book : ℕ → List ℕ → Bool
is_book g book = entries 1 g book

-- ---- addresses are compared byte by byte
abbrev pub same_at : List ℕ → List ℕ → ℕ → Bool
same_at a b i = eqb (get_or a i 0) (get_or b i 0)

unfoldable pub same : List ℕ → List ℕ → Bool
same a b = eqb (length a) (length b) && every (length a) (same_at a b)

-- pointer p has this owner and this address
unfoldable pub has : List ℕ → List ℕ → ℕ → List ℕ → ℕ → Bool
has owners book owner address p = eqb (get_or owners p 0) owner && same (address_of book p) address

-- two pointers have equal owner and equal address: one has what a lower one has
abbrev pub twin_below : List ℕ → List ℕ → ℕ → Bool
twin_below owners book p = some p (has owners book (get_or owners p 0) (address_of book p))

unfoldable pub twins : List ℕ → List ℕ → Bool
twins owners book = some (length owners) (twin_below owners book)

-- ---- all three questions take S and the owners and first give 1 and 2 as an opening does; then 18
unfoldable pub book_refusal : ℕ → List ℕ → List ℕ → ℕ
book_refusal s owners book = owners_refusal s owners or_else BadBook when not (is_book (length owners) book)

-- the question for an address gives 18, then 3
unfoldable pub address_number : ℕ → List ℕ → List ℕ → ℕ → ℕ
address_number s owners book p = book_refusal s owners book or_else BadName when not (ltb p (length owners))

-- the address of a pointer is handed out as that part of the lent book; after a refusal the part is empty
unfoldable pub address_part : ℕ → List ℕ → Part → ℕ → Part
address_part s owners book p =
    cond (eqb (address_number s owners book.bytes p) 0)
    (within book (entry_at book.bytes p + 1) (length_byte book.bytes p))
    (within book 0 0)

-- a refusal has its number; an accepted question has its value, and no message
abbrev pub answered : ℕ → ℕ → Answer
answered zero value = accepted value Nothing
answered (suc n) value = refused (suc n)

-- a check of the book gives 18, then 19
unfoldable pub check_number : ℕ → List ℕ → List ℕ → ℕ
check_number s owners book = book_refusal s owners book or_else Twins when twins owners book

unfoldable pub check_answer : ℕ → List ℕ → List ℕ → Answer
check_answer s owners book = answered (check_number s owners book) 0

-- a search by owner and whole address gives 18, then 3 for a wanted owner not below S, then the lowest pointer number that has both, or 20
unfoldable pub search_number : ℕ → List ℕ → List ℕ → ℕ → List ℕ → ℕ
search_number s owners book owner wanted =
    book_refusal s owners book
    or_else BadName when not (ltb owner s)
    or_else NotListed when not (some (length owners) (has owners book owner wanted))

unfoldable pub search_answer : ℕ → List ℕ → List ℕ → ℕ → List ℕ → Answer
search_answer s owners book owner wanted =
    answered (search_number s owners book owner wanted) (lowest (length owners) (has owners book owner wanted))
