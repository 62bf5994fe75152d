-- Document 02, Five: the word desk. Its receive table is one word of 64 bits for each pointer, site s at bit s; all else is lent as in document 01.
use Rattle.std.specs.Prelude.{ℕ, zero, suc, ◌+◌, ◌-◌, ◌*◌, ◌/◌, ◌%◌, ◌^◌, Bool, ◌&&◌, not, List, [], ◌++◌, map, ltb, eqb, length, get_or, set}
use Rattle.std.specs.Int.Count.{ones}
use Rattle.model.specs.declared.Posted.TheVariants.{Nothing}
use Rattle.model.specs.Refusals.{BadShape, BadTable, ◌when◌, ◌or_else◌}
use Rattle.model.specs.Questions.{total, up_to}
use Rattle.model.specs.Answers.{accepted, Outcome, unless}
use Rattle.model.specs.Layout.{Layout}
use Rattle.model.specs.Calls.{front}
use Rattle.model.specs.Tables.{Lent, lent, place, sizes_good, all_below}
use Rattle.model.specs.Parts.{ReceiveTable, desk_of}
use Rattle.model.specs.Flat.{held_slots}

-- ---- a word
-- bit s of a word
unfoldable pub bit : ℕ → ℕ → ℕ
bit w s = w / 2 ^ s % 2

-- a word with n at bit s: what stands there is taken off, and n put there
unfoldable pub with_bit : ℕ → ℕ → ℕ → ℕ
with_bit w s n = w - bit w s * 2 ^ s + n * 2 ^ s

-- ---- receive table: G words, the cell of site s and pointer p is bit s of word p; no bit is set at or above S: a word is below 2 to the S
abbrev pub word_cells : ReceiveTable (List ℕ)
word_cells = record {
  cell_in = λ g receive s p. bit (get_or receive p 0) s;
  fits = λ s g receive. eqb (length receive) g;
  bits = λ s receive. all_below (2 ^ s) receive;
  owned = λ s owners. map (λ owner. 2 ^ owner) owners;
  set_in = λ g receive s p n. set receive p (with_bit (get_or receive p 0) s n);
}

-- ---- the desk, with the pool of document 01
abbrev pub WordDesk : Type 0
WordDesk = Lent (List ℕ) (List ℕ)

abbrev pub lent_in_words : ℕ → List ℕ → List ℕ → List ℕ → List ℕ → WordDesk
lent_in_words s owners send receive pool = lent s owners send receive pool

abbrev pub words : Layout WordDesk
words = desk_of word_cells held_slots

-- word p
abbrev pub word_of : WordDesk → ℕ → ℕ
word_of d p = get_or d.receive p 0

-- ---- count of holders (pointer)
-- 1, 2, 3
unfoldable pub count_number : WordDesk → ℕ → ℕ
count_number d p = front words d (ltb p (words.pointers d))

-- the value is the number of ones of the pointer's word; no message, and nothing changes
unfoldable pub counted : WordDesk → ℕ → Outcome WordDesk
counted d p = record { answer = accepted (ones (word_of d p)) Nothing; desk = d }

unfoldable pub count_holders : WordDesk → ℕ → Outcome WordDesk
count_holders d p = unless (count_number d p) d (counted d p)

-- ---- pack and unpack, between the byte cells of document 01 and words
-- sites is 1 to 64, there are 0 to 256 words, and sites x words bytes
abbrev pub tables_fit : ℕ → List ℕ → List ℕ → Bool
tables_fit sites cells table = sizes_good sites (length table) && eqb (length cells) (sites * length table)

-- the word of a pointer: the cell of each site at its bit
abbrev pub packed_word : ℕ → ℕ → List ℕ → ℕ → ℕ
packed_word sites g cells p = total sites (λ site. get_or cells (place g site p) 0 * 2 ^ site)

unfoldable pub packed : ℕ → ℕ → List ℕ → List ℕ
packed sites g cells = up_to g (packed_word sites g cells)

-- 1; 2 where a byte is above 1
unfoldable pub pack_number : ℕ → List ℕ → List ℕ → ℕ
pack_number sites cells table = BadShape when not (tables_fit sites cells table) or_else BadTable when not (all_below 2 cells)

-- the words are written; after a refusal they stay
unfoldable pub pack : ℕ → List ℕ → List ℕ → Outcome (List ℕ)
pack sites cells table = unless (pack_number sites cells table) table (record { answer = accepted 0 Nothing; desk = packed sites (length table) cells })

-- the rows of the sites below s, one after another: the bit of the site in each word
unfoldable pub unpacked : ℕ → List ℕ → List ℕ
unpacked zero table = []
unpacked (suc s) table = unpacked s table ++ map (λ word. bit word s) table

-- 1; 2 where a bit at or above sites is set
unfoldable pub unpack_number : ℕ → List ℕ → List ℕ → ℕ
unpack_number sites table cells = BadShape when not (tables_fit sites cells table) or_else BadTable when not (all_below (2 ^ sites) table)

-- the bytes are written; after a refusal they stay
unfoldable pub unpack : ℕ → List ℕ → List ℕ → Outcome (List ℕ)
unpack sites table cells = unless (unpack_number sites table cells) cells (record { answer = accepted 0 Nothing; desk = unpacked sites table })
