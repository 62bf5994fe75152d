-- Document 02, Five, in words: tables that mean the same, what 1 and 2 deny of a word desk, and the rows of its questions.
use Rattle.std.specs.Prelude.{ℕ, ◌*◌, ◌/◌, ◌%◌, ◌≤◌, ◌<◌, ◌≡◌, List, [], ◌∷◌, length, get_or}
use Rattle.model.specs.Refusals.{BadShape, BadTable, BadName}
use Rattle.model.specs.Tables.{Desk, lent, place}
use Rattle.model.specs.InWords.{Sized, GoodSlots}
use Rattle.model.specs.Demands.{Row, ◌because◌}
use Rattle.word_cells.specs.WordCells.{bit, WordDesk, lent_in_words, word_of, words}

-- ---- tables that mean the same
-- byte cells and words for S and G: for all s below S and p below G bit s of word p is the cell; no bit at or above S
pub record SameCells (S G : ℕ) (cells table : List ℕ) : Type 0 where
  pub as_many_cells : length cells ≡ S * G
  pub as_many_words : length table ≡ G
  pub bit_is_cell : (s p : ℕ) → s < S → p < G → bit (get_or table p 0) s ≡ get_or cells (place G s p) 0
  pub none_above : (s p : ℕ) → S ≤ s → p < G → bit (get_or table p 0) s ≡ 0

-- a byte desk and a word desk: same S, owners, counters and pool, and such receive tables
pub record MeanTheSame (d : Desk) (e : WordDesk) : Type 0 where
  pub same_sites : d.S ≡ e.S
  pub same_owners : d.owners ≡ e.owners
  pub same_counters : d.send ≡ e.send
  pub same_pool : d.pool ≡ e.pool
  pub same_cells : SameCells d.S (length d.owners) d.receive e.receive

-- a byte desk with words in place of its cells, and a word desk with cells in place of its words
abbrev pub with_words : Desk → List ℕ → WordDesk
with_words d table = lent_in_words d.S d.owners d.send table d.pool

abbrev pub with_cells : WordDesk → List ℕ → Desk
with_cells e cells = lent e.S e.owners e.send cells e.pool

-- ---- 1 and 2 in words
-- as in document 01, with G words in place of S x G bytes
pub record ShapedInWords (s g sends table pools : ℕ) : Type 0 where
  pub sizes : Sized s g
  pub send_length : sends ≡ s * g
  pub as_many_words : table ≡ g
  pub whole_slots : pools % 5 ≡ 0
  pub few_slots : pools / 5 ≤ 1024

-- every owner is a site, no word has a set bit at or above S, every slot is good
pub record GoodTablesInWords (d : WordDesk) : Type 0 where
  pub owners : (p : ℕ) → p < length d.owners → get_or d.owners p 0 < d.S
  pub none_above : (s p : ℕ) → d.S ≤ s → p < length d.receive → bit (word_of d p) s ≡ 0
  pub slots : GoodSlots 5 d.S (length d.owners) d.pool

-- ---- the rows of the questions, number and reason
-- count 3, after 1 and 2
abbrev pub count_rows : WordDesk → ℕ → List Row
count_rows d p = BadName because (words.pointers d ≤ p) ∷ []

-- sites is not 1 to 64, there are more than 256 words, or not sites x words bytes
abbrev pub OtherSizes : ℕ → List ℕ → List ℕ → Type 0
OtherSizes sites cells table = (Sized sites (length table) × (length cells ≡ sites * length table)) → ⊥

abbrev pub pack_rows : ℕ → List ℕ → List ℕ → List Row
pack_rows sites cells table =
    BadShape because (OtherSizes sites cells table)
    ∷ BadTable because ((i : ℕ) × (i < length cells) × (1 < get_or cells i 0))
    ∷ []

abbrev pub unpack_rows : ℕ → List ℕ → List ℕ → List Row
unpack_rows sites table cells =
    BadShape because (OtherSizes sites cells table)
    ∷ BadTable because ((p : ℕ) × (s : ℕ) × (p < length table) × (sites ≤ s) × (bit (get_or table p 0) s ≡ 1))
    ∷ []
