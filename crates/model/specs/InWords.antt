-- Document 01, "What the host lends", in words: what BadShape and BadTable deny.
use Rattle.std.specs.Prelude.{ℕ, ◌+◌, ◌*◌, ◌/◌, ◌%◌, ◌≤◌, ◌<◌, ◌≡◌, List, length, get_or}
use Rattle.model.specs.Tables.{Desk, slots_of}

-- ---- BadShape
pub record Sized (s g : ℕ) : Type 0 where
  pub some_site : 1 ≤ s
  pub few_sites : s ≤ 64
  pub few_pointers : g ≤ 256

-- for slots of w bytes
pub record Shaped (w s g sends receives pools : ℕ) : Type 0 where
  pub sizes : Sized s g
  pub send_length : sends ≡ s * g
  pub receive_length : receives ≡ s * g
  pub whole_slots : pools % w ≡ 0
  pub few_slots : pools / w ≤ 1024

-- ---- BadTable
-- a slot, for S sites and G pointers: five zero bytes; a COPY or a DEC; an INC_DEC
pub data GoodSlot (S G : ℕ) : ℕ → ℕ → ℕ → ℕ → ℕ → Type 0 where
  no_message : GoodSlot S G 0 0 0 0 0
  a_copy : {from to p : ℕ} → from < S → to < S → p < G → GoodSlot S G 1 from to 0 p
  a_dec : {from to p : ℕ} → from < S → to < S → p < G → GoodSlot S G 2 from to 0 p
  an_inc_dec : {from to third p : ℕ} → from < S → to < S → third < S → p < G → GoodSlot S G 3 from to third p

-- every slot of w bytes is good in its first five
abbrev pub GoodSlots : ℕ → ℕ → ℕ → List ℕ → Type 0
GoodSlots w S G pool =
    (i : ℕ) → i < slots_of w pool → GoodSlot S G (get_or pool (i * w) 0) (get_or pool (i * w + 1) 0) (get_or pool (i * w + 2) 0) (get_or pool (i * w + 3) 0) (get_or pool (i * w + 4) 0)

-- what makes the tables good: every owner is a site, every receive byte is 0 or 1, every slot is good
pub record GoodTables (d : Desk) : Type 0 where
  pub owners : (p : ℕ) → p < length d.owners → get_or d.owners p 0 < d.S
  pub cells : (i : ℕ) → i < length d.receive → get_or d.receive i 0 < 2
  pub slots : GoodSlots 5 d.S (length d.owners) d.pool
