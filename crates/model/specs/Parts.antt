-- Document 01, "What the host lends", part by part: a desk over a receive table and a pool of whatever form.
use Rattle.std.specs.Prelude.{ℕ, ◌*◌, ◌≤◌, ◌<◌, ◌≡◌, Bool, true, ◌&&◌, List, eqb, length, get_or, set, replicate}
use Rattle.moreau.specs.Transformers.{assign}
use Rattle.model.specs.declared.Posted.{Posted}
use Rattle.model.specs.declared.Posted.TheVariants.{Nothing}
use Rattle.model.specs.Refusals.{◌when◌}
use Rattle.model.specs.Messages.{is_nothing}
use Rattle.model.specs.Layout.{Layout}
use Rattle.model.specs.Laws.{with_slot, Inside}
use Rattle.model.specs.Tables.{Lent, lent, place, sizes_good, all_below}

-- a receive table
pub record ReceiveTable (R : Type 0) : Type 0 where
  -- read, for G pointers: the cell of a site and a pointer
  pub cell_in : ℕ → R → ℕ → ℕ → ℕ
  -- tested: its length, for S and G (1); its values, for S (2)
  pub fits : ℕ → ℕ → R → Bool
  pub bits : ℕ → R → Bool
  -- written: all by an opening, for S and the owners; a cell, for G pointers
  pub owned : ℕ → List ℕ → R
  pub set_in : ℕ → R → ℕ → ℕ → ℕ → R

-- a pool, with whatever is lent beside it
pub record Pool (Q : Type 0) : Type 0 where
  -- read: how many slots, whether one is empty, the message of one
  pub slots : Q → ℕ
  pub empty : Q → ℕ → Bool
  pub message : Q → ℕ → Posted
  -- tested: its length, for S (1); its slots, for S and G (2); the number of a slot's message that comes too early, for S
  pub fits : ℕ → Q → Bool
  pub slots_good : ℕ → ℕ → Q → Bool
  pub early : ℕ → Q → ℕ → ℕ
  -- written: all by an opening; for S a slot, and what is noted of a slot's message when it is handled
  pub cleared : Q → Q
  pub post : ℕ → Q → ℕ → Posted → Q
  pub handled : ℕ → Q → ℕ → Q

-- the desk of a receive table and a pool: the cell of site s and pointer p of the send table at s x G + p
abbrev pub desk_of : {R Q : Type 0} → ReceiveTable R → Pool Q → Layout (Lent R Q)
desk_of T P = record {
  sites = λ d. d.S;
  pointers = λ d. length d.owners;
  owner = λ d p. get_or d.owners p 0;
  counter = λ d s p. get_or d.send (place (length d.owners) s p) 0;
  cell = λ d s p. T.cell_in (length d.owners) d.receive s p;
  slots = λ d. P.slots d.pool;
  empty = λ d slot. P.empty d.pool slot;
  message = λ d slot. P.message d.pool slot;
  shaped = λ d.
      sizes_good d.S (length d.owners)
      && (eqb (length d.send) (d.S * length d.owners) && T.fits d.S (length d.owners) d.receive && P.fits d.S d.pool);
  owned = λ d. all_below d.S d.owners;
  sound = λ d. all_below d.S d.owners && T.bits d.S d.receive && P.slots_good d.S (length d.owners) d.pool;
  early = λ d slot. P.early d.S d.pool slot;
  cleared = λ d. lent d.S d.owners (replicate (length d.send) 0) (T.owned d.S d.owners) (P.cleared d.pool);
  set_counter = λ d s p n. lent d.S d.owners (set d.send (place (length d.owners) s p) n) d.receive d.pool;
  set_cell = λ d s p n. lent d.S d.owners d.send (T.set_in (length d.owners) d.receive s p n) d.pool;
  post = λ d slot m. lent d.S d.owners d.send d.receive (P.post d.S d.pool slot m);
  handled = λ d slot. lent d.S d.owners d.send d.receive (P.handled d.S d.pool slot);
}

-- ---- what a receive table must keep
module _ {R : Type 0} (T : ReceiveTable R) where
  open T use {cell_in, fits, bits, owned, set_in}

  -- r is a good receive table for S and G, and reads as these cells
  pub record CellsRead (S G : ℕ) (r : R) (cells : ℕ → ℕ → ℕ) : Type 0 where
    pub long : fits S G r ≡ true
    pub bitwise : bits S r ≡ true
    pub as_cells : (s p : ℕ) → s < S → p < G → cell_in G r s p ≡ cells s p

  pub record LawfulCells : Type 0 where
    pub cell_bit : (S G : ℕ) (r : R) → fits S G r ≡ true → bits S r ≡ true → (s p : ℕ) → s < S → p < G → cell_in G r s p ≤ 1
    pub opens : (S : ℕ) (owners : List ℕ) → S ≤ 64 → all_below S owners ≡ true → CellsRead S (length owners) (owned S owners) (λ s p. 1 when eqb s (get_or owners p 0))
    pub sets : (S G : ℕ) (r : R) → S ≤ 64 → fits S G r ≡ true → bits S r ≡ true → (s p n : ℕ) → s < S → p < G → n ≤ 1 → CellsRead S G (set_in G r s p n) (assign (cell_in G r) s p n)

-- ---- what a pool must keep
module _ {Q : Type 0} (P : Pool Q) where
  open P use {slots, empty, message, fits, slots_good, cleared, post, handled}

  -- q is a good pool for S and G, of n slots, and reads as these messages
  pub record PoolReads (S G n : ℕ) (q : Q) (messages : ℕ → Posted) : Type 0 where
    pub long : fits S q ≡ true
    pub good : slots_good S G q ≡ true
    pub as_many : slots q ≡ n
    pub as_messages : (i : ℕ) → i < n → message q i ≡ messages i

  pub record LawfulPool : Type 0 where
    pub few_slots : (S : ℕ) (q : Q) → fits S q ≡ true → slots q ≤ 1024
    pub inside : (S G : ℕ) (q : Q) → slots_good S G q ≡ true → (i : ℕ) → i < slots q → Inside S G (message q i)
    pub empties : (S G : ℕ) (q : Q) → slots_good S G q ≡ true → (i : ℕ) → i < slots q → empty q i ≡ is_nothing (message q i)
    pub clears : (S G : ℕ) (q : Q) → fits S q ≡ true → PoolReads S G (slots q) (cleared q) (λ i. Nothing)
    pub posts : (S G : ℕ) (q : Q) → fits S q ≡ true → slots_good S G q ≡ true → (i : ℕ) (m : Posted) → i < slots q → Inside S G m
        → PoolReads S G (slots q) (post S q i m) (with_slot (message q) i m)
    pub handles : (S G : ℕ) (q : Q) → fits S q ≡ true → slots_good S G q ≡ true → (i : ℕ) → i < slots q → PoolReads S G (slots q) (handled S q i) (message q)
