-- The layout of document 01 keeps the laws of a layout.
use Prim.Native.Nat.{ℕ, ◌+◌, ◌*◌, ◌/◌, ◌%◌, ◌≤◌, ◌<◌}
use mathlib.Core.Path.{◌≡◌, refl, ap}
use mathlib.Core.Bool.{true}
use mathlib.Core.List.{List}
use native.Mathlib.Decide.{ℕ_discrete}
use native.Mathlib.Omega.{arith}
use lib.Dec.{leb, eqb}
use lib.ListN.{length, set, replicate, length-set, length-replicate}
use lib.Seq.{length-sets, get_or-set_same, get_or-set_other}
use borrow.Author.Tests.{leb-true, eqb-true, eq-eqb, lt-ltb}
use Rattle.moreau.specs.Transformers.{assign}
use Rattle.model.specs.declared.Posted.{Posted}
use Rattle.model.specs.declared.Posted.TheVariants.{Nothing}
use Rattle.model.specs.Messages.{slot_of, message_of}
use Rattle.model.specs.Calls.{lent_refusal}
use Rattle.model.specs.Laws.{with_slot, Inside, Laws}
use Rattle.model.specs.Tables.{Desk, place, pool_good, byte_below, all_below, at_slot, slot_good, slots_of, all_slots_good, message_at}
use Rattle.model.specs.Parts.{CellsRead, LawfulCells, PoolReads, LawfulPool}
use Rattle.model.specs.InWords.{Shaped}
use Rattle.model.specs.Flat.{byte_cells, held_slots, flat}
use Rattle.model.proofs.TestLaws.{and_both}
use Rattle.model.proofs.QuestionLaws.{every_at, every_all}
use Rattle.model.proofs.PlaceLaws.{place_inside, store_at_place}
use Rattle.model.proofs.SlotLaws.{store_in_slot, store_keeps_slots_good, good_slot_inside, good_slot_empty}
use Rattle.model.proofs.ShapeLaws.{byte_below_lem, shaped, length_own_rows, own_rows_at, own_rows_below}
use Rattle.model.proofs.PartLaws.{zeros_at, shape_passes, desk_laws}

-- ---- bytes below a limit
-- a byte below the limit leaves all bytes below it
pub store_keeps_below : (n : ℕ) (l : List ℕ) (k x : ℕ) → x < n → all_below n l ≡ true → all_below n (set l k x) ≡ true
unfolding all_below
store_keeps_below n l k x h e = rw (length-set l k x) (every_all (byte_below n (set l k x)) (length l) (λ j lj. go j lj (ℕ_discrete j k)))
  where
    go : (j : ℕ) → j < length l → Dec (j ≡ k) → byte_below n (set l k x) j ≡ true
    go j lj (yes q) =
        let lk : k < length l = omega arith in
        rw (q, get_or-set_same l k x 0 lk) (lt-ltb x n h)
    go j lj (no apart) = rw (get_or-set_other l k j x 0 apart) (every_at (byte_below n l) (length l) j lj e)

-- ---- empty slots
pub empty_slots_lem : {A : Type 0} (w : ℕ) (f : ℕ → ℕ → ℕ → ℕ → ℕ → A) (n i : ℕ) → at_slot w f (replicate n 0) i ≡ f 0 0 0 0 0
empty_slots_lem w f n i = λ t. f (zeros_at n (i * w) t) (zeros_at n (i * w + 1) t) (zeros_at n (i * w + 2) t) (zeros_at n (i * w + 3) t) (zeros_at n (i * w + 4) t)

pub empty_slots_good : (w s g n : ℕ) → all_slots_good w s g (replicate n 0) ≡ true
unfolding all_slots_good
empty_slots_good w s g n = every_all (at_slot w (slot_good s g) (replicate n 0)) (slots_of w (replicate n 0)) (λ i l. empty_slots_lem w (slot_good s g) n i)

-- ---- the receive table of document 01
byte_cells_set : (S G : ℕ) (r : List ℕ) → length r ≡ S * G → all_below 2 r ≡ true → (s p n : ℕ) → s < S → p < G → n ≤ 1
    → CellsRead byte_cells S G (byte_cells.set_in G r s p n) (assign (byte_cells.cell_in G r) s p n)
byte_cells_set S G r long below s p n ls lp ln =
    let inside : place G s p < length r = rw long (place_inside S G s p ls lp) in
    record {
      long = rw (length-set r (place G s p) n) (eq-eqb (length r) (S * G) long);
      bitwise = store_keeps_below 2 r (place G s p) n (omega arith) below;
      as_cells = λ t q lt lq. store_at_place r G s p n t q lp lq inside;
    }

byte_cell_bit : (S G : ℕ) (r : List ℕ) → length r ≡ S * G → all_below 2 r ≡ true → (s p : ℕ) → s < S → p < G → byte_cells.cell_in G r s p ≤ 1
byte_cell_bit S G r long below s p ls lp = let h = byte_below_lem 2 r (place G s p) (rw long (place_inside S G s p ls lp)) below in omega arith

pub byte_cells_lem : LawfulCells byte_cells
byte_cells_lem = record {
  cell_bit = λ S G r e. byte_cell_bit S G r (eqb-true _ _ e);
  opens = λ S owners few o. record {
    long = eq-eqb _ _ (length_own_rows S owners);
    bitwise = own_rows_below S owners;
    as_cells = λ s p. own_rows_at S owners s p;
  };
  sets = λ S G r few e. byte_cells_set S G r (eqb-true _ _ e);
}

-- ---- a slot of a good pool
pub slot_of_good : (w S G : ℕ) (pool : List ℕ) → all_slots_good w S G pool ≡ true → (i : ℕ) → i < slots_of w pool → at_slot w (slot_good S G) pool i ≡ true
unfolding all_slots_good
slot_of_good w S G pool e i li = every_at (at_slot w (slot_good S G) pool) (slots_of w pool) i li e

-- ---- the pool of document 01
held_clears : (S G : ℕ) (pool : List ℕ) → pool_good 5 (length pool) ≡ true → PoolReads held_slots S G (slots_of 5 pool) (held_slots.cleared pool) (λ i. Nothing)
unfolding message_of
held_clears S G pool e = record {
  long = rw (length-replicate {A = ℕ} (length pool) 0) e;
  good = empty_slots_good 5 S G (length pool);
  as_many = ap (λ n. n / 5) (length-replicate {A = ℕ} (length pool) 0);
  as_messages = λ i li. empty_slots_lem 5 message_of (length pool) i;
}

held_posts : (S G : ℕ) (pool : List ℕ) → pool_good 5 (length pool) ≡ true → all_slots_good 5 S G pool ≡ true → (i : ℕ) (m : Posted) → i < slots_of 5 pool → Inside S G m
    → PoolReads held_slots S G (slots_of 5 pool) (held_slots.post S pool i m) (with_slot (message_at 5 pool) i m)
held_posts S G pool e good i m li w = record {
  long = rw (length-sets pool (i * 5) (slot_of m)) e;
  good = store_keeps_slots_good pool i m (omega arith) S G w good;
  as_many = ap (λ n. n / 5) (length-sets pool (i * 5) (slot_of m));
  as_messages = λ j lj. store_in_slot pool i m (omega arith) j;
}

pub held_slots_lem : LawfulPool held_slots
held_slots_lem = record {
  few_slots = λ S pool e. leb-true _ _ (and_both (eqb (length pool % 5) 0) (leb (length pool / 5) 1024) e).1;
  inside = λ S G pool e i li. good_slot_inside _ _ _ _ _ _ _ (slot_of_good 5 S G pool e i li);
  empties = λ S G pool e i li. good_slot_empty _ _ _ _ _ _ _ (slot_of_good 5 S G pool e i li);
  clears = held_clears;
  posts = held_posts;
  handles = λ S G pool e good i li. record { long = e; good = good; as_many = refl; as_messages = λ j lj. refl };
}

-- The desk of document 01 is a lawful layout.
pub flat_laws : Laws flat
flat_laws = desk_laws byte_cells held_slots byte_cells_lem held_slots_lem

pub shaped_desk : (d : Desk) → lent_refusal flat d ≡ 0 → Shaped 5 d.S (length d.owners) (length d.send) (length d.receive) (length d.pool)
shaped_desk d e = shaped d.S (length d.owners) (length d.send) (length d.receive) (length d.pool) (shape_passes byte_cells held_slots d e)
