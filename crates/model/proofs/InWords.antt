-- Rows 1 and 2 in words: when lent parts of document 01 are well shaped, and when their tables are good.
use Prim.Native.Nat.{ℕ, zero, suc, ◌*◌, ◌/◌, ◌%◌, ◌≤◌, ◌<◌}
use mathlib.Core.Path.{◌≡◌, refl}
use mathlib.Core.Logic.{◌↔◌}
use mathlib.Core.Bool.{true, ◌&&◌}
use mathlib.Core.List.{List, []}
use native.Mathlib.Omega.{arith}
use lib.ListN.{length, get_or, replicate, length-replicate}
use borrow.Author.Tests.{le-leb, ltb-true, lt-ltb, eqb-true, eq-eqb}
use Rattle.model.specs.Tables.{Desk, byte_below, all_below, at_slot, slot_good, slots_of, all_slots_good, lent, sizes_good, pool_good, owners_refusal}
use Rattle.model.specs.Calls.{open_refusal}
use Rattle.model.specs.InWords.{Sized, Shaped, GoodSlot, no_message, a_copy, a_dec, an_inc_dec, GoodSlots, GoodTables}
use Rattle.model.specs.Flat.{flat}
use Rattle.model.proofs.TestLaws.{and_both, and_true}
use Rattle.model.proofs.QuestionLaws.{every_at, every_all}
use Rattle.model.proofs.SlotLaws.{full, empty_zeros}
use Rattle.model.proofs.ShapeLaws.{shaped, byte_below_lem}

-- every byte is below n
unfoldable pub Below : ℕ → List ℕ → Type 0
Below n bytes = (i : ℕ) → i < length bytes → get_or bytes i 0 < n

pub all_below_in_words : (n : ℕ) (bytes : List ℕ) → (all_below n bytes ≡ true) ↔ Below n bytes
unfolding all_below Below
all_below_in_words n bytes = (
  (λ e i l. byte_below_lem n bytes i l e),
  (λ h. every_all (byte_below n bytes) (length bytes) (λ i l. lt-ltb _ _ (h i l))),
)

-- ---- a slot
pub slot_in_words : (S G kind from to third p : ℕ) → slot_good S G kind from to third p ≡ true → GoodSlot S G kind from to third p
slot_in_words S G zero a b c p e =
    let z = empty_zeros a b c p e in
    rw (z.0, z.1, z.2, z.3) no_message
slot_in_words S G (suc zero) a b c p e =
    let f = full S G 1 a b c p e (omega arith) in
    rw (eqb-true c 0 f.third_site) (a_copy f.from_site f.to_site f.a_pointer)
slot_in_words S G (suc (suc zero)) a b c p e =
    let f = full S G 2 a b c p e (omega arith) in
    rw (eqb-true c 0 f.third_site) (a_dec f.from_site f.to_site f.a_pointer)
slot_in_words S G (suc (suc (suc zero))) a b c p e =
    let f = full S G 3 a b c p e (omega arith) in
    an_inc_dec f.from_site f.to_site (ltb-true c S f.third_site) f.a_pointer
slot_in_words S G (suc (suc (suc (suc k)))) a b c p e =
    let f = full S G (suc (suc (suc (suc k)))) a b c p e (omega arith) in
    absurd (omega (arith, f.known_kind))

pub slot_from_words : (S G kind from to third p : ℕ) → GoodSlot S G kind from to third p → slot_good S G kind from to third p ≡ true
slot_from_words S G kind from to third p no_message = refl
slot_from_words S G kind from to third p (a_copy l m n) = rw (lt-ltb from S l, lt-ltb to S m, lt-ltb p G n)
slot_from_words S G kind from to third p (a_dec l m n) = rw (lt-ltb from S l, lt-ltb to S m, lt-ltb p G n)
slot_from_words S G kind from to third p (an_inc_dec l m k n) = rw (lt-ltb from S l, lt-ltb to S m, lt-ltb third S k, lt-ltb p G n)

-- every slot of w bytes is good
pub slots_in_words : (w S G : ℕ) (pool : List ℕ) → (all_slots_good w S G pool ≡ true) ↔ GoodSlots w S G pool
unfolding all_slots_good
slots_in_words w S G pool = (
  (λ e i l. slot_in_words _ _ _ _ _ _ _ (every_at (at_slot w (slot_good S G) pool) (slots_of w pool) i l e)),
  (λ h. every_all (at_slot w (slot_good S G) pool) (slots_of w pool) (λ i l. slot_from_words _ _ _ _ _ _ _ (h i l))),
)

-- ---- sizes and slots
pub sizes_from_words : (s g : ℕ) → Sized s g → sizes_good s g ≡ true
sizes_from_words s g h = rw (le-leb 1 s h.some_site, le-leb s 64 h.few_sites, le-leb g 256 h.few_pointers)

pub pool_from_words : (w pools : ℕ) → pools % w ≡ 0 → pools / w ≤ 1024 → pool_good w pools ≡ true
pool_from_words w pools whole few = rw (eq-eqb (pools % w) 0 whole, le-leb (pools / w) 1024 few)

-- BadShape is given exactly where S is not 1 to 64, G is above 256, a length is another than S x G, or the pool is not 0 to 1,024 slots of 5 bytes.
pub shape_in_words : (d : Desk) → (flat.shaped d ≡ true) ↔ Shaped 5 d.S (length d.owners) (length d.send) (length d.receive) (length d.pool)
shape_in_words d = (
  shaped d.S (length d.owners) (length d.send) (length d.receive) (length d.pool),
  (λ h. rw (
    sizes_from_words d.S (length d.owners) h.sizes,
    eq-eqb (length d.send) (d.S * length d.owners) h.send_length,
    eq-eqb (length d.receive) (d.S * length d.owners) h.receive_length,
    pool_from_words 5 (length d.pool) h.whole_slots h.few_slots,
  )),
)

-- BadTable is given, after BadShape, exactly where an owner, a receive byte or a slot breaks its form.
pub sound_in_words : (d : Desk) → (flat.sound d ≡ true) ↔ GoodTables d
unfolding Below
sound_in_words d = (
  (λ e.
      let a = and_both (all_below d.S d.owners && all_below 2 d.receive) (all_slots_good 5 d.S (length d.owners) d.pool) e in
      let b = and_both (all_below d.S d.owners) (all_below 2 d.receive) a.0 in
      record {
        owners = (all_below_in_words d.S d.owners).0 b.0;
        cells = (all_below_in_words 2 d.receive).0 b.1;
        slots = (slots_in_words 5 d.S (length d.owners) d.pool).0 a.1;
      }),
  (λ h. rw ((all_below_in_words d.S d.owners).1 h.owners, (all_below_in_words 2 d.receive).1 h.cells)
      ((slots_in_words 5 d.S (length d.owners) d.pool).1 h.slots)),
)

-- BadTable is given for an opening, after BadShape, exactly where an owner is no site.
pub owned_in_words : (d : Desk) → (flat.owned d ≡ true) ↔ ((p : ℕ) → p < length d.owners → get_or d.owners p 0 < d.S)
unfolding Below
owned_in_words d = all_below_in_words d.S d.owners

-- S and owners that are lent with a book are refused as an opening of well-sized parts would refuse them.
pub owners_as_opening : (s : ℕ) (owners : List ℕ) → owners_refusal s owners ≡ open_refusal flat (lent s owners (replicate (s * length owners) 0) (replicate (s * length owners) 0) [])
unfolding owners_refusal open_refusal
owners_as_opening s owners =
    rw (length-replicate {A = ℕ} (s * length owners) 0, eq-eqb (s * length owners) (s * length owners) refl, and_true (sizes_good s (length owners)))
