-- The in-order desk keeps the laws of a layout: its pool is lawful, and its receive table is that of document 01.
use Prim.Native.Nat.{ℕ, ◌+◌, ◌*◌, ◌/◌, ◌%◌, ◌≤◌, ◌<◌}
use mathlib.Core.Path.{◌≡◌, refl, ap, ◌∙◌}
use mathlib.Core.Bool.{true}
use mathlib.Core.List.{List}
use native.Mathlib.Omega.{arith}
use lib.Dec.{leb, eqb}
use lib.ListN.{length, length-set, length-replicate}
use lib.Seq.{length-sets}
use borrow.Author.Tests.{leb-true, eqb-true, eq-eqb}
use Rattle.model.specs.declared.Posted.{Posted}
use Rattle.model.specs.declared.Posted.TheVariants.{Copy, Dec as Decr, IncDec, Nothing}
use Rattle.model.specs.Messages.{message_of, is_nothing}
use Rattle.model.specs.Calls.{lent_refusal}
use Rattle.model.specs.Laws.{with_slot, Inside, Laws}
use Rattle.model.specs.Tables.{pool_good, slots_of, all_slots_good, message_at}
use Rattle.model.specs.Parts.{PoolReads, LawfulPool}
use Rattle.model.specs.Flat.{byte_cells}
use Rattle.in_order.specs.Ordered.{NumberedPool, numbered_slot, all_numbers_good, number_for, advanced, in_order_slots, OrderedDesk, ordered}
use Rattle.model.proofs.TestLaws.{and_both}
use Rattle.model.proofs.SlotLaws.{good_slot_inside, good_slot_empty}
use Rattle.model.proofs.PartLaws.{good, desk_laws}
use Rattle.model.proofs.FlatLaws.{byte_cells_lem, slot_of_good, empty_slots_lem, empty_slots_good}
use Rattle.in_order.proofs.OrderedSlots.{numbered_store_in_slot, numbered_store_keeps_slots_good, numbered_store_keeps_numbers_good, zero_numbers_good}

-- ---- lengths
pub record Fitted (S : ℕ) (q : NumberedPool) : Type 0 where
  pub pool_good : pool_good 7 (length q.bytes) ≡ true
  pub post_length : length q.to_post ≡ S * S
  pub take_length : length q.to_receive ≡ S * S

pub fitted : (S : ℕ) (q : NumberedPool) → in_order_slots.fits S q ≡ true → Fitted S q
fitted S q e =
    let e1 = and_both _ (eqb (length q.to_receive) (S * S)) e in
    let e2 = and_both (pool_good 7 (length q.bytes)) _ e1.0 in
    record { pool_good = e2.0; post_length = eqb-true _ _ e2.1; take_length = eqb-true _ _ e1.1 }

pub fits : (S : ℕ) (q : NumberedPool) → Fitted S q → in_order_slots.fits S q ≡ true
fits S q f = rw (f.pool_good, eq-eqb (length q.to_post) (S * S) f.post_length, eq-eqb (length q.to_receive) (S * S) f.take_length)

length_advanced : (s : ℕ) (numbers : List ℕ) (m : Posted) → length (advanced s numbers m) ≡ length numbers
length_advanced s numbers (Copy a b p) = length-set numbers _ _
length_advanced s numbers (Decr a b p) = length-set numbers _ _
length_advanced s numbers (IncDec a b c p) = length-set numbers _ _
length_advanced s numbers Nothing = refl

no_number : (s : ℕ) (numbers : List ℕ) (m : Posted) → is_nothing m ≡ true → number_for s numbers m ≡ 0
no_number s numbers m e = rw e

-- ---- the pool
module _ (S G : ℕ) (q : NumberedPool) where
  good_slots : in_order_slots.slots_good S G q ≡ true → (all_slots_good 7 S G q.bytes ≡ true) × (all_numbers_good q.bytes ≡ true)
  good_slots e = and_both (all_slots_good 7 S G q.bytes) (all_numbers_good q.bytes) e

  module _ (f : Fitted S q) where
    clears : PoolReads in_order_slots S G (slots_of 7 q.bytes) (in_order_slots.cleared q) (λ i. Nothing)
    unfolding message_of
    clears = record {
      long = fits S (in_order_slots.cleared q) (record {
        pool_good = rw (length-replicate {A = ℕ} (length q.bytes) 0) f.pool_good;
        post_length = length-replicate {A = ℕ} (length q.to_post) 0 ∙ f.post_length;
        take_length = length-replicate {A = ℕ} (length q.to_receive) 0 ∙ f.take_length;
      });
      good = rw (empty_slots_good 7 S G (length q.bytes)) (zero_numbers_good (length q.bytes));
      as_many = ap (λ n. n / 7) (length-replicate {A = ℕ} (length q.bytes) 0);
      as_messages = λ i li. empty_slots_lem 7 message_of (length q.bytes) i;
    }

    posts : in_order_slots.slots_good S G q ≡ true → (i : ℕ) (m : Posted) → i < slots_of 7 q.bytes → Inside S G m
        → PoolReads in_order_slots S G (slots_of 7 q.bytes) (in_order_slots.post S q i m) (with_slot (message_at 7 q.bytes) i m)
    posts e i m li w =
        let k = number_for S q.to_post m in
        let same = length-sets q.bytes (i * 7) (numbered_slot m k) in
        let h : i * 7 + 7 ≤ length q.bytes = omega arith in
        record {
          long = fits S (in_order_slots.post S q i m) (record {
            pool_good = rw same f.pool_good;
            post_length = length_advanced S q.to_post m ∙ f.post_length;
            take_length = f.take_length;
          });
          good =
              rw (numbered_store_keeps_slots_good q.bytes i m k h S G w (good_slots e).0)
              (numbered_store_keeps_numbers_good q.bytes i m k h (no_number S q.to_post m) (good_slots e).1);
          as_many = ap (λ n. n / 7) same;
          as_messages = λ j lj. numbered_store_in_slot q.bytes i m k h j;
        }

    handles : in_order_slots.slots_good S G q ≡ true → (i : ℕ) → PoolReads in_order_slots S G (slots_of 7 q.bytes) (in_order_slots.handled S q i) (message_at 7 q.bytes)
    handles e i = record {
      long = fits S (in_order_slots.handled S q i) (record {
        pool_good = f.pool_good;
        post_length = f.post_length;
        take_length = length_advanced S q.to_receive (message_at 7 q.bytes i) ∙ f.take_length;
      });
      good = e;
      as_many = refl;
      as_messages = λ j lj. refl;
    }

pub in_order_slots_lem : LawfulPool in_order_slots
in_order_slots_lem = record {
  few_slots = λ S q e. leb-true _ _ (and_both (eqb (length q.bytes % 7) 0) (leb (length q.bytes / 7) 1024) (fitted S q e).pool_good).1;
  inside = λ S G q e i li. good_slot_inside _ _ _ _ _ _ _ (slot_of_good 7 S G q.bytes (good_slots S G q e).0 i li);
  empties = λ S G q e i li. good_slot_empty _ _ _ _ _ _ _ (slot_of_good 7 S G q.bytes (good_slots S G q e).0 i li);
  clears = λ S G q e. clears S G q (fitted S q e);
  posts = λ S G q e. posts S G q (fitted S q e);
  handles = λ S G q e good i li. handles S G q (fitted S q e) good i;
}

-- The in-order desk is a lawful layout.
pub ordered_laws : Laws ordered
ordered_laws = desk_laws byte_cells in_order_slots byte_cells_lem in_order_slots_lem

-- lent memory that passes 1 and 2 has S x S numbers to post and to receive
pub fitted_desk : (d : OrderedDesk) → lent_refusal ordered d ≡ 0 → Fitted d.S d.pool
fitted_desk d e = fitted d.S d.pool (good byte_cells in_order_slots d e).pool_fits
