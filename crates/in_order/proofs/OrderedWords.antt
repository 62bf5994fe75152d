-- Rows 1 and 2 in words: when what is lent to the in-order desk is well shaped, and when its tables are good.
use Prim.Native.Nat.{ℕ, ◌+◌, ◌*◌, ◌/◌, ◌%◌, ◌<◌}
use mathlib.Core.Path.{◌≡◌}
use mathlib.Core.Logic.{◌↔◌}
use mathlib.Core.Bool.{true, ◌&&◌}
use mathlib.Core.List.{List}
use native.Mathlib.Decide.{ℕ_discrete}
use lib.Dec.{leb, eqb}
use lib.ListN.{length, get_or}
use borrow.Author.Tests.{leb-true, eqb-true, eq-eqb, ne_eqb}
use Rattle.model.specs.Tables.{slots_of, all_below, all_slots_good}
use Rattle.model.specs.Flat.{byte_cells}
use Rattle.in_order.specs.Ordered.{number_good, all_numbers_good, in_order_slots, OrderedDesk, ordered}
use Rattle.in_order.specs.InOrder.{ShapedInOrder, GoodTablesInOrder}
use Rattle.model.proofs.TestLaws.{and_both}
use Rattle.model.proofs.QuestionLaws.{every_at, every_all}
use Rattle.model.proofs.ShapeLaws.{sized}
use Rattle.model.proofs.PartLaws.{fitting}
use Rattle.model.proofs.InWords.{Below, all_below_in_words, slots_in_words, sizes_from_words, pool_from_words}
use Rattle.in_order.proofs.OrderedLaws.{fitted}

-- BadShape is given exactly where S is not 1 to 64, G is above 256, a length is another than S x G, the pool is not 0 to 1,024 slots of 7 bytes, or a table of numbers is not S x S.
pub shape_in_words : (d : OrderedDesk)
    → (ordered.shaped d ≡ true)
    ↔ ShapedInOrder d.S (length d.owners) (length d.send) (length d.receive) (length d.pool.bytes) (length d.pool.to_post) (length d.pool.to_receive)
shape_in_words d = (
  (λ e.
      let f = fitting byte_cells in_order_slots d e in
      let q = fitted d.S d.pool f.pool_fits in
      let g = and_both (eqb (length d.pool.bytes % 7) 0) (leb (length d.pool.bytes / 7) 1024) q.pool_good in
      record {
        tables = record {
          sizes = sized d.S (length d.owners) f.sizes;
          send_length = f.send_length;
          receive_length = eqb-true _ _ f.receive_fits;
          whole_slots = eqb-true _ _ g.0;
          few_slots = leb-true _ _ g.1;
        };
        post_length = q.post_length;
        take_length = q.take_length;
      }),
  (λ h. rw (
    sizes_from_words d.S (length d.owners) h.tables.sizes,
    eq-eqb (length d.send) (d.S * length d.owners) h.tables.send_length,
    eq-eqb (length d.receive) (d.S * length d.owners) h.tables.receive_length,
    pool_from_words 7 (length d.pool.bytes) h.tables.whole_slots h.tables.few_slots,
    eq-eqb (length d.pool.to_post) (d.S * d.S) h.post_length,
    eq-eqb (length d.pool.to_receive) (d.S * d.S) h.take_length,
  )),
)

-- the number of a slot of a kind
number_in_words : (bytes : List ℕ) (i : ℕ) → (number_good bytes i ≡ true) ↔ (get_or bytes (i * 7) 0 ≡ 0 → (get_or bytes (i * 7 + 5) 0 ≡ 0) × (get_or bytes (i * 7 + 6) 0 ≡ 0))
number_in_words bytes i = (
  (λ e z.
      let t : (eqb high 0 && eqb low 0) ≡ true = rw (eq-eqb kind 0 z) at e in
      let b = and_both (eqb high 0) (eqb low 0) t in
      (eqb-true high 0 b.0, eqb-true low 0 b.1)),
  (λ h. go h (ℕ_discrete kind 0)),
)
  where
    kind : ℕ
    kind = get_or bytes (i * 7) 0

    high : ℕ
    high = get_or bytes (i * 7 + 5) 0

    low : ℕ
    low = get_or bytes (i * 7 + 6) 0

    go : (kind ≡ 0 → (high ≡ 0) × (low ≡ 0)) → Dec (kind ≡ 0) → number_good bytes i ≡ true
    go h (yes z) = let q = h z in rw (eq-eqb kind 0 z, eq-eqb high 0 q.0, eq-eqb low 0 q.1)
    go h (no d) = rw (ne_eqb kind 0 d)

-- BadTable is given, after BadShape, exactly where an owner, a receive byte or a slot breaks its form; any number of a full slot or of a pair is good.
pub sound_in_words : (d : OrderedDesk) → (ordered.sound d ≡ true) ↔ GoodTablesInOrder d
unfolding all_numbers_good Below
sound_in_words d = (
  (λ e.
      let a = and_both (all_below d.S d.owners && all_below 2 d.receive) (all_slots_good 7 d.S (length d.owners) d.pool.bytes && all_numbers_good d.pool.bytes) e in
      let b = and_both (all_below d.S d.owners) (all_below 2 d.receive) a.0 in
      let c = and_both (all_slots_good 7 d.S (length d.owners) d.pool.bytes) (all_numbers_good d.pool.bytes) a.1 in
      record {
        owners = (all_below_in_words d.S d.owners).0 b.0;
        cells = (all_below_in_words 2 d.receive).0 b.1;
        slots = (slots_in_words 7 d.S (length d.owners) d.pool.bytes).0 c.0;
        numbers = λ i l. (number_in_words d.pool.bytes i).0 (every_at (number_good d.pool.bytes) (slots_of 7 d.pool.bytes) i l c.1);
      }),
  (λ h. rw (
    (all_below_in_words d.S d.owners).1 h.owners,
    (all_below_in_words 2 d.receive).1 h.cells,
    (slots_in_words 7 d.S (length d.owners) d.pool.bytes).1 h.slots,
  )
      (every_all (number_good d.pool.bytes) (slots_of 7 d.pool.bytes) (λ i l. (number_in_words d.pool.bytes i).1 (h.numbers i l)))),
)

-- BadTable is given for an opening, after BadShape, exactly where an owner is no site.
pub owned_in_words : (d : OrderedDesk) → (ordered.owned d ≡ true) ↔ ((p : ℕ) → p < length d.owners → get_or d.owners p 0 < d.S)
unfolding Below
owned_in_words d = all_below_in_words d.S d.owners
