-- A desk whose receive table and pool keep their laws is a lawful layout: owners, counters and the frame once, for every desk.
use Prim.Native.Nat.{ℕ, zero, suc, ◌*◌, ◌≤◌, ◌<◌}
use mathlib.Core.Path.{◌≡◌, refl}
use mathlib.Core.Bool.{true, not}
use lib.Dec.{eqb}
use lib.ListN.{length, get_or, replicate, length-set, length-replicate}
use borrow.Author.Tests.{eqb-true, eq-eqb, not-false}
use Rattle.moreau.specs.Transformers.{assign}
use Rattle.model.specs.declared.Posted.{Posted}
use Rattle.model.specs.declared.Posted.TheVariants.{Nothing}
use Rattle.model.specs.Refusals.{◌when◌}
use Rattle.model.specs.Calls.{lent_refusal}
use Rattle.model.specs.Laws.{Reads, Laws}
use Rattle.model.specs.Tables.{Lent, lent, place, sizes_good, all_below}
use Rattle.model.specs.InWords.{Sized}
use Rattle.model.specs.Parts.{ReceiveTable, Pool, desk_of, LawfulCells, PoolReads, LawfulPool}
use Rattle.model.proofs.TestLaws.{and_both, when_not, or_else_none}
use Rattle.model.proofs.PlaceLaws.{place_inside, store_at_place}
use Rattle.model.proofs.ShapeLaws.{byte_below_lem, sized}

-- ---- zeros
pub zeros_at : (n i : ℕ) → ◌≡◌ {A = ℕ} (get_or (replicate n 0) i 0) 0
zeros_at zero i = refl
zeros_at (suc n) zero = refl
zeros_at (suc n) (suc i) = zeros_at n i

module _ {R Q : Type 0} (T : ReceiveTable R) (P : Pool Q) where
  -- what lent memory has that passes 1 and 2
  pub record Good (d : Lent R Q) : Type 0 where
    pub sizes : sizes_good d.S (length d.owners) ≡ true
    pub send_length : length d.send ≡ d.S * length d.owners
    pub receive_fits : T.fits d.S (length d.owners) d.receive ≡ true
    pub pool_fits : P.fits d.S d.pool ≡ true
    pub owners_below : all_below d.S d.owners ≡ true
    pub receive_bits : T.bits d.S d.receive ≡ true
    pub slots_good : P.slots_good d.S (length d.owners) d.pool ≡ true

  -- the four tests of 1
  pub record Fitting (d : Lent R Q) : Type 0 where
    pub sizes : sizes_good d.S (length d.owners) ≡ true
    pub send_length : length d.send ≡ d.S * length d.owners
    pub receive_fits : T.fits d.S (length d.owners) d.receive ≡ true
    pub pool_fits : P.fits d.S d.pool ≡ true

  pub fitting : (d : Lent R Q) → (desk_of T P).shaped d ≡ true → Fitting d
  fitting d e =
      let e1 = and_both (sizes_good d.S (length d.owners)) _ e in
      let e2 = and_both _ (P.fits d.S d.pool) e1.1 in
      let e3 = and_both _ (T.fits d.S (length d.owners) d.receive) e2.0 in
      record { sizes = e1.0; send_length = eqb-true _ _ e3.0; receive_fits = e3.1; pool_fits = e2.1 }

  pub good : (d : Lent R Q) → lent_refusal (desk_of T P) d ≡ 0 → Good d
  unfolding lent_refusal
  good d e =
      let q = or_else_none (1 when not ((desk_of T P).shaped d)) (2 when not ((desk_of T P).sound d)) e in
      let f = fitting d (not-false _ (when_not 0 _ q.0)) in
      let t = and_both _ _ (not-false _ (when_not 1 _ q.1)) in
      let u = and_both _ _ t.0 in
      record {
        sizes = f.sizes;
        send_length = f.send_length;
        receive_fits = f.receive_fits;
        pool_fits = f.pool_fits;
        owners_below = u.0;
        receive_bits = u.1;
        slots_good = t.1;
      }

  pub shape_passes : (d : Lent R Q) → lent_refusal (desk_of T P) d ≡ 0 → (desk_of T P).shaped d ≡ true
  unfolding lent_refusal
  shape_passes d e = not-false _ (when_not 0 _ (or_else_none (1 when not ((desk_of T P).shaped d)) (2 when not ((desk_of T P).sound d)) e).0)

  pub passes : (d : Lent R Q) → Good d → lent_refusal (desk_of T P) d ≡ 0
  unfolding lent_refusal
  passes d g = rw (g.sizes, eq-eqb (length d.send) (d.S * length d.owners) g.send_length, g.receive_fits, g.pool_fits, g.owners_below, g.receive_bits, g.slots_good)

  pub sized_desk : (d : Lent R Q) → lent_refusal (desk_of T P) d ≡ 0 → Sized d.S (length d.owners)
  sized_desk d e = sized d.S (length d.owners) (good d e).sizes

  -- a cell of the send table lies in it
  pub in_send : (d : Lent R Q) → lent_refusal (desk_of T P) d ≡ 0 → (s p : ℕ) → s < d.S → p < length d.owners → place (length d.owners) s p < length d.send
  in_send d e s p ls lp = rw (good d e).send_length (place_inside d.S (length d.owners) s p ls lp)

  module _ (C : LawfulCells T) (O : LawfulPool P) where
    clears : (d : Lent R Q) → (desk_of T P).shaped d ≡ true → (desk_of T P).owned d ≡ true
        → Reads (desk_of T P) d ((desk_of T P).cleared d) (λ s p. 0) (λ s p. 1 when eqb s ((desk_of T P).owner d p)) (λ i. Nothing)
    clears d e o =
        let f = fitting d e in
        let cells = C.opens d.S d.owners (sized d.S (length d.owners) f.sizes).few_sites o in
        let slots = O.clears d.S (length d.owners) d.pool f.pool_fits in
        record {
          good = passes ((desk_of T P).cleared d) (record {
            sizes = f.sizes;
            send_length = rw (length-replicate {A = ℕ} (length d.send) 0) f.send_length;
            receive_fits = cells.long;
            pool_fits = slots.long;
            owners_below = o;
            receive_bits = cells.bitwise;
            slots_good = slots.good;
          });
          same = λ w. record { sites = d.S; pointers = length d.owners; slots = slots.as_many w; owner = (desk_of T P).owner d };
          as_counters = λ s p ls lp. zeros_at (length d.send) (place (length d.owners) s p);
          as_cells = cells.as_cells;
          as_messages = slots.as_messages;
        }

    module _ (d : Lent R Q) (e : lent_refusal (desk_of T P) d ≡ 0) where
      sets_counter : (s p n : ℕ) → s < d.S → p < length d.owners
          → Reads (desk_of T P) d ((desk_of T P).set_counter d s p n) (assign ((desk_of T P).counter d) s p n) ((desk_of T P).cell d) ((desk_of T P).message d)
      unfolding lent_refusal
      sets_counter s p n ls lp = record {
        good = rw (length-set d.send (place (length d.owners) s p) n) e;
        same = refl;
        as_counters = λ t q lt lq. store_at_place d.send (length d.owners) s p n t q lp lq (in_send d e s p ls lp);
        as_cells = λ t q lt lq. refl;
        as_messages = λ i li. refl;
      }

      sets_cell : (s p n : ℕ) → s < d.S → p < length d.owners → n ≤ 1
          → Reads (desk_of T P) d ((desk_of T P).set_cell d s p n) ((desk_of T P).counter d) (assign ((desk_of T P).cell d) s p n) ((desk_of T P).message d)
      sets_cell s p n ls lp ln =
          let g = good d e in
          let cells = C.sets d.S (length d.owners) d.receive (sized_desk d e).few_sites g.receive_fits g.receive_bits s p n ls lp ln in
          record {
            good = passes ((desk_of T P).set_cell d s p n) (record {
              sizes = g.sizes;
              send_length = g.send_length;
              receive_fits = cells.long;
              pool_fits = g.pool_fits;
              owners_below = g.owners_below;
              receive_bits = cells.bitwise;
              slots_good = g.slots_good;
            });
            same = refl;
            as_counters = λ t q lt lq. refl;
            as_cells = cells.as_cells;
            as_messages = λ i li. refl;
          }

      -- another pool of as many slots
      with_pool_lem : (q : Q) (messages : ℕ → Posted) → PoolReads P d.S (length d.owners) (P.slots d.pool) q messages
          → Reads (desk_of T P) d (lent d.S d.owners d.send d.receive q) ((desk_of T P).counter d) ((desk_of T P).cell d) messages
      with_pool_lem q messages h =
          let g = good d e in
          record {
            good = passes (lent d.S d.owners d.send d.receive q) (record {
              sizes = g.sizes;
              send_length = g.send_length;
              receive_fits = g.receive_fits;
              pool_fits = h.long;
              owners_below = g.owners_below;
              receive_bits = g.receive_bits;
              slots_good = h.good;
            });
            same = λ w. record { sites = d.S; pointers = length d.owners; slots = h.as_many w; owner = (desk_of T P).owner d };
            as_counters = λ t q lt lq. refl;
            as_cells = λ t q lt lq. refl;
            as_messages = h.as_messages;
          }

    -- A desk of a lawful receive table and a lawful pool is a lawful layout.
    pub desk_laws : Laws (desk_of T P)
    desk_laws = record {
      some_site = λ d e. let h = sized_desk d e in (h.some_site, h.few_sites);
      few_slots = λ d e. O.few_slots d.S d.pool (good d e).pool_fits;
      owner_inside = λ d e p lp. byte_below_lem d.S d.owners p lp (good d e).owners_below;
      cell_bit = λ d e. C.cell_bit d.S (length d.owners) d.receive (good d e).receive_fits (good d e).receive_bits;
      inside = λ d e. O.inside d.S (length d.owners) d.pool (good d e).slots_good;
      empties = λ d e. O.empties d.S (length d.owners) d.pool (good d e).slots_good;
      clears = clears;
      sets_counter = λ d s p n e. sets_counter d e s p n;
      sets_cell = λ d s p n e. sets_cell d e s p n;
      posts = λ d i m e li w. with_pool_lem d e _ _ (O.posts d.S (length d.owners) d.pool (good d e).pool_fits (good d e).slots_good i m li w);
      handles = λ d i e li. with_pool_lem d e _ _ (O.handles d.S (length d.owners) d.pool (good d e).pool_fits (good d e).slots_good i li);
    }
