-- What a call knows once 1, 2 and 3 are not given, whatever the receive table and the pool; and with a byte for each receive cell.
use Prim.Native.Nat.{ℕ, ◌*◌, ◌≤◌, ◌<◌}
use mathlib.Core.Path.{◌≡◌, sym, ◌∙◌}
use mathlib.Core.Bool.{Bool, true, ◌&&◌}
use mathlib.Core.List.{List}
use lib.Dec.{ltb, eqb}
use lib.ListN.{length}
use borrow.Author.Tests.{ltb-true, eqb-true}
use Rattle.model.specs.Refusals.{◌when◌}
use Rattle.model.specs.Calls.{lent_refusal, front}
use Rattle.model.specs.Tables.{Lent, place}
use Rattle.model.specs.Parts.{ReceiveTable, Pool, desk_of, LawfulPool}
use Rattle.model.specs.Flat.{byte_cells}
use Rattle.model.proofs.TestLaws.{and_both}
use Rattle.model.proofs.FrontLaws.{front_passed}
use Rattle.model.proofs.PlaceLaws.{place_inside}
use Rattle.model.proofs.PartLaws.{good, sized_desk}

-- a count that goes with the number 0
pub counted_when_passed : (n count all : ℕ) → n ≡ 0 → count ≡ all when eqb n 0 → count ≡ all
counted_when_passed n count all z e = rw z at e

-- ---- whatever the receive table; In: where a site and a pointer stand in it
module _ {R Q : Type 0} (T : ReceiveTable R) (P : Pool Q) where
  -- a site and a pointer in range name a counter and a receive cell
  pub record Known (In : Type 0) (d : Lent R Q) (s p : ℕ) : Type 0 where
    pub lent_good : lent_refusal (desk_of T P) d ≡ 0
    pub few_sites : d.S ≤ 64
    pub few_pointers : length d.owners ≤ 256
    pub few_slots : P.slots d.pool ≤ 1024
    pub a_site : s < d.S
    pub a_pointer : p < length d.owners
    pub in_send : place (length d.owners) s p < length d.send
    pub in_receive : In

  module _ (O : LawfulPool P) (d : Lent R Q) (s p : ℕ) {In : Type 0} (stands : T.fits d.S (length d.owners) d.receive ≡ true → s < d.S → p < length d.owners → In) where
    pub known : lent_refusal (desk_of T P) d ≡ 0 → s < d.S → p < length d.owners → Known In d s p
    known e ls lp =
        let g = good T P d e in
        let z = sized_desk T P d e in
        record {
          lent_good = e;
          few_sites = z.few_sites;
          few_pointers = z.few_pointers;
          few_slots = O.few_slots d.S d.pool g.pool_fits;
          a_site = ls;
          a_pointer = lp;
          in_send = rw g.send_length (place_inside d.S (length d.owners) s p ls lp);
          in_receive = stands g.receive_fits ls lp;
        }

    -- so do the names of a call for which 1, 2 and 3 are not given; sites: the test of all its sites, of which s is one
    pub known_names : (sites : Bool) {n : ℕ} → (sites ≡ true → s < d.S) → n ≡ front (desk_of T P) d (sites && ltb p (length d.owners)) → n ≡ 0 → Known In d s p
    known_names sites site e z =
        let q = front_passed (desk_of T P) d (sites && ltb p (length d.owners)) (sym e ∙ z) in
        let n = and_both sites (ltb p (length d.owners)) q.1 in
        known q.0 (site n.0) (ltb-true p (length d.owners) n.1)

-- ---- with a byte for each receive cell
module _ {Q : Type 0} (P : Pool Q) where
  -- the same place in both tables
  abbrev pub Ready : Lent (List ℕ) Q → ℕ → ℕ → Type 0
  Ready d s p = Known byte_cells P (place (length d.owners) s p < length d.receive) d s p

  pub byte_stands : (d : Lent (List ℕ) Q) (s p : ℕ) → byte_cells.fits d.S (length d.owners) d.receive ≡ true → s < d.S → p < length d.owners
      → place (length d.owners) s p < length d.receive
  byte_stands d s p e ls lp = rw (eqb-true (length d.receive) (d.S * length d.owners) e) (place_inside d.S (length d.owners) s p ls lp)

  module _ (O : LawfulPool P) (d : Lent (List ℕ) Q) (s p : ℕ) where
    pub ready : lent_refusal (desk_of byte_cells P) d ≡ 0 → s < d.S → p < length d.owners → Ready d s p
    ready = known byte_cells P O d s p (byte_stands d s p)

    pub ready_names : (sites : Bool) {n : ℕ} → (sites ≡ true → s < d.S) → n ≡ front (desk_of byte_cells P) d (sites && ltb p (length d.owners)) → n ≡ 0 → Ready d s p
    ready_names sites site e z = known_names byte_cells P O d s p (byte_stands d s p) sites site e z
