-- What is known where 1, 2 and 3 are not given.
use Rattle.std.specs.Prelude.{ℕ, ◌≡◌, ◌*◌, ◌<◌, ◌≤◌, Bool, true, List, length}
use Rattle.model.specs.Parts.{ReceiveTable, Pool, LawfulCells, LawfulPool, desk_of}
use Rattle.model.specs.Tables.{Lent, lent, place}
use Rattle.model.specs.Calls.{front, open_refusal}
use Rattle.model.proofs.FrontLaws.{front_passed}
use Rattle.model.proofs.PartLaws.{fitting, good}
use Rattle.model.proofs.OpeningLaws.{opening_passed}
use Rattle.model.proofs.PlaceLaws.{place_inside}
use Rattle.model.proofs.ShapeLaws.{sized}
use Rattle.lent.specs.Desks.{Passed, Openable}

module _ {R Q : Type 0} (T : ReceiveTable R) (P : Pool Q) (O : LawfulPool P) (d : Lent R Q) (named : Bool) where
  pub passed : front (desk_of T P) d named ≡ 0 → Passed T P d named
  passed e =
      let q = front_passed (desk_of T P) d named e in
      let g = good T P d q.0 in
      let z = sized d.S (length d.owners) g.sizes in
      record {
        is_named = q.1;
        few_sites = z.few_sites;
        few_pointers = z.few_pointers;
        few_slots = O.few_slots d.S d.pool g.pool_fits;
        send_length = g.send_length;
        receive_fits = g.receive_fits;
        receive_bits = g.receive_bits;
        pool_fits = g.pool_fits;
        owners_below = g.owners_below;
        slots_good = g.slots_good;
      }

-- What is known where an opening is not turned down.
pub openable : {R Q : Type 0} (T : ReceiveTable R) (P : Pool Q) (d : Lent R Q) → open_refusal (desk_of T P) d ≡ 0 → Openable T P d
openable T P d e =
    let q = opening_passed (desk_of T P) d e in
    let f = fitting T P d q.0 in
    let z = sized d.S (length d.owners) f.sizes in
    record { few_sites = z.few_sites; few_pointers = z.few_pointers; receive_fits = f.receive_fits; pool_fits = f.pool_fits; owners_good = q.1 }

-- a site and a pointer in range name a counter, of the parts that are seen as this desk
module _ {R Q : Type 0} {T : ReceiveTable R} {P : Pool Q} {S : ℕ} {owners send : List ℕ} {r : R} {q : Q} {d : Lent R Q} {named : Bool} where
  pub in_send : lent S owners send r q ≡ d → Passed T P d named → (site p : ℕ) {at : ℕ} → site < S → p < length owners → at ≡ place (length owners) site p → at < length send
  in_send v k site p ls lp e =
      let long : length send ≡ S * length owners = (let h = k.send_length in rw (← v) at h) in
      rw (e, long) (place_inside S (length owners) site p ls lp)

  pub cell_small : lent S owners send r q ≡ d → Passed T P d named → LawfulCells T → (site p : ℕ) {cell : ℕ} → site < S → p < length owners → cell ≡ T.cell_in (length owners) r site p → cell ≤ 1
  cell_small v k C site p ls lp e =
      let fit : T.fits S (length owners) r ≡ true = (let h = k.receive_fits in rw (← v) at h) in
      let bits : T.bits S r ≡ true = (let h = k.receive_bits in rw (← v) at h) in
      rw e (C.cell_bit S (length owners) r fit bits site p ls lp)

  pub few_slots : lent S owners send r q ≡ d → Passed T P d named → P.slots q ≤ 1024
  few_slots v k = let h = k.few_slots in rw (← v) at h
