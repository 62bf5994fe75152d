-- Make copy, delete and ask: what their own tests leave; and what an accepted call leaves, whatever the receive table and the pool; and with a byte for each receive cell.
use Prim.Native.Nat.{ℕ, ◌+◌, ◌<◌}
use mathlib.Core.Path.{◌≡◌, ap, ◌∙◌}
use mathlib.Core.Bool.{◌&&◌, not}
use mathlib.Core.List.{List}
use lib.Dec.{eqb, leb}
use lib.ListN.{length, get_or, set}
use borrow.Author.Tests.{eqb-false, leb-false}
use Rattle.model.specs.Answers.{Answer}
use Rattle.model.specs.Tables.{Empties}
use Rattle.model.specs.declared.Posted.{Posted}
use Rattle.model.specs.declared.Posted.TheVariants.{Copy, Dec, Nothing}
use Rattle.model.specs.Refusals.{SameSite, NotHeld, CounterFull, PoolFull, IsOwner, StillCounted, ◌when◌, ◌or_else◌}
use Rattle.model.specs.Answers.{accepted, accepted_telling}
use Rattle.model.specs.Layout.{Layout}
use Rattle.model.specs.Calls.{copy_refusal, delete_refusal, lowest_empty, empty_slots, copied, deleted, asked}
use Rattle.model.specs.Tables.{Lent, lent, place}
use Rattle.model.specs.Parts.{ReceiveTable, Pool, desk_of}
use Rattle.model.specs.Flat.{byte_cells}
use Rattle.model.proofs.TestLaws.{when_not, or_else_none}

-- ---- the tests
-- an order of four that gives 0: none of them gives a number
four_none : (k l m n : ℕ) → k or_else l or_else m or_else n ≡ 0 → (k ≡ 0) × (l ≡ 0) × (m ≡ 0) × (n ≡ 0)
four_none k l m n e =
    let e1 = or_else_none k (l or_else m or_else n) e in
    let e2 = or_else_none l (m or_else n) e1.1 in
    let e3 = or_else_none m n e2.1 in
    (e1.0, e2.0, e3.0, e3.1)

-- a copy that is not turned down: the counter can rise, and a slot is empty
pub copy_clear : (from to owner cell counter slot slots : ℕ) → copy_refusal from to owner cell counter slot slots ≡ 0 → (counter ≡ 65535 → ⊥) × (slot < slots)
unfolding copy_refusal
copy_clear from to owner cell counter slot slots e =
    let t = four_none (SameSite when eqb from to) (NotHeld when (not (eqb from owner) && eqb cell 0)) (CounterFull when eqb counter 65535) (PoolFull when leb slots slot) e in
    (eqb-false counter 65535 (when_not 5 _ t.2), leb-false slots slot (when_not 6 _ t.3))

-- a delete that is not turned down: a slot is empty
pub delete_clear : (site owner cell counter slot slots : ℕ) → delete_refusal site owner cell counter slot slots ≡ 0 → slot < slots
unfolding delete_refusal
delete_clear site owner cell counter slot slots e =
    let t = four_none (IsOwner when eqb site owner) (NotHeld when eqb cell 0) (StillCounted when not (eqb counter 0)) (PoolFull when leb slots slot) e in
    leb-false slots slot (when_not 6 _ t.3)

-- ---- the desk, of the code's place and what its search found, whatever the receive table
module _ {R Q : Type 0} (T : ReceiveTable R) (P : Pool Q) where
  abbrev desk : Layout (Lent R Q)
  desk = desk_of T P

  module _ (d : Lent R Q) (s p : ℕ) {at : ℕ} {found : Empties} (ea : at ≡ place (length d.owners) s p) (ef : found ≡ record { slot = lowest_empty desk d; count = empty_slots desk d }) where
    -- what a test is given, of the code's cell
    pub read_by : {cell : ℕ} → cell ≡ desk.cell d s p → (f : ℕ → ℕ → ℕ → ℕ) {k : ℕ} → k ≡ f cell (get_or d.send at 0) found.slot → k ≡ f (desk.cell d s p) (desk.counter d s p) (lowest_empty desk d)
    read_by ec f e = e ∙ (λ w. f (ec w) (get_or d.send (ea w) 0) (ef w).slot)

    -- what a post of m tells, and the pool that it leaves
    told : (m : Posted) {r : Answer} → r ≡ accepted_telling found.count found.slot m → r ≡ accepted_telling (empty_slots desk d) (lowest_empty desk d) m
    told m er = er ∙ ap (λ (f : Empties). accepted_telling f.count f.slot m) ef

    posted : (m : Posted) {q : Q} → q ≡ P.post d.S d.pool found.slot m → q ≡ P.post d.S d.pool (lowest_empty desk d) m
    posted m eq = eq ∙ ap (λ (f : Empties). P.post d.S d.pool f.slot m) ef

    -- what a copy leaves
    pub copied_by : (to : ℕ) {r : Answer} {q : Q} → r ≡ accepted_telling found.count found.slot (Copy s to p) → q ≡ P.post d.S d.pool found.slot (Copy s to p)
        → record { answer = r; desk = lent d.S d.owners (set d.send at (get_or d.send at 0 + 1)) d.receive q } ≡ copied desk d s to p
    unfolding copied
    copied_by to er eq = λ w. record {
      answer = told (Copy s to p) er w;
      desk = lent d.S d.owners (set d.send (ea w) (get_or d.send (ea w) 0 + 1)) d.receive (posted (Copy s to p) eq w);
    }

    -- what a delete leaves, of the code's receive table
    pub deleted_by : {r : Answer} {later : R} {q : Q} → later ≡ T.set_in (length d.owners) d.receive s p 0
        → r ≡ accepted_telling found.count found.slot (Dec s (get_or d.owners p 0) p) → q ≡ P.post d.S d.pool found.slot (Dec s (get_or d.owners p 0) p)
        → record { answer = r; desk = lent d.S d.owners d.send later q } ≡ deleted desk d s p
    unfolding deleted
    deleted_by el er eq = λ w. record {
      answer = told (Dec s (get_or d.owners p 0) p) er w;
      desk = lent d.S d.owners d.send (el w) (posted (Dec s (get_or d.owners p 0) p) eq w);
    }

  -- what ask answers
  pub asked_by : (d : Lent R Q) (p : ℕ) {at : ℕ} {r : Answer} → at ≡ place (length d.owners) (get_or d.owners p 0) p
      → r ≡ accepted (1 when eqb (get_or d.send at 0) 0) Nothing → record { answer = r; desk = d } ≡ asked desk d p
  unfolding asked
  asked_by d p ea er = λ w. record { answer = (er ∙ ap (λ (i : ℕ). accepted (1 when eqb (get_or d.send i 0) 0) Nothing) ea) w; desk = d }

-- ---- with a byte for each receive cell, at the counter's place
module _ {Q : Type 0} (P : Pool Q) where
  module _ (d : Lent (List ℕ) Q) (s p : ℕ) {at : ℕ} {found : Empties} (ea : at ≡ place (length d.owners) s p) (ef : found ≡ record { slot = lowest_empty (desk_of byte_cells P) d; count = empty_slots (desk_of byte_cells P) d }) where
    pub read_as_lem : (f : ℕ → ℕ → ℕ → ℕ) {k : ℕ} → k ≡ f (get_or d.receive at 0) (get_or d.send at 0) found.slot
        → k ≡ f ((desk_of byte_cells P).cell d s p) ((desk_of byte_cells P).counter d s p) (lowest_empty (desk_of byte_cells P) d)
    read_as_lem f e = read_by byte_cells P d s p ea ef (ap (λ (i : ℕ). get_or d.receive i 0) ea) f e

    pub copied_as : (to : ℕ) {r : Answer} {q : Q} → r ≡ accepted_telling found.count found.slot (Copy s to p) → q ≡ P.post d.S d.pool found.slot (Copy s to p)
        → record { answer = r; desk = lent d.S d.owners (set d.send at (get_or d.send at 0 + 1)) d.receive q } ≡ copied (desk_of byte_cells P) d s to p
    copied_as to er eq = copied_by byte_cells P d s p ea ef to er eq

    pub deleted_as : {r : Answer} {q : Q} → r ≡ accepted_telling found.count found.slot (Dec s (get_or d.owners p 0) p) → q ≡ P.post d.S d.pool found.slot (Dec s (get_or d.owners p 0) p)
        → record { answer = r; desk = lent d.S d.owners d.send (set d.receive at 0) q } ≡ deleted (desk_of byte_cells P) d s p
    deleted_as er eq = deleted_by byte_cells P d s p ea ef (ap (λ (i : ℕ). set d.receive i 0) ea) er eq

  pub asked_as : (d : Lent (List ℕ) Q) (p : ℕ) {at : ℕ} {r : Answer} → at ≡ place (length d.owners) (get_or d.owners p 0) p
      → r ≡ accepted (1 when eqb (get_or d.send at 0) 0) Nothing → record { answer = r; desk = d } ≡ asked (desk_of byte_cells P) d p
  asked_as d p ea er = asked_by byte_cells P d p ea er
