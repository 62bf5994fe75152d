-- Receive: what a slot that can be received holds, over any lawful layout; and what an accepted receive leaves, whatever the receive table and the pool; and with a byte for each receive cell.
use Prim.Native.Nat.{ℕ, zero, suc, ◌<◌}
use mathlib.Core.Path.{◌≡◌, refl, sym, ap, ◌∙◌}
use mathlib.Core.Bool.{true, false}
use mathlib.Core.List.{List}
use lib.Dec.{ltb}
use lib.ListN.{length, get_or, set}
use borrow.Author.Tests.{ltb-true}
use Rattle.model.specs.Answers.{Answer}
use Rattle.model.specs.declared.Posted.{Posted}
use Rattle.model.specs.Messages.{Effect}
use Rattle.model.specs.Refusals.{EmptySlot, ◌when◌, ◌or_else◌}
use Rattle.model.specs.Messages.{is_nothing, receiver, pointer_of, receive_refusal, counter_after, cell_after, reply, effect_unless, decided}
use Rattle.model.specs.Answers.{accepted, Outcome, unless}
use Rattle.model.specs.Layout.{Layout}
use Rattle.model.specs.Laws.{Inside, Laws}
use Rattle.model.specs.Calls.{lent_refusal, front, counter_there, receive_number, received, receive}
use Rattle.model.specs.Tables.{Lent, lent, place}
use Rattle.model.specs.Parts.{ReceiveTable, Pool, desk_of, LawfulPool}
use Rattle.model.specs.Flat.{byte_cells}
use Rattle.model.proofs.TestLaws.{when_not, or_else_none, or_else_assoc}
use Rattle.model.proofs.ReplyLaws.{inside_there}
use Rattle.model.proofs.FrontLaws.{front_passed}
use Rattle.model.proofs.ReadyLaws.{Known, known, Ready, byte_stands}

-- ---- what is decided: its number, and where that is 0 the rest
number_decided : (n : ℕ) (m : Posted) (owner cell counter : ℕ) → (effect_unless n m owner cell counter).number ≡ n
number_decided zero m owner cell counter = refl
number_decided (suc n) m owner cell counter = refl

accepted_decided : (n : ℕ) (m : Posted) (owner cell counter : ℕ) → n ≡ 0
    → effect_unless n m owner cell counter ≡ record { number = 0; counter = counter_after m counter; cell = cell_after m cell; posted = reply m cell owner }
accepted_decided n m owner cell counter z = rw z

pub decided_number : (m : Posted) (owner cell counter early : ℕ) {e : Effect} → e ≡ decided m owner cell counter early → e.number ≡ early or_else receive_refusal m counter
decided_number m owner cell counter early ee = ap (λ (x : Effect). x.number) ee ∙ number_decided (early or_else receive_refusal m counter) m owner cell counter

pub decided_rest : (m : Posted) (owner cell counter early : ℕ) {e : Effect} → e ≡ decided m owner cell counter early → e.number ≡ 0
    → e ≡ record { number = 0; counter = counter_after m counter; cell = cell_after m cell; posted = reply m cell owner }
decided_rest m owner cell counter early ee z =
    ee ∙ accepted_decided (early or_else receive_refusal m counter) m owner cell counter (sym (decided_number m owner cell counter early ee) ∙ z)

-- ---- over any layout: 1, 2, 3, 8; then what comes too early and the message's own
module _ {D : Type 0} (L : Layout D) (d : D) (slot : ℕ) where
  abbrev pub slot_number : ℕ
  slot_number = front L d (ltb slot (L.slots d)) or_else EmptySlot when L.empty d slot

  abbrev pub own_number : ℕ
  own_number = L.early d slot or_else receive_refusal (L.message d slot) (counter_there L d slot)

  pub receive_as : unless (slot_number or_else own_number) d (received L d slot) ≡ receive L d slot
  unfolding receive receive_number
  receive_as = ap (λ (n : ℕ). unless n d (received L d slot)) (or_else_assoc (front L d (ltb slot (L.slots d))) (EmptySlot when L.empty d slot) own_number)

  -- a slot of the pool that holds a message in range
  pub record Full : Type 0 where
    pub good : lent_refusal L d ≡ 0
    pub in_pool : slot < L.slots d
    pub used : is_nothing (L.message d slot) ≡ false
    pub inside : Inside (L.sites d) (L.pointers d) (L.message d slot)

  pub slot_full : Laws L → slot_number ≡ 0 → Full
  slot_full laws z =
      let q = or_else_none (front L d (ltb slot (L.slots d))) (EmptySlot when L.empty d slot) z in
      let f = front_passed L d (ltb slot (L.slots d)) q.0 in
      let l = ltb-true slot (L.slots d) f.1 in
      record {
        good = f.0;
        in_pool = l;
        used = sym (laws.empties d f.0 slot l) ∙ when_not 7 (L.empty d slot) q.1;
        inside = laws.inside d f.0 slot l;
      }

-- ---- of the code's message, receiver and pointer, whatever the receive table
module _ {R Q : Type 0} (T : ReceiveTable R) (P : Pool Q) (d : Lent R Q) (slot : ℕ) where
  abbrev desk : Layout (Lent R Q)
  desk = desk_of T P

  -- the receiver and the pointer name a counter and a cell
  pub known_message : LawfulPool P → Full desk d slot → {m : Posted} {b p : ℕ} {In : Type 0} → (T.fits d.S (length d.owners) d.receive ≡ true → b < d.S → p < length d.owners → In)
      → m ≡ P.message d.pool slot → b ≡ receiver m → p ≡ pointer_of m → Known T P In d b p
  known_message O f {m} {b} {p} stands em eb ep =
      let n = inside_there d.S (length d.owners) (P.message d.pool slot) f.used f.inside in
      known T P O d b p stands f.good (rw (eb, em) n.0) (rw (ep, em) n.1)

  -- the desk, of the code's place too
  module _ {m : Posted} {b p at : ℕ} (em : m ≡ P.message d.pool slot) (eb : b ≡ receiver m) (ep : p ≡ pointer_of m) (ea : at ≡ place (length d.owners) b p) where
    site_there : b ≡ receiver (P.message d.pool slot)
    site_there = eb ∙ ap receiver em

    pointer_there : p ≡ pointer_of (P.message d.pool slot)
    pointer_there = ep ∙ ap pointer_of em

    there : at ≡ place (length d.owners) (receiver (P.message d.pool slot)) (pointer_of (P.message d.pool slot))
    there = ea ∙ (λ w. place (length d.owners) (site_there w) (pointer_there w))

    -- the number of what is decided, which is the same for every cell
    pub own_by : (cell : ℕ) {h : ℕ} {e : Effect} → h ≡ P.early d.S d.pool slot → e ≡ decided m (get_or d.owners p 0) cell (get_or d.send at 0) h → e.number ≡ own_number desk d slot
    own_by cell {h} eh ee =
        decided_number m (get_or d.owners p 0) cell (get_or d.send at 0) h ee
        ∙ (λ w. eh w or_else receive_refusal (em w) (get_or d.send (there w) 0))

    -- what an accepted receive leaves, of the code's cell and receive table
    pub received_by : (h : ℕ) {cell : ℕ} {e : Effect} {r : Answer} {later : R} {q : Q} → cell ≡ T.cell_in (length d.owners) d.receive b p
        → e ≡ decided m (get_or d.owners p 0) cell (get_or d.send at 0) h → e.number ≡ 0
        → r ≡ accepted slot e.posted → later ≡ T.set_in (length d.owners) d.receive b p e.cell → q ≡ P.post d.S (P.handled d.S d.pool slot) slot e.posted
        → record { answer = r; desk = lent d.S d.owners (set d.send at e.counter) later q } ≡ received desk d slot
    unfolding received
    received_by h {cell} {e} {r} {later} {q} ec ee z er el eq =
        (λ w. record { answer = er w; desk = lent d.S d.owners (set d.send at e.counter) (el w) (eq w) })
        ∙ ap (λ (x : Effect). left at b p x) (decided_rest m (get_or d.owners p 0) cell (get_or d.send at 0) h ee z)
        ∙ (λ w. left (there w) (site_there w) (pointer_there w) (effect (em w) (get_or d.owners (pointer_there w) 0) (cell_there_lem w) (get_or d.send (there w) 0)))
      where
        left : ℕ → ℕ → ℕ → Effect → Outcome (Lent R Q)
        left i b p x = record {
          answer = accepted slot x.posted;
          desk =
              lent d.S d.owners (set d.send i x.counter) (T.set_in (length d.owners) d.receive b p x.cell) (P.post d.S (P.handled d.S d.pool slot) slot x.posted);
        }

        effect : Posted → ℕ → ℕ → ℕ → Effect
        effect m owner cell counter = record { number = 0; counter = counter_after m counter; cell = cell_after m cell; posted = reply m cell owner }

        cell_there_lem : cell ≡ T.cell_in (length d.owners) d.receive (receiver (P.message d.pool slot)) (pointer_of (P.message d.pool slot))
        cell_there_lem = ec ∙ (λ w. T.cell_in (length d.owners) d.receive (site_there w) (pointer_there w))

-- ---- with a byte for each receive cell, at the counter's place
module _ {Q : Type 0} (P : Pool Q) (d : Lent (List ℕ) Q) (slot : ℕ) where
  pub ready_message : LawfulPool P → Full (desk_of byte_cells P) d slot → {m : Posted} {b p : ℕ} → m ≡ P.message d.pool slot → b ≡ receiver m → p ≡ pointer_of m → Ready P d b p
  ready_message O f {m} {b} {p} em eb ep = known_message byte_cells P d slot O f (byte_stands P d b p) em eb ep

  module _ {m : Posted} {b p at : ℕ} (em : m ≡ P.message d.pool slot) (eb : b ≡ receiver m) (ep : p ≡ pointer_of m) (ea : at ≡ place (length d.owners) b p) where
    pub own_as : {h : ℕ} {e : Effect} → h ≡ P.early d.S d.pool slot
        → e ≡ decided m (get_or d.owners p 0) (get_or d.receive at 0) (get_or d.send at 0) h → e.number ≡ own_number (desk_of byte_cells P) d slot
    own_as eh ee = own_by byte_cells P d slot em eb ep ea (get_or d.receive at 0) eh ee

    pub received_as : (h : ℕ) {e : Effect} {r : Answer} {q : Q} → e ≡ decided m (get_or d.owners p 0) (get_or d.receive at 0) (get_or d.send at 0) h → e.number ≡ 0
        → r ≡ accepted slot e.posted → q ≡ P.post d.S (P.handled d.S d.pool slot) slot e.posted
        → record { answer = r; desk = lent d.S d.owners (set d.send at e.counter) (set d.receive at e.cell) q } ≡ received (desk_of byte_cells P) d slot
    received_as h {e} ee z er eq =
        received_by byte_cells P d slot em eb ep ea h (ap (λ (i : ℕ). get_or d.receive i 0) ea) ee z er (ap (λ (i : ℕ). set d.receive i e.cell) ea) eq
