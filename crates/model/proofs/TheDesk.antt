-- The three demands for the desk of document 01: the theorems over any lawful layout, at `flat`; those in words and of lines are document 01's alone.
use Prim.Native.Nat.{ℕ, ◌+◌, ◌-◌, ◌≤◌, ◌<◌}
use mathlib.Core.Path.{◌≡◌, refl, sym, ap, ◌∙◌}
use mathlib.Core.Logic.{◌≢◌, ◌⊎◌, ◌↔◌}
use mathlib.Core.Bool.{true}
use mathlib.Core.List.{List, [], ◌∷◌}
use lib.Dec.{eqb}
use lib.IntN.{pos}
use lib.ListN.{length, get_or, take, drop}
use Rattle.moreau.specs.StateSpace.{Msg, DEC, INC_DEC, ⟅◌⟆, initial}
use Rattle.moreau.specs.Transformers.{assign, MayCopy, MayReceive, MayDelete}
use Rattle.moreau.specs.Transitions.{PaperGuard, Reachable}
use Rattle.moreau.proofs.Reached.{standing_lasts, reachable_lasts}
use Rattle.model.specs.declared.Posted.TheVariants.{Copy, Dec as Decr, IncDec, Nothing}
use Rattle.model.specs.Answers.{Answer}
use Rattle.model.specs.declared.Call.{Call}
use Rattle.model.specs.declared.Call.TheVariants.{MakeCopy, Receive, Delete, Ask}
use Rattle.model.specs.Lines.{Read}
use Rattle.model.specs.Lines.{Said}
use Rattle.model.specs.Lines.{Line}
use Rattle.model.specs.Refusals.{Held, ◌when◌}
use Rattle.model.specs.Answers.{accepted, accepted_telling, refused}
use Rattle.model.specs.Calls.{held_refusal, lowest_empty, empty_slots, lent_refusal, open_desk, replied, step, counter_there, cell_there}
use Rattle.model.specs.Messages.{receiver, pointer_of, counter_after, cell_after}
use Rattle.model.specs.Laws.{with_slot, Reads}
use Rattle.model.specs.Survey.{controls, entered, entry_of, in_flight, share_plus, share_minus, share_of, shares_of_others, share, sheet_number, sheet}
use Rattle.model.specs.Tables.{Desk, searched}
use Rattle.model.specs.InWords.{Shaped, GoodTables}
use Rattle.model.specs.Flat.{flat}
use Rattle.model.specs.Lines.{digits_of, bytes_of, line_of, write_call, read_line, refusal_in, lines_of, next_at}
use Rattle.model.specs.Transcript.{answer_line, opening, obeyed, desk_before, answer_line_at, transcript}
use Rattle.model.specs.Fields.{FieldsFit}
use Rattle.model.specs.Meaning.{meant, meaning}
use Rattle.model.specs.Demands.{FirstOf, ◌among◌, listed, NoSlotEmpty, open_rows, lent_rows, copy_rows_when, delete_rows_when, held_rows, rows_of, TellsEarly, share_rows, sheet_rows, LowestEmpty, names, MakesCopy, Receives, Deletes, Reached, Quiet, look}
use Rattle.model.specs.LineRows.{line_rows, opening_line_rows, AsWritten}
use Rattle.model.proofs.FlatLaws.{flat_laws}
use Rattle.model.proofs.InWords as InWords
use Rattle.model.proofs.OpeningLaws as OpeningLaws
use Rattle.model.proofs.Exactly as exactly
use Rattle.model.proofs.LinesExactly as LinesExactly
use Rattle.model.proofs.EdgeLaws as EdgeLaws
use Rattle.model.proofs.Demand1 as Demand1
use Rattle.model.proofs.Demand2 as Demand2
use Rattle.model.proofs.Placed as placed
use Rattle.model.proofs.Converse as converse
use Rattle.model.proofs.EmptySlots as EmptySlots
use Rattle.model.proofs.RoundTrip as RoundTrip
use Rattle.model.proofs.WrittenLine as WrittenLine
use Rattle.model.proofs.Demand3 as Demand3
use Rattle.model.proofs.TheProgram as TheProgram
use Rattle.model.proofs.Shares as shares
use Rattle.model.proofs.Lemma4 as Lemma4
use Rattle.model.proofs.SheetSums as SheetSums
use Rattle.model.proofs.ReachedLaws.{Means, Stands}
use Rattle.model.proofs.ReachedLaws as ReachedLaws

-- its test of a message that comes too early is Held
held : (d : Desk) (slot : ℕ) → flat.early d slot ≡ held_refusal (flat.slots d) (flat.message d) (flat.message d slot)
held d slot = refl

tells : TellsEarly flat (held_rows flat)
tells = exactly.held_tells flat held

-- on every reached desk the machine's invariant stands
stands : {d : Desk} → Reached flat d → Stands flat d
stands = ReachedLaws.reached_means flat flat_laws standing_lasts (λ d r s slot. ReachedLaws.guarded_weakly flat flat_laws d slot (ReachedLaws.guarded_by_held flat held d slot))

-- ---- demand 1
-- A refused call leaves all lent memory as it was, with value 0, no count and no message.
pub refused_leaves_all : (d : Desk) (c : Call) → (step flat d c).answer.number ≢ 0 → step flat d c ≡ record { answer = refused (step flat d c).answer.number; desk = d }
refused_leaves_all = Demand1.refused_leaves_all flat

-- Its number is one of those that document 01 lists for the call.
pub refused_by_listed : (d : Desk) (c : Call) → (step flat d c).answer.number ≢ 0 → (step flat d c).answer.number among listed c
refused_by_listed = Demand1.refused_by_listed flat (held_rows flat) (Held ∷ []) tells (Demand1.only_held flat)

-- The same of an opening.
pub refused_opening_by_listed : (d : Desk) → (open_desk flat d).answer.number ≢ 0 → (open_desk flat d).answer.number among (1 ∷ 2 ∷ [])
refused_opening_by_listed = Demand1.refused_opening_by_listed flat

pub refused_opening_leaves_all : (d : Desk) → (open_desk flat d).answer.number ≢ 0 → open_desk flat d ≡ record { answer = refused (open_desk flat d).answer.number; desk = d }
refused_opening_leaves_all = Demand1.refused_opening_leaves_all flat

-- ---- demand 2
-- 1 and 2 in words: S, G, the lengths and the slot count; the owners, the receive bytes and the slots.
pub shape_in_words : (d : Desk) → (flat.shaped d ≡ true) ↔ Shaped 5 d.S (length d.owners) (length d.send) (length d.receive) (length d.pool)
shape_in_words = InWords.shape_in_words

pub sound_in_words : (d : Desk) → (flat.sound d ≡ true) ↔ GoodTables d
sound_in_words = InWords.sound_in_words

pub owned_in_words : (d : Desk) → (flat.owned d ≡ true) ↔ ((p : ℕ) → p < length d.owners → get_or d.owners p 0 < d.S)
owned_in_words = InWords.owned_in_words

-- A number is given exactly where the table of the call says so.
pub call_exactly : (d : Desk) (c : Call) → FirstOf (rows_of flat (held_rows flat) d c) (step flat d c).answer.number
call_exactly = exactly.call_exactly flat (held_rows flat) tells

pub open_exactly : (d : Desk) → FirstOf (open_rows flat d) (open_desk flat d).answer.number
open_exactly = exactly.open_exactly flat

pub share_exactly : (d : Desk) (site p : ℕ) → FirstOf (lent_rows flat d (share_rows flat d site p)) (share flat d site p).number
share_exactly = exactly.share_exactly flat

pub sheet_exactly : (d : Desk) (p : ℕ) → FirstOf (lent_rows flat d (sheet_rows flat d p)) (sheet_number flat d p)
sheet_exactly = exactly.sheet_exactly flat

-- So are 14, 15 and 16 of a line and 14, 1 and 2 of an opening line; and the answer line of 17 is all that is written exactly where the input is above 8,192 bytes.
pub line_exactly : (line : List ℕ) → FirstOf (line_rows line) (refusal_in (read_line line))
line_exactly = LinesExactly.line_exactly

pub opening_line_exactly : (line : List ℕ) → FirstOf (opening_line_rows line) (opening line).answer.number
opening_line_exactly = LinesExactly.opening_line_exactly

pub opening_line_reads : (line : List ℕ) → (opening line).answer.number ≡ 0 → AsWritten line (opening line).desk
opening_line_reads = LinesExactly.opening_line_reads

pub too_long_exactly : (input : List ℕ) → (transcript input ≡ answer_line (refused 17)) ↔ (8192 < length input)
too_long_exactly = LinesExactly.too_long_exactly

-- Document 01's other edges, on every desk that passes 1 and 2: S = 1, every make copy gives 3 or 4; G = 0, 3; no slots, 7 on a make copy of which no earlier reason holds.
pub one_site_no_copy : (d : Desk) → lent_refusal flat d ≡ 0 → (from to p : ℕ) → d.S ≡ 1
    → ((step flat d (MakeCopy from to p)).answer.number ≡ 3) ⊎ ((step flat d (MakeCopy from to p)).answer.number ≡ 4)
one_site_no_copy = EdgeLaws.one_site_no_copy flat

pub no_pointer_no_copy : (d : Desk) → lent_refusal flat d ≡ 0 → (from to p : ℕ) → length d.owners ≡ 0 → (step flat d (MakeCopy from to p)).answer.number ≡ 3
no_pointer_no_copy = EdgeLaws.no_pointer_no_copy flat

pub no_slot_no_copy : (d : Desk) → lent_refusal flat d ≡ 0 → (from to p : ℕ) → flat.slots d ≡ 0 → from < d.S → to < d.S → p < flat.pointers d → from ≢ to
    → ((from ≢ flat.owner d p) × (flat.cell d from p ≡ 0) → ⊥) → flat.counter d from p ≢ 65535 → (step flat d (MakeCopy from to p)).answer.number ≡ 7
no_slot_no_copy = EdgeLaws.no_slot_no_copy flat

-- An accepted make copy is MAKE_COPY, an accepted receive is RECEIVE under the published guard, an accepted delete is DELETE; ask changes nothing.
pub copy_transition : (d : Desk) (from to p : ℕ) → (step flat d (MakeCopy from to p)).answer.number ≡ 0 → MakesCopy flat d (step flat d (MakeCopy from to p)).desk from to p
copy_transition = Demand2.copy_transition flat flat_laws

pub receive_transition : (d : Desk) (slot : ℕ) → (step flat d (Receive slot)).answer.number ≡ 0 → Receives flat PaperGuard d (step flat d (Receive slot)).desk slot
receive_transition = Demand2.receive_transition_held flat flat_laws held

pub delete_transition : (d : Desk) (site p : ℕ) → (step flat d (Delete site p)).answer.number ≡ 0 → Deletes flat d (step flat d (Delete site p)).desk site p
delete_transition = Demand2.delete_transition flat flat_laws

pub ask_changes_nothing : (d : Desk) (site p : ℕ) → (step flat d (Ask site p)).desk ≡ d
unfolding step
ask_changes_nothing = Demand1.ask_changes_nothing flat

-- An accepted opening: its answer; what it leaves in every counter, every cell and every slot; it makes the initial configuration of the machine.
pub opening_answer : (d : Desk) → (open_desk flat d).answer.number ≡ 0 → (open_desk flat d).answer ≡ accepted 0 Nothing
opening_answer = OpeningLaws.opening_answer flat

pub opening_leaves : (d : Desk) → (open_desk flat d).answer.number ≡ 0
    → Reads flat d (open_desk flat d).desk (λ s p. 0) (λ s p. 1 when eqb s (flat.owner d p)) (λ i. Nothing)
opening_leaves = OpeningLaws.opening_leaves flat flat_laws

pub opening_means : (d : Desk) → (open_desk flat d).answer.number ≡ 0 → meaning flat (open_desk flat d).desk ≡ initial d.S (flat.pointers d) (flat.owner d)
opening_means = OpeningLaws.opening_means flat flat_laws

-- The answer of an accepted call: its value and its message, on any lent tables.
pub copy_answer : (d : Desk) (from to p : ℕ) → (step flat d (MakeCopy from to p)).answer.number ≡ 0 → (step flat d (MakeCopy from to p)).answer ≡ accepted_telling (empty_slots flat d) (lowest_empty flat d) (Copy from to p)
copy_answer = Demand2.copy_answer flat

pub receive_answer : (d : Desk) (slot : ℕ) → (step flat d (Receive slot)).answer.number ≡ 0 → (step flat d (Receive slot)).answer ≡ accepted slot (replied flat d slot)
receive_answer = Demand2.receive_answer flat

pub delete_answer : (d : Desk) (site p : ℕ) → (step flat d (Delete site p)).answer.number ≡ 0 → (step flat d (Delete site p)).answer ≡ accepted_telling (empty_slots flat d) (lowest_empty flat d) (Decr site (flat.owner d p) p)
delete_answer = Demand2.delete_answer flat

pub ask_answer : (d : Desk) (site p : ℕ) → (step flat d (Ask site p)).answer.number ≡ 0
    → (step flat d (Ask site p)).answer ≡ accepted (1 when eqb (flat.counter d (flat.owner d p) p) 0) Nothing
ask_answer = Demand2.ask_answer flat

-- What an accepted call leaves in every counter, every cell and every slot.
pub copy_leaves : (d : Desk) (from to p : ℕ) → (step flat d (MakeCopy from to p)).answer.number ≡ 0
    → Reads flat d (step flat d (MakeCopy from to p)).desk
    (assign (flat.counter d) from p (flat.counter d from p + 1)) (flat.cell d) (with_slot (flat.message d) (lowest_empty flat d) (Copy from to p))
copy_leaves = placed.copy_leaves flat flat_laws

pub delete_leaves : (d : Desk) (site p : ℕ) → (step flat d (Delete site p)).answer.number ≡ 0
    → Reads flat d (step flat d (Delete site p)).desk
    (flat.counter d) (assign (flat.cell d) site p 0) (with_slot (flat.message d) (lowest_empty flat d) (Decr site (flat.owner d p) p))
delete_leaves = placed.delete_leaves flat flat_laws

pub receive_leaves : (d : Desk) (slot : ℕ) → (step flat d (Receive slot)).answer.number ≡ 0 → let m = flat.message d slot in
    Reads flat d (step flat d (Receive slot)).desk
    (assign (flat.counter d) (receiver m) (pointer_of m) (counter_after m (counter_there flat d slot)))
    (assign (flat.cell d) (receiver m) (pointer_of m) (cell_after m (cell_there flat d slot)))
    (with_slot (flat.message d) slot (replied flat d slot))
receive_leaves = placed.receive_leaves flat flat_laws

-- The slot that make copy and delete name is the lowest empty one; what a call posts stands in its slot.
pub copy_takes_lowest : (d : Desk) (from to p : ℕ) → (step flat d (MakeCopy from to p)).answer.number ≡ 0 → LowestEmpty flat d (step flat d (MakeCopy from to p)).answer.value
copy_takes_lowest = placed.copy_takes_lowest flat flat_laws

pub delete_takes_lowest : (d : Desk) (site p : ℕ) → (step flat d (Delete site p)).answer.number ≡ 0 → LowestEmpty flat d (step flat d (Delete site p)).answer.value
delete_takes_lowest = placed.delete_takes_lowest flat flat_laws

pub copy_posts : (d : Desk) (from to p : ℕ) → (step flat d (MakeCopy from to p)).answer.number ≡ 0
    → flat.message (step flat d (MakeCopy from to p)).desk (lowest_empty flat d) ≡ Copy from to p
copy_posts = placed.copy_posts flat flat_laws

pub delete_posts : (d : Desk) (site p : ℕ) → (step flat d (Delete site p)).answer.number ≡ 0
    → flat.message (step flat d (Delete site p)).desk (lowest_empty flat d) ≡ Decr site (flat.owner d p) p
delete_posts = placed.delete_posts flat flat_laws

pub receive_posts : (d : Desk) (slot : ℕ) → (step flat d (Receive slot)).answer.number ≡ 0 → flat.message (step flat d (Receive slot)).desk slot ≡ replied flat d slot
receive_posts = placed.receive_posts flat flat_laws

-- What a received message posts, by its kind, the receiver's cell and the owner.
pub copy_to_holder : (d : Desk) (slot : ℕ) {a b p : ℕ} → flat.message d slot ≡ Copy a b p → flat.cell d b p ≡ 1 → replied flat d slot ≡ Decr b a p
copy_to_holder = placed.copy_to_holder flat

pub copy_from_owner : (d : Desk) (slot : ℕ) {a b p : ℕ} → flat.message d slot ≡ Copy a b p → flat.cell d b p ≢ 1 → a ≡ flat.owner d p → replied flat d slot ≡ Nothing
copy_from_owner = placed.copy_from_owner flat

pub copy_from_other : (d : Desk) (slot : ℕ) {a b p : ℕ} → flat.message d slot ≡ Copy a b p → flat.cell d b p ≢ 1 → a ≢ flat.owner d p
    → replied flat d slot ≡ IncDec b (flat.owner d p) a p
copy_from_other = placed.copy_from_other flat

pub inc_dec_posts : (d : Desk) (slot : ℕ) {a b c p : ℕ} → flat.message d slot ≡ IncDec a b c p → replied flat d slot ≡ Decr b c p
inc_dec_posts = placed.inc_dec_posts flat

pub dec_posts : (d : Desk) (slot : ℕ) {a b p : ℕ} → flat.message d slot ≡ Decr a b p → replied flat d slot ≡ Nothing
dec_posts = placed.dec_posts flat

-- Where the machine permits a transition, the names are in range, a counter to be raised stands below 65,535, one to be lowered above 0, and a slot is empty where one is needed, the call is accepted.
pub copy_permitted : (d : Desk) (from to p slot : ℕ) → lent_refusal flat d ≡ 0 → from < d.S → to < d.S → p < flat.pointers d → MayCopy from to p (meaning flat d)
    → flat.counter d from p < 65535 → slot < flat.slots d → flat.empty d slot ≡ true → (step flat d (MakeCopy from to p)).answer.number ≡ 0
copy_permitted = converse.copy_permitted flat flat_laws

pub receive_permitted : (d : Desk) (slot : ℕ) (m : Msg) → lent_refusal flat d ≡ 0 → slot < flat.slots d → meant (flat.message d slot) ≡ ⟅ m ⟆ → MayReceive m
    → ((a b p : ℕ) → m ≡ DEC a b p → PaperGuard (meaning flat d) a b p)
    → ((a b p : ℕ) → m ≡ DEC a b p → 0 < flat.counter d b p) → ((a b p c : ℕ) → m ≡ INC_DEC a b p c → flat.counter d b p < 65535)
    → (step flat d (Receive slot)).answer.number ≡ 0
receive_permitted = converse.receive_permitted_held flat flat_laws held

pub delete_permitted : (d : Desk) (site p slot : ℕ) → lent_refusal flat d ≡ 0 → site < d.S → p < flat.pointers d → MayDelete site p (meaning flat d)
    → slot < flat.slots d → flat.empty d slot ≡ true → (step flat d (Delete site p)).answer.number ≡ 0
delete_permitted = converse.delete_permitted flat flat_laws

-- A call that is written as a line reads back as that call, and the reader stands past it; a line that is read is written back in the same characters.
pub read_of_written : (call : Call) → FieldsFit call → read_line (digits_of (bytes_of call)) ≡ Said call
read_of_written = RoundTrip.read_of_written

pub next_of_written : (text : List ℕ) (call : Call) → FieldsFit call → 9 ≤ length text → next_at (write_call text call).desk 0 ≡ Line (Said call) 9
next_of_written = RoundTrip.next_of_written

pub written_of_read : (line : List ℕ) (call : Call) → read_line line ≡ Said call → digits_of (bytes_of call) ≡ line
written_of_read = RoundTrip.written_of_read

pub fits_of_read : (line : List ℕ) (call : Call) → read_line line ≡ Said call → FieldsFit call
fits_of_read = RoundTrip.fits_of_read

-- A text that is too short gives 1 and is kept, whatever the call; one that is long enough starts with the line, and the rest stays.
pub short_text_kept : (text : List ℕ) (call : Call) → length text < 9 → write_call text call ≡ record { answer = refused 1; desk = text }
short_text_kept = WrittenLine.short_text_kept

pub long_text_written : (text : List ℕ) (call : Call) → 9 ≤ length text
    → ((write_call text call).answer ≡ accepted 0 Nothing) × (take 9 (write_call text call).desk ≡ line_of call) × (drop 9 (write_call text call).desk ≡ drop 9 text)
long_text_written = WrittenLine.long_text_written

-- ---- demand 3
-- A reached desk passes 1 and 2, and means a configuration that the published machine reaches.
pub reached_is_reachable : {d : Desk} → Reached flat d → Means flat (Reachable PaperGuard) d
reached_is_reachable = ReachedLaws.reached_means flat flat_laws (reachable_lasts PaperGuard) (λ d r s. ReachedLaws.guarded_by_held flat held d)

-- From an opened desk, after any calls in any order: the owner's counter is 0 if and only if no other site holds the pointer and no message in flight names it.
pub counter_zero_iff_quiet : {d : Desk} → Reached flat d → (p : ℕ) → p < flat.pointers d → (flat.counter d (flat.owner d p) p ≡ 0) ↔ Quiet flat d p
counter_zero_iff_quiet r = Demand3.counter_zero_iff_quiet flat flat_laws (stands r)

-- Ask answers 1 exactly when the pointer is quiet.
pub ask_says_quiet : {d : Desk} → Reached flat d → (p : ℕ) → p < flat.pointers d → ((step flat d (Ask (flat.owner d p) p)).answer ≡ accepted 1 Nothing) ↔ Quiet flat d p
ask_says_quiet r = Demand3.ask_says_quiet flat flat_laws (stands r)

-- Ask always tells what the look over every site and every message finds; the look is computed from cells and slots, and finds none exactly where the pointer is quiet, on any lent tables.
pub ask_tells_the_look : {d : Desk} → Reached flat d → (p : ℕ) → p < flat.pointers d → (step flat d (Ask (flat.owner d p) p)).answer ≡ accepted (1 when look flat d p) Nothing
ask_tells_the_look r = Demand3.ask_tells_the_look flat flat_laws (stands r)

pub look_iff_quiet : (d : Desk) (p : ℕ) → (look flat d p ≡ true) ↔ Quiet flat d p
look_iff_quiet = Demand3.look_iff_quiet flat

pub accepted_ask_tells_the_look : {d : Desk} → Reached flat d → (site p : ℕ) → (step flat d (Ask site p)).answer.number ≡ 0
    → (step flat d (Ask site p)).answer ≡ accepted (1 when look flat d p) Nothing
accepted_ask_tells_the_look r = Demand3.accepted_ask_tells_the_look flat flat_laws (stands r)

-- The program `desk`, for an input of at most 8,192 bytes whose first line is an accepted opening: before every line its desk is a reached one; answer line k + 1, the 17 characters from (k + 1) x 17 on,
-- is that of line k; so where line k is an accepted ask, it tells the look over that desk.
pub desk_before_is_reached : (input opens : List ℕ) (lines : List (List ℕ)) → length input ≤ 8192 → lines_of input ≡ opens ∷ lines → (opening opens).answer.number ≡ 0
    → (k : ℕ) → Reached flat (desk_before (opening opens).desk lines k)
desk_before_is_reached = TheProgram.desk_before_is_reached

pub answer_line_of_line : (input opens : List ℕ) (lines : List (List ℕ)) → length input ≤ 8192 → lines_of input ≡ opens ∷ lines → (opening opens).answer.number ≡ 0
    → (k : ℕ) → k < length lines
    → answer_line_at (transcript input) (k + 1) ≡ answer_line (obeyed (desk_before (opening opens).desk lines k) (read_line (get_or lines k []))).answer
answer_line_of_line = TheProgram.answer_line_of_line

pub ask_line_tells_the_look : (input opens : List ℕ) (lines : List (List ℕ)) → length input ≤ 8192 → lines_of input ≡ opens ∷ lines → (opening opens).answer.number ≡ 0
    → (k : ℕ) → k < length lines → let d = desk_before (opening opens).desk lines k in
    (site p : ℕ) → read_line (get_or lines k []) ≡ Said (Ask site p) → (step flat d (Ask site p)).answer.number ≡ 0
    → answer_line_at (transcript input) (k + 1) ≡ answer_line (accepted (1 when look flat d p) Nothing)
ask_line_tells_the_look input opens lines few read accepts k l site p said passed =
    let d = desk_before (opening opens).desk lines k in
    answer_line_of_line input opens lines few read accepts k l
    ∙ ap (λ (r : Read). answer_line (obeyed d r).answer) said
    ∙ ap answer_line (accepted_ask_tells_the_look (desk_before_is_reached input opens lines few read accepts k) site p passed)

-- In characters: where line k writes 04, a site, a pointer and 00, and the answer line at (k + 1) x 17 starts with the digits 00.
pub ask_characters_tell_the_look : (input opens : List ℕ) (lines : List (List ℕ)) → length input ≤ 8192 → lines_of input ≡ opens ∷ lines → (opening opens).answer.number ≡ 0
    → (k : ℕ) → k < length lines → (site p : ℕ) → site < 256 → p < 256 → get_or lines k [] ≡ digits_of (4 ∷ site ∷ p ∷ 0 ∷ [])
    → take 2 (answer_line_at (transcript input) (k + 1)) ≡ digits_of (0 ∷ [])
    → answer_line_at (transcript input) (k + 1) ≡ answer_line (accepted (1 when look flat (desk_before (opening opens).desk lines k) p) Nothing)
ask_characters_tell_the_look input opens lines few read accepts k l site p ls lp written starts =
    let d = desk_before (opening opens).desk lines k in
    let said : read_line (get_or lines k []) ≡ Said (Ask site p) = ap read_line written ∙ RoundTrip.read_of_written (Ask site p) (ls, lp) in
    let answered : answer_line_at (transcript input) (k + 1) ≡ answer_line (step flat d (Ask site p)).answer =
    answer_line_of_line input opens lines few read accepts k l ∙ ap (λ (r : Read). answer_line (obeyed d r).answer) said in
    ask_line_tells_the_look input opens lines few read accepts k l site p said
    (TheProgram.accepted_digits (step flat d (Ask site p)).answer (ap (take 2) (sym answered) ∙ starts))

-- The incident: while any message names a pointer, ask at its owner answers 0.
pub ask_waits_for_messages : {d : Desk} → Reached flat d → (p slot : ℕ) → p < flat.pointers d → slot < flat.slots d → names p (flat.message d slot) ≡ true
    → (step flat d (Ask (flat.owner d p) p)).answer ≡ accepted 0 Nothing
ask_waits_for_messages r = Demand3.ask_waits_for_messages flat flat_laws (stands r)

-- No share is negative, and the owner's counter is the sum of the shares of all other sites.
pub share_is_not_negative : {d : Desk} → Reached flat d → (p : ℕ) → p < flat.pointers d → (s : ℕ) → s < d.S → s ≢ flat.owner d p
    → share_of flat d s p ≡ pos (share_plus flat d s p - share_minus flat d s p)
share_is_not_negative r = shares.share_is_not_negative flat flat_laws (stands r)

pub share_answer : {d : Desk} → Reached flat d → (p : ℕ) → p < flat.pointers d → (s : ℕ) → s < d.S → s ≢ flat.owner d p
    → share flat d s p ≡ record { number = 0; share = share_of flat d s p }
share_answer r = shares.share_answer flat flat_laws (stands r)

pub owner_counter_is_shares_of_others : {d : Desk} → Reached flat d → (p : ℕ) → p < flat.pointers d → shares_of_others flat d p ≡ pos (flat.counter d (flat.owner d p) p)
owner_counter_is_shares_of_others r = shares.owner_counter_is_shares_of_others flat flat_laws (stands r)

-- Lemma 4: the counter of a site that is not the owner is the number of messages that act on it.
pub counter_is_messages_under_control : {d : Desk} → Reached flat d → (p : ℕ) → p < flat.pointers d → (s : ℕ) → s < d.S → s ≢ flat.owner d p
    → flat.counter d s p ≡ in_flight flat d (controls s p)
counter_is_messages_under_control r = Lemma4.counter_is_messages_under_control flat flat_laws (stands r)

-- ---- document 02, One: tell us before the pool is full
-- An accepted make copy or delete tells how many slots are empty in the memory before: at least 1, at most 1,024; after the call there is one less.
pub copy_tells : (d : Desk) (from to p : ℕ) → (step flat d (MakeCopy from to p)).answer.number ≡ 0 → (step flat d (MakeCopy from to p)).answer.empty ≡ empty_slots flat d
copy_tells = EmptySlots.copy_tells flat

pub delete_tells : (d : Desk) (site p : ℕ) → (step flat d (Delete site p)).answer.number ≡ 0 → (step flat d (Delete site p)).answer.empty ≡ empty_slots flat d
delete_tells = EmptySlots.delete_tells flat

pub copy_fills_one : (d : Desk) (from to p : ℕ) → (step flat d (MakeCopy from to p)).answer.number ≡ 0 → empty_slots flat (step flat d (MakeCopy from to p)).desk + 1 ≡ empty_slots flat d
copy_fills_one = EmptySlots.copy_fills_one flat flat_laws

pub delete_fills_one : (d : Desk) (site p : ℕ) → (step flat d (Delete site p)).answer.number ≡ 0 → empty_slots flat (step flat d (Delete site p)).desk + 1 ≡ empty_slots flat d
delete_fills_one = EmptySlots.delete_fills_one flat flat_laws

pub copy_tells_some : (d : Desk) (from to p : ℕ) → (step flat d (MakeCopy from to p)).answer.number ≡ 0
    → (1 ≤ (step flat d (MakeCopy from to p)).answer.empty) × ((step flat d (MakeCopy from to p)).answer.empty ≤ 1024)
copy_tells_some = EmptySlots.copy_tells_some flat flat_laws

pub delete_tells_some : (d : Desk) (site p : ℕ) → (step flat d (Delete site p)).answer.number ≡ 0
    → (1 ≤ (step flat d (Delete site p)).answer.empty) × ((step flat d (Delete site p)).answer.empty ≤ 1024)
delete_tells_some = EmptySlots.delete_tells_some flat flat_laws

-- No other answer tells a count: not another call's, not a refusal's, not an opening's.
pub receive_tells_nothing : (d : Desk) (slot : ℕ) → (step flat d (Receive slot)).answer.empty ≡ 0
receive_tells_nothing = EmptySlots.receive_tells_nothing flat

pub ask_tells_nothing : (d : Desk) (site p : ℕ) → (step flat d (Ask site p)).answer.empty ≡ 0
ask_tells_nothing = EmptySlots.ask_tells_nothing flat

pub refusals_tell_nothing : (d : Desk) (c : Call) → (step flat d c).answer.number ≢ 0 → (step flat d c).answer.empty ≡ 0
refusals_tell_nothing = EmptySlots.refusals_tell_nothing flat

pub opening_tells_nothing : (d : Desk) → (open_desk flat d).answer.empty ≡ 0
opening_tells_nothing = EmptySlots.opening_tells_nothing flat

-- After an accepted opening all slots are empty. The search that the code makes is of the slot and of the count; the answer line of `desk` is the same whatever count is told.
pub all_empty_after_opening : (d : Desk) → (open_desk flat d).answer.number ≡ 0 → empty_slots flat (open_desk flat d).desk ≡ flat.slots d
all_empty_after_opening = EmptySlots.all_empty_after_opening flat flat_laws

pub search_finds : (d : Desk) → searched 5 d.pool ≡ record { slot = lowest_empty flat d; count = empty_slots flat d }
search_finds d = refl

pub line_tells_no_count : (a : Answer) (n : ℕ) → answer_line (record { number = a.number; value = a.value; empty = n; posted = a.posted }) ≡ answer_line a
line_tells_no_count = EmptySlots.line_tells_no_count

-- The count is 0 just where no slot is empty; so 7 is given exactly where no earlier reason holds and the count is 0.
pub full_when_count_zero : (d : Desk) → NoSlotEmpty flat d ↔ (empty_slots flat d ≡ 0)
full_when_count_zero = EmptySlots.full_when_count_zero flat

pub copy_full_when_count_zero : (d : Desk) (from to p : ℕ)
    → FirstOf (lent_rows flat d (copy_rows_when flat (empty_slots flat d ≡ 0) d from to p)) (step flat d (MakeCopy from to p)).answer.number
copy_full_when_count_zero = EmptySlots.copy_full_when_count_zero flat

pub delete_full_when_count_zero : (d : Desk) (site p : ℕ)
    → FirstOf (lent_rows flat d (delete_rows_when flat (empty_slots flat d ≡ 0) d site p)) (step flat d (Delete site p)).answer.number
delete_full_when_count_zero = EmptySlots.delete_full_when_count_zero flat

-- ---- document 02, Two: the sheet points at the right desk
-- On a reached desk the question for a sheet is accepted, and the three rows of a column that is not the owner's add up to that site's counter.
pub sheet_accepted : {d : Desk} → Reached flat d → (p : ℕ) → p < flat.pointers d → sheet_number flat d p ≡ 0
sheet_accepted r = SheetSums.sheet_accepted flat flat_laws (stands r)

pub column_adds_up_to_counter : {d : Desk} → Reached flat d → (p : ℕ) → p < flat.pointers d → (s : ℕ) → s < d.S → s ≢ flat.owner d p
    → entry_of (sheet flat d p) 0 s + entry_of (sheet flat d p) 1 s + entry_of (sheet flat d p) 2 s ≡ flat.counter d s p
column_adds_up_to_counter r = SheetSums.column_adds_up_to_counter flat flat_laws (stands r)

-- On all good tables each entry is the number of messages of its kind, for that pointer, in its column: at most the slot count.
pub entry_is_count : (d : Desk) (p : ℕ) → sheet_number flat d p ≡ 0 → (row site : ℕ) → row < 3 → site < 64 → entry_of (sheet flat d p) row site ≡ in_flight flat d (entered p (row + 1) site)
entry_is_count = SheetSums.entry_is_count flat

pub entry_at_most_slots : (d : Desk) (p : ℕ) → sheet_number flat d p ≡ 0 → (row site : ℕ) → row < 3 → site < 64 → entry_of (sheet flat d p) row site ≤ flat.slots d
entry_at_most_slots = SheetSums.entry_at_most_slots flat
