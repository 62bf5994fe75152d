-- Document 02, Five: the word desk answers as the byte desk; the three demands for it, the theorems over any lawful layout at `words`; and the count of holders.
use Prim.Native.Nat.{ℕ, ◌+◌, ◌-◌, ◌*◌, ◌^◌, ◌≤◌, ◌<◌}
use mathlib.Core.Path.{◌≡◌, refl, ap}
use mathlib.Core.Logic.{◌≢◌, ◌⊎◌, ◌↔◌}
use mathlib.Core.Bool.{true, false}
use mathlib.Core.List.{List, [], ◌∷◌, map}
use lib.Count.{ones}
use lib.Dec.{eqb}
use lib.IntN.{pos}
use lib.ListN.{length, get_or, set}
use Rattle.moreau.specs.StateSpace.{Msg, DEC, INC_DEC, ⟅◌⟆, initial}
use Rattle.moreau.specs.Transformers.{assign, MayCopy, MayReceive, MayDelete}
use Rattle.moreau.specs.Transitions.{PaperGuard, Reachable}
use Rattle.moreau.proofs.Reached.{standing_lasts, reachable_lasts}
use Rattle.model.specs.declared.Posted.TheVariants.{Copy, Dec as Decr, IncDec, Nothing}
use Rattle.model.specs.declared.Call.{Call}
use Rattle.model.specs.declared.Call.TheVariants.{MakeCopy, Receive, Delete, Ask}
use Rattle.model.specs.Refusals.{Held, ◌when◌}
use Rattle.model.specs.Questions.{total}
use Rattle.model.specs.Answers.{accepted, accepted_telling, refused, Outcome}
use Rattle.model.specs.Calls.{held_refusal, lowest_empty, empty_slots, lent_refusal, open_desk, replied, step, counter_there, cell_there}
use Rattle.model.specs.Messages.{receiver, pointer_of, counter_after, cell_after}
use Rattle.model.specs.Laws.{with_slot, Reads}
use Rattle.model.specs.Survey.{controls, entered, entry_of, in_flight, share_plus, share_minus, share_of, shares_of_others, share, sheet_number, sheet}
use Rattle.model.specs.Tables.{Desk}
use Rattle.model.specs.Flat.{flat}
use Rattle.model.specs.Meaning.{meant, meaning}
use Rattle.model.specs.Demands.{FirstOf, ◌among◌, listed, NoSlotEmpty, open_rows, lent_rows, copy_rows_when, delete_rows_when, held_rows, rows_of, TellsEarly, share_rows, sheet_rows, LowestEmpty, names, MakesCopy, Receives, Deletes, Reached, Quiet, look}
use Rattle.model.proofs.FlatLaws.{flat_laws}
use Rattle.model.proofs.OpeningLaws as OpeningLaws
use Rattle.model.proofs.Exactly as exactly
use Rattle.model.proofs.EdgeLaws as EdgeLaws
use Rattle.model.proofs.Demand1 as Demand1
use Rattle.model.proofs.Demand2 as Demand2
use Rattle.model.proofs.Placed as placed
use Rattle.model.proofs.Converse as converse
use Rattle.model.proofs.EmptySlots as EmptySlots
use Rattle.model.proofs.Demand3 as Demand3
use Rattle.model.proofs.Shares as shares
use Rattle.model.proofs.Lemma4 as Lemma4
use Rattle.model.proofs.SheetSums as SheetSums
use Rattle.model.proofs.ReachedLaws.{Means, Stands}
use Rattle.model.proofs.ReachedLaws as ReachedLaws
use Rattle.model.proofs.SameAnswers.{ReadAlike, answered, after}
use Rattle.model.proofs.SameAnswers as SameAnswers
use Rattle.word_cells.specs.WordCells.{bit, with_bit, WordDesk, lent_in_words, words, word_of, count_holders, pack, unpack}
use Rattle.word_cells.specs.InWords.{SameCells, MeanTheSame, with_words, with_cells, ShapedInWords, GoodTablesInWords, count_rows, pack_rows, unpack_rows}
use Rattle.word_cells.proofs.BitLaws as BitLaws
use Rattle.word_cells.proofs.WordLaws.{words_laws}
use Rattle.word_cells.proofs.WordTests as WordTests
use Rattle.word_cells.proofs.SameMeaning.{meaning_alike, reads_alike}
use Rattle.word_cells.proofs.PackLaws as PackLaws
use Rattle.word_cells.proofs.OneDesk as OneDesk
use Rattle.word_cells.proofs.CountLaws as CountLaws

-- ---- the byte desk and the word desk
-- Desks that mean the same: every opening and every call, with any arguments, accepted or refused, gives the same answer, and what they leave means the same; so does any run of calls.
pub same_opening : (d : Desk) (e : WordDesk) → MeanTheSame d e → ((open_desk flat d).answer ≡ (open_desk words e).answer) × MeanTheSame (open_desk flat d).desk (open_desk words e).desk
same_opening d e m = let b = SameAnswers.open_alike flat words flat_laws meaning_alike d e m in (b.same_answer, b.same_left)

pub same_call : (d : Desk) (e : WordDesk) → MeanTheSame d e → (c : Call) → ((step flat d c).answer ≡ (step words e c).answer) × MeanTheSame (step flat d c).desk (step words e c).desk
same_call d e m c = let b = SameAnswers.call_alike flat words flat_laws meaning_alike d e m c in (b.same_answer, b.same_left)

pub same_run : (d : Desk) (e : WordDesk) → MeanTheSame d e → (cs : List Call) → (answered flat d cs ≡ answered words e cs) × MeanTheSame (after flat d cs) (after words e cs)
same_run = SameAnswers.run_alike flat words flat_laws meaning_alike

-- So does every share and every sheet, with its number.
pub same_share : (d : Desk) (e : WordDesk) → MeanTheSame d e → (site p : ℕ) → share flat d site p ≡ share words e site p
same_share d e m = SameAnswers.share_alike flat words d e (meaning_alike.reads m)

pub same_sheet : (d : Desk) (e : WordDesk) → MeanTheSame d e → (p : ℕ) → (sheet_number flat d p ≡ sheet_number words e p) × (sheet flat d p ≡ sheet words e p)
same_sheet d e m p = let r = meaning_alike.reads m in (SameAnswers.sheet_number_lem flat words d e r p, SameAnswers.sheet_alike flat words d e r p)

-- The same of desks of which no more is known than that they read the same.
pub same_run_of_reads : (d : Desk) (e : WordDesk) → ReadAlike flat words d e → (cs : List Call) → (answered flat d cs ≡ answered words e cs) × ReadAlike flat words (after flat d cs) (after words e cs)
same_run_of_reads = SameAnswers.run_alike flat words flat_laws reads_alike

-- Each byte desk that passes 1 and 2 has exactly one word desk that means the same, and back; and they pass together.
pub exactly_one_word_desk : (d : Desk) → lent_refusal flat d ≡ 0 → (w : WordDesk) × MeanTheSame d w × ((other : WordDesk) → MeanTheSame d other → other ≡ w)
exactly_one_word_desk = OneDesk.exactly_one_word_desk

pub exactly_one_byte_desk : (w : WordDesk) → lent_refusal words w ≡ 0 → (d : Desk) × MeanTheSame d w × ((other : Desk) → MeanTheSame other w → other ≡ d)
exactly_one_byte_desk = OneDesk.exactly_one_byte_desk

pub pass_alike : (d : Desk) (e : WordDesk) → MeanTheSame d e → lent_refusal flat d ≡ lent_refusal words e
pass_alike = OneDesk.pass_alike

-- Pack makes it in any room of G words, unpack in any room of S x G bytes.
pub pack_makes_it : (d : Desk) → lent_refusal flat d ≡ 0 → (room : List ℕ) → length room ≡ length d.owners
    → ((pack d.S d.receive room).answer ≡ accepted 0 Nothing) × MeanTheSame d (with_words d (pack d.S d.receive room).desk)
pack_makes_it = OneDesk.pack_makes_it

pub unpack_makes_it : (w : WordDesk) → lent_refusal words w ≡ 0 → (room : List ℕ) → length room ≡ w.S * length w.owners
    → ((unpack w.S w.receive room).answer ≡ accepted 0 Nothing) × MeanTheSame (with_cells w (unpack w.S w.receive room).desk) w
unpack_makes_it = OneDesk.unpack_makes_it

-- On any lists: 1 and 2 exactly where the table says so; after a refusal nothing is written; else words and cells are the same.
pub pack_exactly : (sites : ℕ) (cells table : List ℕ) → FirstOf (pack_rows sites cells table) (pack sites cells table).answer.number
pack_exactly = PackLaws.pack_exactly

pub pack_refused_leaves_all : (sites : ℕ) (cells table : List ℕ) → (pack sites cells table).answer.number ≢ 0 → pack sites cells table ≡ record { answer = refused (pack sites cells table).answer.number; desk = table }
pack_refused_leaves_all = PackLaws.pack_refused_leaves_all

pub pack_writes : (sites : ℕ) (cells table : List ℕ) → (pack sites cells table).answer.number ≡ 0
    → ((pack sites cells table).answer ≡ accepted 0 Nothing) × SameCells sites (length table) cells (pack sites cells table).desk
pack_writes = PackLaws.pack_writes

pub unpack_exactly : (sites : ℕ) (table cells : List ℕ) → FirstOf (unpack_rows sites table cells) (unpack sites table cells).answer.number
unpack_exactly = PackLaws.unpack_exactly

pub unpack_refused_leaves_all : (sites : ℕ) (table cells : List ℕ) → (unpack sites table cells).answer.number ≢ 0 → unpack sites table cells ≡ record { answer = refused (unpack sites table cells).answer.number; desk = cells }
unpack_refused_leaves_all = PackLaws.unpack_refused_leaves_all

pub unpack_writes : (sites : ℕ) (table cells : List ℕ) → (unpack sites table cells).answer.number ≡ 0
    → ((unpack sites table cells).answer ≡ accepted 0 Nothing) × SameCells sites (length table) (unpack sites table cells).desk table
unpack_writes = PackLaws.unpack_writes

-- its test of a message that comes too early is Held
held : (d : WordDesk) (slot : ℕ) → words.early d slot ≡ held_refusal (words.slots d) (words.message d) (words.message d slot)
held d slot = refl

tells : TellsEarly words (held_rows words)
tells = exactly.held_tells words held

-- on every reached desk the machine's invariant stands
stands : {d : WordDesk} → Reached words d → Stands words d
stands = ReachedLaws.reached_means words words_laws standing_lasts (λ d r s slot. ReachedLaws.guarded_weakly words words_laws d slot (ReachedLaws.guarded_by_held words held d slot))

-- ---- demand 1
-- A refused call leaves all lent memory as it was, with value 0, no count and no message.
pub refused_leaves_all : (d : WordDesk) (c : Call) → (step words d c).answer.number ≢ 0 → step words d c ≡ record { answer = refused (step words d c).answer.number; desk = d }
refused_leaves_all = Demand1.refused_leaves_all words

-- Its number is one of those that document 01 lists for the call.
pub refused_by_listed : (d : WordDesk) (c : Call) → (step words d c).answer.number ≢ 0 → (step words d c).answer.number among listed c
refused_by_listed = Demand1.refused_by_listed words (held_rows words) (Held ∷ []) tells (Demand1.only_held words)

-- The same of an opening.
pub refused_opening_by_listed : (d : WordDesk) → (open_desk words d).answer.number ≢ 0 → (open_desk words d).answer.number among (1 ∷ 2 ∷ [])
refused_opening_by_listed = Demand1.refused_opening_by_listed words

pub refused_opening_leaves_all : (d : WordDesk) → (open_desk words d).answer.number ≢ 0 → open_desk words d ≡ record { answer = refused (open_desk words d).answer.number; desk = d }
refused_opening_leaves_all = Demand1.refused_opening_leaves_all words

-- ---- demand 2
-- The cell of site s and pointer p is bit s of word p; there it is written, and nothing else is.
pub cell_is_bit : (d : WordDesk) (s p : ℕ) → words.cell d s p ≡ bit (word_of d p) s
cell_is_bit d s p = refl

pub cell_written : (d : WordDesk) (s p n : ℕ) → words.set_cell d s p n ≡ lent_in_words d.S d.owners d.send (set d.receive p (with_bit (word_of d p) s n)) d.pool
cell_written d s p n = refl

pub bit_written : (w s n : ℕ) → n ≤ 1 → bit (with_bit w s n) s ≡ n
bit_written = BitLaws.changed_bit

pub other_bits_stay : (w s n t : ℕ) → n ≤ 1 → t ≢ s → bit (with_bit w s n) t ≡ bit w t
other_bits_stay = BitLaws.other_bit

-- An opening writes 2 to the owner of p as word p.
pub opening_words : (d : WordDesk) → (open_desk words d).answer.number ≡ 0 → (open_desk words d).desk.receive ≡ map (λ owner. 2 ^ owner) d.owners
opening_words d e = ap (λ (o : Outcome WordDesk). o.desk.receive) (OpeningLaws.opening_whole words d (OpeningLaws.opening_number words d e))

-- 1 and 2 in words: S, G, the counters, the words and the slot count; the owners, the bits at or above S and the slots.
pub shape_in_words : (d : WordDesk) → (words.shaped d ≡ true) ↔ ShapedInWords d.S (length d.owners) (length d.send) (length d.receive) (length d.pool)
shape_in_words = WordTests.shape_in_words

pub sound_in_words : (d : WordDesk) → (words.sound d ≡ true) ↔ GoodTablesInWords d
sound_in_words = WordTests.sound_in_words

pub owned_in_words : (d : WordDesk) → (words.owned d ≡ true) ↔ ((p : ℕ) → p < length d.owners → get_or d.owners p 0 < d.S)
owned_in_words = WordTests.owned_in_words

-- A number is given exactly where the table of the call says so.
pub call_exactly : (d : WordDesk) (c : Call) → FirstOf (rows_of words (held_rows words) d c) (step words d c).answer.number
call_exactly = exactly.call_exactly words (held_rows words) tells

pub open_exactly : (d : WordDesk) → FirstOf (open_rows words d) (open_desk words d).answer.number
open_exactly = exactly.open_exactly words

pub share_exactly : (d : WordDesk) (site p : ℕ) → FirstOf (lent_rows words d (share_rows words d site p)) (share words d site p).number
share_exactly = exactly.share_exactly words

pub sheet_exactly : (d : WordDesk) (p : ℕ) → FirstOf (lent_rows words d (sheet_rows words d p)) (sheet_number words d p)
sheet_exactly = exactly.sheet_exactly words

-- The other edges, on every desk that passes 1 and 2: S = 1, every make copy gives 3 or 4; G = 0, 3; no slots, 7 on a make copy of which no earlier reason holds.
pub one_site_no_copy : (d : WordDesk) → lent_refusal words d ≡ 0 → (from to p : ℕ) → d.S ≡ 1
    → ((step words d (MakeCopy from to p)).answer.number ≡ 3) ⊎ ((step words d (MakeCopy from to p)).answer.number ≡ 4)
one_site_no_copy = EdgeLaws.one_site_no_copy words

pub no_pointer_no_copy : (d : WordDesk) → lent_refusal words d ≡ 0 → (from to p : ℕ) → length d.owners ≡ 0 → (step words d (MakeCopy from to p)).answer.number ≡ 3
no_pointer_no_copy = EdgeLaws.no_pointer_no_copy words

pub no_slot_no_copy : (d : WordDesk) → lent_refusal words d ≡ 0 → (from to p : ℕ) → words.slots d ≡ 0 → from < d.S → to < d.S → p < words.pointers d → from ≢ to
    → ((from ≢ words.owner d p) × (words.cell d from p ≡ 0) → ⊥) → words.counter d from p ≢ 65535 → (step words d (MakeCopy from to p)).answer.number ≡ 7
no_slot_no_copy = EdgeLaws.no_slot_no_copy words

-- An accepted make copy is MAKE_COPY, an accepted receive is RECEIVE under the published guard, an accepted delete is DELETE; ask changes nothing.
pub copy_transition : (d : WordDesk) (from to p : ℕ) → (step words d (MakeCopy from to p)).answer.number ≡ 0 → MakesCopy words d (step words d (MakeCopy from to p)).desk from to p
copy_transition = Demand2.copy_transition words words_laws

pub receive_transition : (d : WordDesk) (slot : ℕ) → (step words d (Receive slot)).answer.number ≡ 0 → Receives words PaperGuard d (step words d (Receive slot)).desk slot
receive_transition = Demand2.receive_transition_held words words_laws held

pub delete_transition : (d : WordDesk) (site p : ℕ) → (step words d (Delete site p)).answer.number ≡ 0 → Deletes words d (step words d (Delete site p)).desk site p
delete_transition = Demand2.delete_transition words words_laws

pub ask_changes_nothing : (d : WordDesk) (site p : ℕ) → (step words d (Ask site p)).desk ≡ d
unfolding step
ask_changes_nothing = Demand1.ask_changes_nothing words

-- An accepted opening: its answer; what it leaves in every counter, every cell and every slot; it makes the initial configuration of the machine.
pub opening_answer : (d : WordDesk) → (open_desk words d).answer.number ≡ 0 → (open_desk words d).answer ≡ accepted 0 Nothing
opening_answer = OpeningLaws.opening_answer words

pub opening_leaves : (d : WordDesk) → (open_desk words d).answer.number ≡ 0
    → Reads words d (open_desk words d).desk (λ s p. 0) (λ s p. 1 when eqb s (words.owner d p)) (λ i. Nothing)
opening_leaves = OpeningLaws.opening_leaves words words_laws

pub opening_means : (d : WordDesk) → (open_desk words d).answer.number ≡ 0 → meaning words (open_desk words d).desk ≡ initial d.S (words.pointers d) (words.owner d)
opening_means = OpeningLaws.opening_means words words_laws

-- The answer of an accepted call: its value and its message, on any lent tables.
pub copy_answer : (d : WordDesk) (from to p : ℕ) → (step words d (MakeCopy from to p)).answer.number ≡ 0 → (step words d (MakeCopy from to p)).answer ≡ accepted_telling (empty_slots words d) (lowest_empty words d) (Copy from to p)
copy_answer = Demand2.copy_answer words

pub receive_answer : (d : WordDesk) (slot : ℕ) → (step words d (Receive slot)).answer.number ≡ 0 → (step words d (Receive slot)).answer ≡ accepted slot (replied words d slot)
receive_answer = Demand2.receive_answer words

pub delete_answer : (d : WordDesk) (site p : ℕ) → (step words d (Delete site p)).answer.number ≡ 0 → (step words d (Delete site p)).answer ≡ accepted_telling (empty_slots words d) (lowest_empty words d) (Decr site (words.owner d p) p)
delete_answer = Demand2.delete_answer words

pub ask_answer : (d : WordDesk) (site p : ℕ) → (step words d (Ask site p)).answer.number ≡ 0
    → (step words d (Ask site p)).answer ≡ accepted (1 when eqb (words.counter d (words.owner d p) p) 0) Nothing
ask_answer = Demand2.ask_answer words

-- What an accepted call leaves in every counter, every cell and every slot.
pub copy_leaves : (d : WordDesk) (from to p : ℕ) → (step words d (MakeCopy from to p)).answer.number ≡ 0
    → Reads words d (step words d (MakeCopy from to p)).desk
    (assign (words.counter d) from p (words.counter d from p + 1)) (words.cell d) (with_slot (words.message d) (lowest_empty words d) (Copy from to p))
copy_leaves = placed.copy_leaves words words_laws

pub delete_leaves : (d : WordDesk) (site p : ℕ) → (step words d (Delete site p)).answer.number ≡ 0
    → Reads words d (step words d (Delete site p)).desk
    (words.counter d) (assign (words.cell d) site p 0) (with_slot (words.message d) (lowest_empty words d) (Decr site (words.owner d p) p))
delete_leaves = placed.delete_leaves words words_laws

pub receive_leaves : (d : WordDesk) (slot : ℕ) → (step words d (Receive slot)).answer.number ≡ 0 → let m = words.message d slot in
    Reads words d (step words d (Receive slot)).desk
    (assign (words.counter d) (receiver m) (pointer_of m) (counter_after m (counter_there words d slot)))
    (assign (words.cell d) (receiver m) (pointer_of m) (cell_after m (cell_there words d slot)))
    (with_slot (words.message d) slot (replied words d slot))
receive_leaves = placed.receive_leaves words words_laws

-- The slot that make copy and delete name is the lowest empty one; what a call posts stands in its slot.
pub copy_takes_lowest : (d : WordDesk) (from to p : ℕ) → (step words d (MakeCopy from to p)).answer.number ≡ 0 → LowestEmpty words d (step words d (MakeCopy from to p)).answer.value
copy_takes_lowest = placed.copy_takes_lowest words words_laws

pub delete_takes_lowest : (d : WordDesk) (site p : ℕ) → (step words d (Delete site p)).answer.number ≡ 0 → LowestEmpty words d (step words d (Delete site p)).answer.value
delete_takes_lowest = placed.delete_takes_lowest words words_laws

pub copy_posts : (d : WordDesk) (from to p : ℕ) → (step words d (MakeCopy from to p)).answer.number ≡ 0
    → words.message (step words d (MakeCopy from to p)).desk (lowest_empty words d) ≡ Copy from to p
copy_posts = placed.copy_posts words words_laws

pub delete_posts : (d : WordDesk) (site p : ℕ) → (step words d (Delete site p)).answer.number ≡ 0
    → words.message (step words d (Delete site p)).desk (lowest_empty words d) ≡ Decr site (words.owner d p) p
delete_posts = placed.delete_posts words words_laws

pub receive_posts : (d : WordDesk) (slot : ℕ) → (step words d (Receive slot)).answer.number ≡ 0 → words.message (step words d (Receive slot)).desk slot ≡ replied words d slot
receive_posts = placed.receive_posts words words_laws

-- What a received message posts, by its kind, the receiver's cell and the owner.
pub copy_to_holder : (d : WordDesk) (slot : ℕ) {a b p : ℕ} → words.message d slot ≡ Copy a b p → words.cell d b p ≡ 1 → replied words d slot ≡ Decr b a p
copy_to_holder = placed.copy_to_holder words

pub copy_from_owner : (d : WordDesk) (slot : ℕ) {a b p : ℕ} → words.message d slot ≡ Copy a b p → words.cell d b p ≢ 1 → a ≡ words.owner d p → replied words d slot ≡ Nothing
copy_from_owner = placed.copy_from_owner words

pub copy_from_other : (d : WordDesk) (slot : ℕ) {a b p : ℕ} → words.message d slot ≡ Copy a b p → words.cell d b p ≢ 1 → a ≢ words.owner d p
    → replied words d slot ≡ IncDec b (words.owner d p) a p
copy_from_other = placed.copy_from_other words

pub inc_dec_posts : (d : WordDesk) (slot : ℕ) {a b c p : ℕ} → words.message d slot ≡ IncDec a b c p → replied words d slot ≡ Decr b c p
inc_dec_posts = placed.inc_dec_posts words

pub dec_posts : (d : WordDesk) (slot : ℕ) {a b p : ℕ} → words.message d slot ≡ Decr a b p → replied words d slot ≡ Nothing
dec_posts = placed.dec_posts words

-- Where the machine permits a transition, the names are in range, a counter to be raised stands below 65,535, one to be lowered above 0, and a slot is empty where one is needed, the call is accepted.
pub copy_permitted : (d : WordDesk) (from to p slot : ℕ) → lent_refusal words d ≡ 0 → from < d.S → to < d.S → p < words.pointers d → MayCopy from to p (meaning words d)
    → words.counter d from p < 65535 → slot < words.slots d → words.empty d slot ≡ true → (step words d (MakeCopy from to p)).answer.number ≡ 0
copy_permitted = converse.copy_permitted words words_laws

pub receive_permitted : (d : WordDesk) (slot : ℕ) (m : Msg) → lent_refusal words d ≡ 0 → slot < words.slots d → meant (words.message d slot) ≡ ⟅ m ⟆ → MayReceive m
    → ((a b p : ℕ) → m ≡ DEC a b p → PaperGuard (meaning words d) a b p)
    → ((a b p : ℕ) → m ≡ DEC a b p → 0 < words.counter d b p) → ((a b p c : ℕ) → m ≡ INC_DEC a b p c → words.counter d b p < 65535)
    → (step words d (Receive slot)).answer.number ≡ 0
receive_permitted = converse.receive_permitted_held words words_laws held

pub delete_permitted : (d : WordDesk) (site p slot : ℕ) → lent_refusal words d ≡ 0 → site < d.S → p < words.pointers d → MayDelete site p (meaning words d)
    → slot < words.slots d → words.empty d slot ≡ true → (step words d (Delete site p)).answer.number ≡ 0
delete_permitted = converse.delete_permitted words words_laws

-- ---- demand 3
-- A reached desk passes 1 and 2, and means a configuration that the published machine reaches.
pub reached_is_reachable : {d : WordDesk} → Reached words d → Means words (Reachable PaperGuard) d
reached_is_reachable = ReachedLaws.reached_means words words_laws (reachable_lasts PaperGuard) (λ d r s. ReachedLaws.guarded_by_held words held d)

-- From an opened desk, after any calls in any order: the owner's counter is 0 if and only if no other site holds the pointer and no message in flight names it.
pub counter_zero_iff_quiet : {d : WordDesk} → Reached words d → (p : ℕ) → p < words.pointers d → (words.counter d (words.owner d p) p ≡ 0) ↔ Quiet words d p
counter_zero_iff_quiet r = Demand3.counter_zero_iff_quiet words words_laws (stands r)

-- Ask answers 1 exactly when the pointer is quiet.
pub ask_says_quiet : {d : WordDesk} → Reached words d → (p : ℕ) → p < words.pointers d → ((step words d (Ask (words.owner d p) p)).answer ≡ accepted 1 Nothing) ↔ Quiet words d p
ask_says_quiet r = Demand3.ask_says_quiet words words_laws (stands r)

-- Ask always tells what the look over every site and every message finds; the look is computed from cells and slots, and finds none exactly where the pointer is quiet, on any lent tables.
pub ask_tells_the_look : {d : WordDesk} → Reached words d → (p : ℕ) → p < words.pointers d → (step words d (Ask (words.owner d p) p)).answer ≡ accepted (1 when look words d p) Nothing
ask_tells_the_look r = Demand3.ask_tells_the_look words words_laws (stands r)

pub look_iff_quiet : (d : WordDesk) (p : ℕ) → (look words d p ≡ true) ↔ Quiet words d p
look_iff_quiet = Demand3.look_iff_quiet words

pub accepted_ask_tells_the_look : {d : WordDesk} → Reached words d → (site p : ℕ) → (step words d (Ask site p)).answer.number ≡ 0
    → (step words d (Ask site p)).answer ≡ accepted (1 when look words d p) Nothing
accepted_ask_tells_the_look r = Demand3.accepted_ask_tells_the_look words words_laws (stands r)

-- The incident: while any message names a pointer, ask at its owner answers 0.
pub ask_waits_for_messages : {d : WordDesk} → Reached words d → (p slot : ℕ) → p < words.pointers d → slot < words.slots d → names p (words.message d slot) ≡ true
    → (step words d (Ask (words.owner d p) p)).answer ≡ accepted 0 Nothing
ask_waits_for_messages r = Demand3.ask_waits_for_messages words words_laws (stands r)

-- No share is negative, and the owner's counter is the sum of the shares of all other sites.
pub share_is_not_negative : {d : WordDesk} → Reached words d → (p : ℕ) → p < words.pointers d → (s : ℕ) → s < d.S → s ≢ words.owner d p
    → share_of words d s p ≡ pos (share_plus words d s p - share_minus words d s p)
share_is_not_negative r = shares.share_is_not_negative words words_laws (stands r)

pub share_answer : {d : WordDesk} → Reached words d → (p : ℕ) → p < words.pointers d → (s : ℕ) → s < d.S → s ≢ words.owner d p
    → share words d s p ≡ record { number = 0; share = share_of words d s p }
share_answer r = shares.share_answer words words_laws (stands r)

pub owner_counter_is_shares_of_others : {d : WordDesk} → Reached words d → (p : ℕ) → p < words.pointers d → shares_of_others words d p ≡ pos (words.counter d (words.owner d p) p)
owner_counter_is_shares_of_others r = shares.owner_counter_is_shares_of_others words words_laws (stands r)

-- Lemma 4: the counter of a site that is not the owner is the number of messages that act on it.
pub counter_is_messages_under_control : {d : WordDesk} → Reached words d → (p : ℕ) → p < words.pointers d → (s : ℕ) → s < d.S → s ≢ words.owner d p
    → words.counter d s p ≡ in_flight words d (controls s p)
counter_is_messages_under_control r = Lemma4.counter_is_messages_under_control words words_laws (stands r)

-- ---- document 02, One, here too
-- An accepted make copy or delete tells how many slots are empty in the memory before: at least 1, at most 1,024; after the call there is one less.
pub copy_tells : (d : WordDesk) (from to p : ℕ) → (step words d (MakeCopy from to p)).answer.number ≡ 0 → (step words d (MakeCopy from to p)).answer.empty ≡ empty_slots words d
copy_tells = EmptySlots.copy_tells words

pub delete_tells : (d : WordDesk) (site p : ℕ) → (step words d (Delete site p)).answer.number ≡ 0 → (step words d (Delete site p)).answer.empty ≡ empty_slots words d
delete_tells = EmptySlots.delete_tells words

pub copy_fills_one : (d : WordDesk) (from to p : ℕ) → (step words d (MakeCopy from to p)).answer.number ≡ 0 → empty_slots words (step words d (MakeCopy from to p)).desk + 1 ≡ empty_slots words d
copy_fills_one = EmptySlots.copy_fills_one words words_laws

pub delete_fills_one : (d : WordDesk) (site p : ℕ) → (step words d (Delete site p)).answer.number ≡ 0 → empty_slots words (step words d (Delete site p)).desk + 1 ≡ empty_slots words d
delete_fills_one = EmptySlots.delete_fills_one words words_laws

pub copy_tells_some : (d : WordDesk) (from to p : ℕ) → (step words d (MakeCopy from to p)).answer.number ≡ 0
    → (1 ≤ (step words d (MakeCopy from to p)).answer.empty) × ((step words d (MakeCopy from to p)).answer.empty ≤ 1024)
copy_tells_some = EmptySlots.copy_tells_some words words_laws

pub delete_tells_some : (d : WordDesk) (site p : ℕ) → (step words d (Delete site p)).answer.number ≡ 0
    → (1 ≤ (step words d (Delete site p)).answer.empty) × ((step words d (Delete site p)).answer.empty ≤ 1024)
delete_tells_some = EmptySlots.delete_tells_some words words_laws

-- No other answer tells a count: not another call's, not a refusal's, not an opening's.
pub receive_tells_nothing : (d : WordDesk) (slot : ℕ) → (step words d (Receive slot)).answer.empty ≡ 0
receive_tells_nothing = EmptySlots.receive_tells_nothing words

pub ask_tells_nothing : (d : WordDesk) (site p : ℕ) → (step words d (Ask site p)).answer.empty ≡ 0
ask_tells_nothing = EmptySlots.ask_tells_nothing words

pub refusals_tell_nothing : (d : WordDesk) (c : Call) → (step words d c).answer.number ≢ 0 → (step words d c).answer.empty ≡ 0
refusals_tell_nothing = EmptySlots.refusals_tell_nothing words

pub opening_tells_nothing : (d : WordDesk) → (open_desk words d).answer.empty ≡ 0
opening_tells_nothing = EmptySlots.opening_tells_nothing words

-- After an accepted opening all slots are empty.
pub all_empty_after_opening : (d : WordDesk) → (open_desk words d).answer.number ≡ 0 → empty_slots words (open_desk words d).desk ≡ words.slots d
all_empty_after_opening = EmptySlots.all_empty_after_opening words words_laws

-- The count is 0 just where no slot is empty; so 7 is given exactly where no earlier reason holds and the count is 0.
pub full_when_count_zero : (d : WordDesk) → NoSlotEmpty words d ↔ (empty_slots words d ≡ 0)
full_when_count_zero = EmptySlots.full_when_count_zero words

pub copy_full_when_count_zero : (d : WordDesk) (from to p : ℕ)
    → FirstOf (lent_rows words d (copy_rows_when words (empty_slots words d ≡ 0) d from to p)) (step words d (MakeCopy from to p)).answer.number
copy_full_when_count_zero = EmptySlots.copy_full_when_count_zero words

pub delete_full_when_count_zero : (d : WordDesk) (site p : ℕ)
    → FirstOf (lent_rows words d (delete_rows_when words (empty_slots words d ≡ 0) d site p)) (step words d (Delete site p)).answer.number
delete_full_when_count_zero = EmptySlots.delete_full_when_count_zero words

-- ---- document 02, Two, here too
-- On a reached desk the question for a sheet is accepted, and the three rows of a column that is not the owner's add up to that site's counter.
pub sheet_accepted : {d : WordDesk} → Reached words d → (p : ℕ) → p < words.pointers d → sheet_number words d p ≡ 0
sheet_accepted r = SheetSums.sheet_accepted words words_laws (stands r)

pub column_adds_up_to_counter : {d : WordDesk} → Reached words d → (p : ℕ) → p < words.pointers d → (s : ℕ) → s < d.S → s ≢ words.owner d p
    → entry_of (sheet words d p) 0 s + entry_of (sheet words d p) 1 s + entry_of (sheet words d p) 2 s ≡ words.counter d s p
column_adds_up_to_counter r = SheetSums.column_adds_up_to_counter words words_laws (stands r)

-- On all good tables each entry is the number of messages of its kind, for that pointer, in its column: at most the slot count.
pub entry_is_count : (d : WordDesk) (p : ℕ) → sheet_number words d p ≡ 0 → (row site : ℕ) → row < 3 → site < 64 → entry_of (sheet words d p) row site ≡ in_flight words d (entered p (row + 1) site)
entry_is_count = SheetSums.entry_is_count words

pub entry_at_most_slots : (d : WordDesk) (p : ℕ) → sheet_number words d p ≡ 0 → (row site : ℕ) → row < 3 → site < 64 → entry_of (sheet words d p) row site ≤ words.slots d
entry_at_most_slots = SheetSums.entry_at_most_slots words

-- ---- the count of holders
-- 1, 2, 3, exactly where the table says so; a refusal has value 0 and no message; nothing changes.
pub count_exactly : (d : WordDesk) (p : ℕ) → FirstOf (lent_rows words d (count_rows d p)) (count_holders d p).answer.number
count_exactly = CountLaws.count_exactly

pub count_refused_leaves_all : (d : WordDesk) (p : ℕ) → (count_holders d p).answer.number ≢ 0 → count_holders d p ≡ record { answer = refused (count_holders d p).answer.number; desk = d }
count_refused_leaves_all = CountLaws.count_refused_leaves_all

pub count_changes_nothing : (d : WordDesk) (p : ℕ) → (count_holders d p).desk ≡ d
count_changes_nothing = CountLaws.count_changes_nothing

-- On all good tables it is the sum of the pointer's cells over all sites, the owner's included, with no message and no count of empty slots: at most S.
pub count_is_sum : (d : WordDesk) (p : ℕ) → (count_holders d p).answer.number ≡ 0 → (count_holders d p).answer ≡ accepted (total d.S (λ s. words.cell d s p)) Nothing
count_is_sum = CountLaws.count_is_sum

pub count_accepted : (d : WordDesk) → lent_refusal words d ≡ 0 → (p : ℕ) → p < words.pointers d → (count_holders d p).answer ≡ accepted (total d.S (λ s. words.cell d s p)) Nothing
count_accepted = CountLaws.count_accepted

pub count_of_cells : (d : Desk) (e : WordDesk) → MeanTheSame d e → (p : ℕ) → p < flat.pointers d → ones (word_of e p) ≡ total d.S (λ s. flat.cell d s p)
count_of_cells = CountLaws.count_of_cells

pub count_at_most_sites : (d : WordDesk) (p : ℕ) → (count_holders d p).answer.number ≡ 0 → (count_holders d p).answer.value ≤ d.S
count_at_most_sites = CountLaws.count_at_most_sites

-- On a reached desk it is at least 1, and while no slot names the pointer it is the owner's counter plus 1: Lemma 8, with its minus 1.
pub count_at_least_1 : {d : WordDesk} → Reached words d → (p : ℕ) → p < words.pointers d → 1 ≤ (count_holders d p).answer.value
count_at_least_1 r = CountLaws.count_at_least_1 (stands r)

pub owner_counter_is_count_minus_1 : {d : WordDesk} → Reached words d → (p : ℕ) → p < words.pointers d → ((slot : ℕ) → slot < words.slots d → names p (words.message d slot) ≡ false)
    → words.counter d (words.owner d p) p ≡ (count_holders d p).answer.value - 1
owner_counter_is_count_minus_1 r = CountLaws.owner_counter_is_count_minus_1 (stands r)
