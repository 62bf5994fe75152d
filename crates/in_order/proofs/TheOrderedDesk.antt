-- The three demands for the in_order desk: the theorems over any lawful layout, at `ordered`; those in words, of numbers and of links are its own.
use Prim.Native.Nat.{ℕ, ◌+◌, ◌-◌, ◌%◌, ◌≤◌, ◌<◌}
use mathlib.Core.Path.{◌≡◌, ◌∙◌}
use mathlib.Core.Logic.{◌≢◌, ◌⊎◌, ◌↔◌}
use mathlib.Core.Bool.{true}
use mathlib.Core.List.{[], ◌∷◌}
use lib.Dec.{eqb}
use lib.IntN.{pos}
use lib.ListN.{length, get_or}
use Rattle.moreau.specs.StateSpace.{Msg, DEC, INC_DEC, ⟅◌⟆, initial}
use Rattle.moreau.specs.Counts.{◌if◌is◌}
use Rattle.moreau.specs.Transformers.{assign, MayCopy, MayReceive, MayDelete}
use Rattle.moreau.specs.Transitions.{WeakGuard, Reachable}
use Rattle.moreau.proofs.Reached.{reachable_lasts}
use Rattle.model.specs.declared.Posted.TheVariants.{Copy, Dec as Decr, IncDec, Nothing}
use Rattle.model.specs.declared.Call.{Call}
use Rattle.model.specs.declared.Call.TheVariants.{MakeCopy, Receive, Delete, Ask}
use Rattle.model.specs.Refusals.{◌when◌}
use Rattle.model.specs.Answers.{accepted, accepted_telling, refused}
use Rattle.model.specs.Questions.{total}
use Rattle.model.specs.Calls.{lowest_empty, empty_slots, lent_refusal, open_desk, replied, step, counter_there, cell_there}
use Rattle.model.specs.Messages.{receiver, pointer_of, counter_after, cell_after}
use Rattle.model.specs.Laws.{with_slot, Reads}
use Rattle.model.specs.Survey.{controls, entered, entry_of, in_flight, share_plus, share_minus, share_of, shares_of_others, share, sheet_number, sheet}
use Rattle.model.specs.Meaning.{meant, meaning}
use Rattle.model.specs.Demands.{FirstOf, ◌among◌, NoSlotEmpty, open_rows, lent_rows, copy_rows_when, delete_rows_when, rows_of, share_rows, sheet_rows, LowestEmpty, names, MakesCopy, Receives, Deletes, Reached, Quiet, look}
use Rattle.in_order.specs.Ordered.{OrderedDesk, ordered}
use Rattle.in_order.specs.InOrder.{ShapedInOrder, GoodTablesInOrder, number_of, next_to_post, next_to_receive, next_for, AtNext, order_rows, listed_in_order, on_link, Numbers, before, Queued}
use Rattle.model.proofs.OpeningLaws as OpeningLaws
use Rattle.model.proofs.Exactly as exactly
use Rattle.model.proofs.EdgeLaws as EdgeLaws
use Rattle.model.proofs.Demand1 as Demand1
use Rattle.model.proofs.Demand2 as Demand2
use Rattle.model.proofs.Placed as placed
use Rattle.model.proofs.Converse as converse
use Rattle.model.proofs.EmptySlots as EmptySlots
use Rattle.model.proofs.Demand3 as Demand3
use Rattle.model.proofs.Shares as shares
use Rattle.model.proofs.Lemma4 as Lemma4
use Rattle.model.proofs.SheetSums as SheetSums
use Rattle.model.proofs.ReachedLaws.{Means}
use Rattle.model.proofs.ReachedLaws as ReachedLaws
use Rattle.in_order.proofs.OrderedLaws.{ordered_laws}
use Rattle.in_order.proofs.OrderedWords as OrderedWords
use Rattle.in_order.proofs.OrderedRows as OrderedRows
use Rattle.in_order.proofs.OrderedHistory.{in_order_lem}
use Rattle.in_order.proofs.OrderedGuard.{guarded, stands}
use Rattle.in_order.proofs.OrderedFlight as InFlight
use Rattle.in_order.proofs.OrderedQueues as queues

-- ---- demand 1
-- A refused call leaves all lent memory as it was, both tables of numbers included, with value 0 and no message.
pub refused_leaves_all : (d : OrderedDesk) (c : Call) → (step ordered d c).answer.number ≢ 0 → step ordered d c ≡ record { answer = refused (step ordered d c).answer.number; desk = d }
refused_leaves_all = Demand1.refused_leaves_all ordered

-- Its number is one of those that are listed for the call, and never 9.
pub refused_by_listed : (d : OrderedDesk) (c : Call) → (step ordered d c).answer.number ≢ 0 → (step ordered d c).answer.number among listed_in_order c
refused_by_listed = OrderedRows.by_listed

pub never_9 : (d : OrderedDesk) (c : Call) → (step ordered d c).answer.number ≢ 9
never_9 = OrderedRows.never_9

-- The same of an opening.
pub refused_opening_by_listed : (d : OrderedDesk) → (open_desk ordered d).answer.number ≢ 0 → (open_desk ordered d).answer.number among (1 ∷ 2 ∷ [])
refused_opening_by_listed = Demand1.refused_opening_by_listed ordered

pub refused_opening_leaves_all : (d : OrderedDesk) → (open_desk ordered d).answer.number ≢ 0 → open_desk ordered d ≡ record { answer = refused (open_desk ordered d).answer.number; desk = d }
refused_opening_leaves_all = Demand1.refused_opening_leaves_all ordered

-- ---- demand 2
-- 1 and 2 in words: S, G, the lengths, the slot count and the two tables of numbers; the owners, the receive bytes, the slots and the number of an empty one.
pub shape_in_words : (d : OrderedDesk)
    → (ordered.shaped d ≡ true)
    ↔ ShapedInOrder d.S (length d.owners) (length d.send) (length d.receive) (length d.pool.bytes) (length d.pool.to_post) (length d.pool.to_receive)
shape_in_words = OrderedWords.shape_in_words

pub sound_in_words : (d : OrderedDesk) → (ordered.sound d ≡ true) ↔ GoodTablesInOrder d
sound_in_words = OrderedWords.sound_in_words

pub owned_in_words : (d : OrderedDesk) → (ordered.owned d ≡ true) ↔ ((p : ℕ) → p < length d.owners → get_or d.owners p 0 < d.S)
owned_in_words = OrderedWords.owned_in_words

-- A number is given exactly where the table of the call says so: 21 directly after 8, where the slot's number is not its pair's next to receive.
pub call_exactly : (d : OrderedDesk) (c : Call) → FirstOf (rows_of ordered order_rows d c) (step ordered d c).answer.number
call_exactly = exactly.call_exactly ordered order_rows OrderedRows.tells

pub open_exactly : (d : OrderedDesk) → FirstOf (open_rows ordered d) (open_desk ordered d).answer.number
open_exactly = exactly.open_exactly ordered

pub share_exactly : (d : OrderedDesk) (site p : ℕ) → FirstOf (lent_rows ordered d (share_rows ordered d site p)) (share ordered d site p).number
share_exactly = exactly.share_exactly ordered

pub sheet_exactly : (d : OrderedDesk) (p : ℕ) → FirstOf (lent_rows ordered d (sheet_rows ordered d p)) (sheet_number ordered d p)
sheet_exactly = exactly.sheet_exactly ordered

-- An accepted make copy is MAKE_COPY, an accepted receive is RECEIVE of a message that carries its pair's next number, an accepted delete is DELETE; ask changes nothing.
pub copy_transition : (d : OrderedDesk) (from to p : ℕ) → (step ordered d (MakeCopy from to p)).answer.number ≡ 0 → MakesCopy ordered d (step ordered d (MakeCopy from to p)).desk from to p
copy_transition = Demand2.copy_transition ordered ordered_laws

pub receive_transition : (d : OrderedDesk) (slot : ℕ) → (step ordered d (Receive slot)).answer.number ≡ 0 → Receives ordered (AtNext d slot) d (step ordered d (Receive slot)).desk slot
receive_transition d slot = Demand2.receive_transition ordered ordered_laws (AtNext d slot) d slot (λ a b p l m e. OrderedRows.passes_at_next d slot e ∙ at_names a b p m)
  where
    at_names : (a b p : ℕ) → ordered.message d slot ≡ Decr a b p → next_for d slot ≡ next_to_receive d a b
    at_names a b p m = rw m

pub delete_transition : (d : OrderedDesk) (site p : ℕ) → (step ordered d (Delete site p)).answer.number ≡ 0 → Deletes ordered d (step ordered d (Delete site p)).desk site p
delete_transition = Demand2.delete_transition ordered ordered_laws

pub ask_changes_nothing : (d : OrderedDesk) (site p : ℕ) → (step ordered d (Ask site p)).desk ≡ d
unfolding step
ask_changes_nothing = Demand1.ask_changes_nothing ordered

-- An accepted opening: its answer; what it leaves in every counter, every cell and every slot; it makes the initial configuration of the machine.
pub opening_answer : (d : OrderedDesk) → (open_desk ordered d).answer.number ≡ 0 → (open_desk ordered d).answer ≡ accepted 0 Nothing
opening_answer = OpeningLaws.opening_answer ordered

pub opening_leaves : (d : OrderedDesk) → (open_desk ordered d).answer.number ≡ 0
    → Reads ordered d (open_desk ordered d).desk (λ s p. 0) (λ s p. 1 when eqb s (ordered.owner d p)) (λ i. Nothing)
opening_leaves = OpeningLaws.opening_leaves ordered ordered_laws

pub opening_means : (d : OrderedDesk) → (open_desk ordered d).answer.number ≡ 0 → meaning ordered (open_desk ordered d).desk ≡ initial d.S (ordered.pointers d) (ordered.owner d)
opening_means = OpeningLaws.opening_means ordered ordered_laws

-- It starts every pair at 0, whatever the tables held.
pub opening_numbers : (d : OrderedDesk) → (open_desk ordered d).answer.number ≡ 0 → let e = (open_desk ordered d).desk in
    (a b : ℕ) → (next_to_post e a b ≡ 0) × (next_to_receive e a b ≡ 0)
opening_numbers = OrderedRows.opening_numbers

-- The answer of an accepted call: its value and its message, on any lent tables.
pub copy_answer : (d : OrderedDesk) (from to p : ℕ) → (step ordered d (MakeCopy from to p)).answer.number ≡ 0 → (step ordered d (MakeCopy from to p)).answer ≡ accepted_telling (empty_slots ordered d) (lowest_empty ordered d) (Copy from to p)
copy_answer = Demand2.copy_answer ordered

pub receive_answer : (d : OrderedDesk) (slot : ℕ) → (step ordered d (Receive slot)).answer.number ≡ 0 → (step ordered d (Receive slot)).answer ≡ accepted slot (replied ordered d slot)
receive_answer = Demand2.receive_answer ordered

pub delete_answer : (d : OrderedDesk) (site p : ℕ) → (step ordered d (Delete site p)).answer.number ≡ 0 → (step ordered d (Delete site p)).answer ≡ accepted_telling (empty_slots ordered d) (lowest_empty ordered d) (Decr site (ordered.owner d p) p)
delete_answer = Demand2.delete_answer ordered

pub ask_answer : (d : OrderedDesk) (site p : ℕ) → (step ordered d (Ask site p)).answer.number ≡ 0
    → (step ordered d (Ask site p)).answer ≡ accepted (1 when eqb (ordered.counter d (ordered.owner d p) p) 0) Nothing
ask_answer = Demand2.ask_answer ordered

-- What an accepted call leaves in every counter, every cell and every slot.
pub copy_leaves : (d : OrderedDesk) (from to p : ℕ) → (step ordered d (MakeCopy from to p)).answer.number ≡ 0
    → Reads ordered d (step ordered d (MakeCopy from to p)).desk
    (assign (ordered.counter d) from p (ordered.counter d from p + 1)) (ordered.cell d) (with_slot (ordered.message d) (lowest_empty ordered d) (Copy from to p))
copy_leaves = placed.copy_leaves ordered ordered_laws

pub delete_leaves : (d : OrderedDesk) (site p : ℕ) → (step ordered d (Delete site p)).answer.number ≡ 0
    → Reads ordered d (step ordered d (Delete site p)).desk
    (ordered.counter d) (assign (ordered.cell d) site p 0) (with_slot (ordered.message d) (lowest_empty ordered d) (Decr site (ordered.owner d p) p))
delete_leaves = placed.delete_leaves ordered ordered_laws

pub receive_leaves : (d : OrderedDesk) (slot : ℕ) → (step ordered d (Receive slot)).answer.number ≡ 0 → let m = ordered.message d slot in
    Reads ordered d (step ordered d (Receive slot)).desk
    (assign (ordered.counter d) (receiver m) (pointer_of m) (counter_after m (counter_there ordered d slot)))
    (assign (ordered.cell d) (receiver m) (pointer_of m) (cell_after m (cell_there ordered d slot)))
    (with_slot (ordered.message d) slot (replied ordered d slot))
receive_leaves = placed.receive_leaves ordered ordered_laws

-- What it leaves in the numbers: what is posted takes its pair's next to post, which advances; what is received, of any kind, carried its pair's next to receive, which advances.
pub copy_numbers : (d : OrderedDesk) (from to p : ℕ) → (step ordered d (MakeCopy from to p)).answer.number ≡ 0
    → Numbers d (step ordered d (MakeCopy from to p)).desk (lowest_empty ordered d) Nothing (Copy from to p)
copy_numbers = OrderedRows.copy_numbers

pub delete_numbers : (d : OrderedDesk) (site p : ℕ) → (step ordered d (Delete site p)).answer.number ≡ 0
    → Numbers d (step ordered d (Delete site p)).desk (lowest_empty ordered d) Nothing (Decr site (ordered.owner d p) p)
delete_numbers = OrderedRows.delete_numbers

pub receive_numbers : (d : OrderedDesk) (slot : ℕ) → (step ordered d (Receive slot)).answer.number ≡ 0
    → (number_of d slot ≡ next_for d slot) × Numbers d (step ordered d (Receive slot)).desk slot (ordered.message d slot) (replied ordered d slot)
receive_numbers = OrderedRows.receive_numbers

-- The slot that make copy and delete name is the lowest empty one; what a call posts stands in its slot.
pub copy_takes_lowest : (d : OrderedDesk) (from to p : ℕ) → (step ordered d (MakeCopy from to p)).answer.number ≡ 0 → LowestEmpty ordered d (step ordered d (MakeCopy from to p)).answer.value
copy_takes_lowest = placed.copy_takes_lowest ordered ordered_laws

pub delete_takes_lowest : (d : OrderedDesk) (site p : ℕ) → (step ordered d (Delete site p)).answer.number ≡ 0 → LowestEmpty ordered d (step ordered d (Delete site p)).answer.value
delete_takes_lowest = placed.delete_takes_lowest ordered ordered_laws

pub copy_posts : (d : OrderedDesk) (from to p : ℕ) → (step ordered d (MakeCopy from to p)).answer.number ≡ 0
    → ordered.message (step ordered d (MakeCopy from to p)).desk (lowest_empty ordered d) ≡ Copy from to p
copy_posts = placed.copy_posts ordered ordered_laws

pub delete_posts : (d : OrderedDesk) (site p : ℕ) → (step ordered d (Delete site p)).answer.number ≡ 0
    → ordered.message (step ordered d (Delete site p)).desk (lowest_empty ordered d) ≡ Decr site (ordered.owner d p) p
delete_posts = placed.delete_posts ordered ordered_laws

pub receive_posts : (d : OrderedDesk) (slot : ℕ) → (step ordered d (Receive slot)).answer.number ≡ 0 → ordered.message (step ordered d (Receive slot)).desk slot ≡ replied ordered d slot
receive_posts = placed.receive_posts ordered ordered_laws

-- What a received message posts, by its kind, the receiver's cell and the owner.
pub copy_to_holder : (d : OrderedDesk) (slot : ℕ) {a b p : ℕ} → ordered.message d slot ≡ Copy a b p → ordered.cell d b p ≡ 1 → replied ordered d slot ≡ Decr b a p
copy_to_holder = placed.copy_to_holder ordered

pub copy_from_owner : (d : OrderedDesk) (slot : ℕ) {a b p : ℕ} → ordered.message d slot ≡ Copy a b p → ordered.cell d b p ≢ 1 → a ≡ ordered.owner d p → replied ordered d slot ≡ Nothing
copy_from_owner = placed.copy_from_owner ordered

pub copy_from_other : (d : OrderedDesk) (slot : ℕ) {a b p : ℕ} → ordered.message d slot ≡ Copy a b p → ordered.cell d b p ≢ 1 → a ≢ ordered.owner d p
    → replied ordered d slot ≡ IncDec b (ordered.owner d p) a p
copy_from_other = placed.copy_from_other ordered

pub inc_dec_posts : (d : OrderedDesk) (slot : ℕ) {a b c p : ℕ} → ordered.message d slot ≡ IncDec a b c p → replied ordered d slot ≡ Decr b c p
inc_dec_posts = placed.inc_dec_posts ordered

pub dec_posts : (d : OrderedDesk) (slot : ℕ) {a b p : ℕ} → ordered.message d slot ≡ Decr a b p → replied ordered d slot ≡ Nothing
dec_posts = placed.dec_posts ordered

-- Where the machine permits a transition, the names are in range, a counter to be raised stands below 65,535, one to be lowered above 0, a slot is empty where one is needed, and a message to be received carries its pair's next number, the call is accepted.
pub copy_permitted : (d : OrderedDesk) (from to p slot : ℕ) → lent_refusal ordered d ≡ 0 → from < d.S → to < d.S → p < ordered.pointers d → MayCopy from to p (meaning ordered d)
    → ordered.counter d from p < 65535 → slot < ordered.slots d → ordered.empty d slot ≡ true → (step ordered d (MakeCopy from to p)).answer.number ≡ 0
copy_permitted = converse.copy_permitted ordered ordered_laws

pub receive_permitted : (d : OrderedDesk) (slot : ℕ) (m : Msg) → lent_refusal ordered d ≡ 0 → slot < ordered.slots d → meant (ordered.message d slot) ≡ ⟅ m ⟆ → MayReceive m
    → number_of d slot ≡ next_for d slot
    → ((a b p : ℕ) → m ≡ DEC a b p → 0 < ordered.counter d b p) → ((a b p c : ℕ) → m ≡ INC_DEC a b p c → ordered.counter d b p < 65535)
    → (step ordered d (Receive slot)).answer.number ≡ 0
receive_permitted d slot m e l q may at_next = converse.receive_permitted ordered ordered_laws d slot m e l q may (OrderedRows.next_passes d slot at_next)

-- A message of any kind that the machine permits to be received is received just at its pair's next number.
pub received_just_at_next : (d : OrderedDesk) (slot : ℕ) (m : Msg) → lent_refusal ordered d ≡ 0 → slot < ordered.slots d → meant (ordered.message d slot) ≡ ⟅ m ⟆ → MayReceive m
    → ((a b p : ℕ) → m ≡ DEC a b p → 0 < ordered.counter d b p) → ((a b p c : ℕ) → m ≡ INC_DEC a b p c → ordered.counter d b p < 65535)
    → ((step ordered d (Receive slot)).answer.number ≡ 0) ↔ (number_of d slot ≡ next_for d slot)
received_just_at_next d slot m e l q may lowered raised =
    ((λ z. (receive_numbers d slot z).0), (λ at_next. receive_permitted d slot m e l q may at_next lowered raised))

pub delete_permitted : (d : OrderedDesk) (site p slot : ℕ) → lent_refusal ordered d ≡ 0 → site < d.S → p < ordered.pointers d → MayDelete site p (meaning ordered d)
    → slot < ordered.slots d → ordered.empty d slot ≡ true → (step ordered d (Delete site p)).answer.number ≡ 0
delete_permitted = converse.delete_permitted ordered ordered_laws

-- Document 01's edges, on every desk that passes 1 and 2: S = 1, every make copy gives 3 or 4; G = 0, 3; no slots, 7 on a make copy of which no earlier reason holds.
pub one_site_no_copy : (d : OrderedDesk) → lent_refusal ordered d ≡ 0 → (from to p : ℕ) → d.S ≡ 1
    → ((step ordered d (MakeCopy from to p)).answer.number ≡ 3) ⊎ ((step ordered d (MakeCopy from to p)).answer.number ≡ 4)
one_site_no_copy = EdgeLaws.one_site_no_copy ordered

pub no_pointer_no_copy : (d : OrderedDesk) → lent_refusal ordered d ≡ 0 → (from to p : ℕ) → length d.owners ≡ 0 → (step ordered d (MakeCopy from to p)).answer.number ≡ 3
no_pointer_no_copy = EdgeLaws.no_pointer_no_copy ordered

pub no_slot_no_copy : (d : OrderedDesk) → lent_refusal ordered d ≡ 0 → (from to p : ℕ) → ordered.slots d ≡ 0 → from < d.S → to < d.S → p < ordered.pointers d → from ≢ to
    → ((from ≢ ordered.owner d p) × (ordered.cell d from p ≡ 0) → ⊥) → ordered.counter d from p ≢ 65535 → (step ordered d (MakeCopy from to p)).answer.number ≡ 7
no_slot_no_copy = EdgeLaws.no_slot_no_copy ordered

-- ---- the links of a reached desk, by pairs (a, b)
module _ {d : OrderedDesk} (r : Reached ordered d) (a b : ℕ) (la : a < d.S) (lb : b < d.S) where
  -- The next number to post is as many on from the next to receive as messages are in flight from a to b.
  pub numbers_end : next_to_post d a b ≡ (next_to_receive d a b + in_flight ordered d (on_link a b)) % 65536
  numbers_end = InFlight.numbers_end d (in_order_lem r) (stands r).good a b la lb

  -- Each number from the one up to the other is carried by one message of the pair, and each message of the pair carries one of them.
  pub each_number_once : (j : ℕ) → j < in_flight ordered d (on_link a b)
      → total (ordered.slots d) (λ i. on_link a b (ordered.message d i) if number_of d i is (next_to_receive d a b + j) % 65536) ≡ 1
  each_number_once = InFlight.each_number_once d (in_order_lem r) (stands r).good a b la lb

  pub every_number_there : (slot : ℕ) → slot < ordered.slots d → 0 < on_link a b (ordered.message d slot)
      → (j : ℕ) × (j < in_flight ordered d (on_link a b)) × (number_of d slot ≡ (next_to_receive d a b + j) % 65536)
  every_number_there = InFlight.every_number_there d (in_order_lem r) (stands r).good a b la lb

  -- While a message of the pair is in flight, 21 lets just one of them pass: the oldest, which none is to be received before.
  pub just_one_passes : 0 < in_flight ordered d (on_link a b) → total (ordered.slots d) (λ i. on_link a b (ordered.message d i) if ordered.early d i is 0) ≡ 1
  just_one_passes = InFlight.just_one_passes d (in_order_lem r) (stands r).good a b la lb

  pub oldest_passes : 0 < in_flight ordered d (on_link a b) → (slot : ℕ) × (slot < ordered.slots d) × (0 < on_link a b (ordered.message d slot)) × (before d slot ≡ 0)
  oldest_passes some =
      let q = InFlight.one_passes d (in_order_lem r) (stands r).good a b la lb some in
      (q.0, q.1, q.2, (queues.first_passes d (in_order_lem r) (stands r).good a b q.0 q.1 q.2).0 q.3)

  pub oldest_never_21 : (slot : ℕ) → slot < ordered.slots d → 0 < on_link a b (ordered.message d slot) → before d slot ≡ 0 → (step ordered d (Receive slot)).answer.number ≢ 21
  oldest_never_21 slot l on first = OrderedRows.not_21 d slot ((queues.first_passes d (in_order_lem r) (stands r).good a b slot l on).1 first)

  pub others_give_21 : (slot : ℕ) → slot < ordered.slots d → 0 < on_link a b (ordered.message d slot) → before d slot ≢ 0 → (step ordered d (Receive slot)).answer.number ≡ 21
  others_give_21 slot l on behind =
      OrderedRows.late_is_21 d slot (stands r).good l (InFlight.used_on_link a b (ordered.message d slot) on)
      (λ e. behind ((queues.first_passes d (in_order_lem r) (stands r).good a b slot l on).0 (OrderedRows.next_passes d slot e)))

-- Each pair is a queue: what is posted goes to its end; what is received was first, and the others move up by one. So a link that delivers in order never meets 21.
pub copy_queues : {d : OrderedDesk} → Reached ordered d → (from to p : ℕ) → (step ordered d (MakeCopy from to p)).answer.number ≡ 0
    → Queued d (step ordered d (MakeCopy from to p)).desk (lowest_empty ordered d) Nothing (Copy from to p)
copy_queues {d} r = queues.copy_queues d (in_order_lem r) (stands r).good

pub delete_queues : {d : OrderedDesk} → Reached ordered d → (site p : ℕ) → (step ordered d (Delete site p)).answer.number ≡ 0
    → Queued d (step ordered d (Delete site p)).desk (lowest_empty ordered d) Nothing (Decr site (ordered.owner d p) p)
delete_queues {d} r = queues.delete_queues d (in_order_lem r) (stands r).good

pub receive_queues : {d : OrderedDesk} → Reached ordered d → (slot : ℕ) → (step ordered d (Receive slot)).answer.number ≡ 0
    → (before d slot ≡ 0) × Queued d (step ordered d (Receive slot)).desk slot (ordered.message d slot) (replied ordered d slot)
receive_queues {d} r = queues.receive_queues d (in_order_lem r) (stands r).good

-- ---- demand 3
-- A reached desk passes 1 and 2, and means a configuration that the machine reaches under the weak guard; a receive there is RECEIVE under that guard.
pub reached_is_reachable : {d : OrderedDesk} → Reached ordered d → Means ordered (Reachable WeakGuard) d
reached_is_reachable = ReachedLaws.reached_means ordered ordered_laws (reachable_lasts WeakGuard) (λ d r s. guarded d r (stands r))

pub receive_transition_weak : {d : OrderedDesk} → Reached ordered d → (slot : ℕ) → (step ordered d (Receive slot)).answer.number ≡ 0 → Receives ordered WeakGuard d (step ordered d (Receive slot)).desk slot
receive_transition_weak {d} r slot = Demand2.receive_transition ordered ordered_laws WeakGuard d slot (guarded d r (stands r) slot)

-- From an opened desk, after any calls in any order: the owner's counter is 0 if and only if no other site holds the pointer and no message in flight names it.
pub counter_zero_iff_quiet : {d : OrderedDesk} → Reached ordered d → (p : ℕ) → p < ordered.pointers d → (ordered.counter d (ordered.owner d p) p ≡ 0) ↔ Quiet ordered d p
counter_zero_iff_quiet r = Demand3.counter_zero_iff_quiet ordered ordered_laws (stands r)

-- Ask answers 1 exactly when the pointer is quiet.
pub ask_says_quiet : {d : OrderedDesk} → Reached ordered d → (p : ℕ) → p < ordered.pointers d → ((step ordered d (Ask (ordered.owner d p) p)).answer ≡ accepted 1 Nothing) ↔ Quiet ordered d p
ask_says_quiet r = Demand3.ask_says_quiet ordered ordered_laws (stands r)

-- Ask always tells what the look over every site and every message finds; the look is computed from cells and slots, and finds none exactly where the pointer is quiet, on any lent tables.
pub ask_tells_the_look : {d : OrderedDesk} → Reached ordered d → (p : ℕ) → p < ordered.pointers d → (step ordered d (Ask (ordered.owner d p) p)).answer ≡ accepted (1 when look ordered d p) Nothing
ask_tells_the_look r = Demand3.ask_tells_the_look ordered ordered_laws (stands r)

pub look_iff_quiet : (d : OrderedDesk) (p : ℕ) → (look ordered d p ≡ true) ↔ Quiet ordered d p
look_iff_quiet = Demand3.look_iff_quiet ordered

pub accepted_ask_tells_the_look : {d : OrderedDesk} → Reached ordered d → (site p : ℕ) → (step ordered d (Ask site p)).answer.number ≡ 0
    → (step ordered d (Ask site p)).answer ≡ accepted (1 when look ordered d p) Nothing
accepted_ask_tells_the_look r = Demand3.accepted_ask_tells_the_look ordered ordered_laws (stands r)

-- The incident: while any message names a pointer, ask at its owner answers 0.
pub ask_waits_for_messages : {d : OrderedDesk} → Reached ordered d → (p slot : ℕ) → p < ordered.pointers d → slot < ordered.slots d → names p (ordered.message d slot) ≡ true
    → (step ordered d (Ask (ordered.owner d p) p)).answer ≡ accepted 0 Nothing
ask_waits_for_messages r = Demand3.ask_waits_for_messages ordered ordered_laws (stands r)

-- No share is negative, and the owner's counter is the sum of the shares of all other sites.
pub share_is_not_negative : {d : OrderedDesk} → Reached ordered d → (p : ℕ) → p < ordered.pointers d → (s : ℕ) → s < d.S → s ≢ ordered.owner d p
    → share_of ordered d s p ≡ pos (share_plus ordered d s p - share_minus ordered d s p)
share_is_not_negative r = shares.share_is_not_negative ordered ordered_laws (stands r)

pub share_answer : {d : OrderedDesk} → Reached ordered d → (p : ℕ) → p < ordered.pointers d → (s : ℕ) → s < d.S → s ≢ ordered.owner d p
    → share ordered d s p ≡ record { number = 0; share = share_of ordered d s p }
share_answer r = shares.share_answer ordered ordered_laws (stands r)

pub owner_counter_is_shares_of_others : {d : OrderedDesk} → Reached ordered d → (p : ℕ) → p < ordered.pointers d → shares_of_others ordered d p ≡ pos (ordered.counter d (ordered.owner d p) p)
owner_counter_is_shares_of_others r = shares.owner_counter_is_shares_of_others ordered ordered_laws (stands r)

-- Lemma 4: the counter of a site that is not the owner is the number of messages that act on it.
pub counter_is_messages_under_control : {d : OrderedDesk} → Reached ordered d → (p : ℕ) → p < ordered.pointers d → (s : ℕ) → s < d.S → s ≢ ordered.owner d p
    → ordered.counter d s p ≡ in_flight ordered d (controls s p)
counter_is_messages_under_control r = Lemma4.counter_is_messages_under_control ordered ordered_laws (stands r)

-- ---- document 02, One, here too
-- An accepted make copy or delete tells how many slots are empty in the memory before: at least 1, at most 1,024; after the call there is one less.
pub copy_tells : (d : OrderedDesk) (from to p : ℕ) → (step ordered d (MakeCopy from to p)).answer.number ≡ 0 → (step ordered d (MakeCopy from to p)).answer.empty ≡ empty_slots ordered d
copy_tells = EmptySlots.copy_tells ordered

pub delete_tells : (d : OrderedDesk) (site p : ℕ) → (step ordered d (Delete site p)).answer.number ≡ 0 → (step ordered d (Delete site p)).answer.empty ≡ empty_slots ordered d
delete_tells = EmptySlots.delete_tells ordered

pub copy_fills_one : (d : OrderedDesk) (from to p : ℕ) → (step ordered d (MakeCopy from to p)).answer.number ≡ 0 → empty_slots ordered (step ordered d (MakeCopy from to p)).desk + 1 ≡ empty_slots ordered d
copy_fills_one = EmptySlots.copy_fills_one ordered ordered_laws

pub delete_fills_one : (d : OrderedDesk) (site p : ℕ) → (step ordered d (Delete site p)).answer.number ≡ 0 → empty_slots ordered (step ordered d (Delete site p)).desk + 1 ≡ empty_slots ordered d
delete_fills_one = EmptySlots.delete_fills_one ordered ordered_laws

pub copy_tells_some : (d : OrderedDesk) (from to p : ℕ) → (step ordered d (MakeCopy from to p)).answer.number ≡ 0
    → (1 ≤ (step ordered d (MakeCopy from to p)).answer.empty) × ((step ordered d (MakeCopy from to p)).answer.empty ≤ 1024)
copy_tells_some = EmptySlots.copy_tells_some ordered ordered_laws

pub delete_tells_some : (d : OrderedDesk) (site p : ℕ) → (step ordered d (Delete site p)).answer.number ≡ 0
    → (1 ≤ (step ordered d (Delete site p)).answer.empty) × ((step ordered d (Delete site p)).answer.empty ≤ 1024)
delete_tells_some = EmptySlots.delete_tells_some ordered ordered_laws

-- No other answer tells a count: not another call's, not a refusal's, not an opening's.
pub receive_tells_nothing : (d : OrderedDesk) (slot : ℕ) → (step ordered d (Receive slot)).answer.empty ≡ 0
receive_tells_nothing = EmptySlots.receive_tells_nothing ordered

pub ask_tells_nothing : (d : OrderedDesk) (site p : ℕ) → (step ordered d (Ask site p)).answer.empty ≡ 0
ask_tells_nothing = EmptySlots.ask_tells_nothing ordered

pub refusals_tell_nothing : (d : OrderedDesk) (c : Call) → (step ordered d c).answer.number ≢ 0 → (step ordered d c).answer.empty ≡ 0
refusals_tell_nothing = EmptySlots.refusals_tell_nothing ordered

pub opening_tells_nothing : (d : OrderedDesk) → (open_desk ordered d).answer.empty ≡ 0
opening_tells_nothing = EmptySlots.opening_tells_nothing ordered

-- After an accepted opening all slots are empty.
pub all_empty_after_opening : (d : OrderedDesk) → (open_desk ordered d).answer.number ≡ 0 → empty_slots ordered (open_desk ordered d).desk ≡ ordered.slots d
all_empty_after_opening = EmptySlots.all_empty_after_opening ordered ordered_laws

-- The count is 0 just where no slot is empty; so 7 is given exactly where no earlier reason holds and the count is 0.
pub full_when_count_zero : (d : OrderedDesk) → NoSlotEmpty ordered d ↔ (empty_slots ordered d ≡ 0)
full_when_count_zero = EmptySlots.full_when_count_zero ordered

pub copy_full_when_count_zero : (d : OrderedDesk) (from to p : ℕ)
    → FirstOf (lent_rows ordered d (copy_rows_when ordered (empty_slots ordered d ≡ 0) d from to p)) (step ordered d (MakeCopy from to p)).answer.number
copy_full_when_count_zero = EmptySlots.copy_full_when_count_zero ordered

pub delete_full_when_count_zero : (d : OrderedDesk) (site p : ℕ)
    → FirstOf (lent_rows ordered d (delete_rows_when ordered (empty_slots ordered d ≡ 0) d site p)) (step ordered d (Delete site p)).answer.number
delete_full_when_count_zero = EmptySlots.delete_full_when_count_zero ordered

-- ---- document 02, Two, here too
-- On a reached desk the question for a sheet is accepted, and the three rows of a column that is not the owner's add up to that site's counter.
pub sheet_accepted : {d : OrderedDesk} → Reached ordered d → (p : ℕ) → p < ordered.pointers d → sheet_number ordered d p ≡ 0
sheet_accepted r = SheetSums.sheet_accepted ordered ordered_laws (stands r)

pub column_adds_up_to_counter : {d : OrderedDesk} → Reached ordered d → (p : ℕ) → p < ordered.pointers d → (s : ℕ) → s < d.S → s ≢ ordered.owner d p
    → entry_of (sheet ordered d p) 0 s + entry_of (sheet ordered d p) 1 s + entry_of (sheet ordered d p) 2 s ≡ ordered.counter d s p
column_adds_up_to_counter r = SheetSums.column_adds_up_to_counter ordered ordered_laws (stands r)

-- On all good tables each entry is the number of messages of its kind, for that pointer, in its column: at most the slot count.
pub entry_is_count : (d : OrderedDesk) (p : ℕ) → sheet_number ordered d p ≡ 0 → (row site : ℕ) → row < 3 → site < 64 → entry_of (sheet ordered d p) row site ≡ in_flight ordered d (entered p (row + 1) site)
entry_is_count = SheetSums.entry_is_count ordered

pub entry_at_most_slots : (d : OrderedDesk) (p : ℕ) → sheet_number ordered d p ≡ 0 → (row site : ℕ) → row < 3 → site < 64 → entry_of (sheet ordered d p) row site ≤ ordered.slots d
entry_at_most_slots = SheetSums.entry_at_most_slots ordered
