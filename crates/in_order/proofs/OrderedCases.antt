-- Document 02, Three, on closed desks: where the two desks differ, the numbers and tables that runs leave, numbers that wrap, 21 before a message's own refusals. One table for each desk.
use Prim.Native.Nat.{ℕ}
use mathlib.Core.Path.{◌≡◌, refl}
use mathlib.Core.List.{List, [], ◌∷◌, ◌++◌, map}
use lib.ListN.{replicate}
use Rattle.model.specs.declared.Call.{Call}
use Rattle.model.specs.declared.Call.TheVariants.{MakeCopy, Receive, Delete}
use Rattle.model.specs.Questions.{every, some, how_many, lowest_from}
use Rattle.model.specs.Messages.{message_of}
use Rattle.model.specs.Layout.{Layout}
use Rattle.model.specs.Calls.{copy_refusal, delete_refusal, lent_refusal, front, open_refusal, open_desk, copy_number, copied, make_copy, receive_number, received, receive, delete_number, deleted, delete, ask_number, asked, ask, step}
use Rattle.model.specs.Tables.{Desk, all_below, all_slots_good, own_rows}
use Rattle.model.specs.Flat.{flat}
use Rattle.in_order.specs.Ordered.{NumberedPool, numbered_pool, all_numbers_good, OrderedDesk, lent_in_order, ordered}
use Rattle.model.specs.Transcript.{fresh}

-- calls on a desk, and the number of each
pub record Run (D : Type 0) : Type 0 where
  pub lent : D
  pub calls : List Call
  pub numbers : List ℕ

abbrev run : {D : Type 0} → D → List Call → List ℕ → Run D
run d calls numbers = record { lent = d; calls = calls; numbers = numbers }

unfoldable pub told : {D : Type 0} → Layout D → D → List Call → List ℕ
told L d [] = []
told L d (c ∷ cs) = (step L d c).answer.number ∷ told L (step L d c).desk cs

-- the desk after them
unfoldable pub after : {D : Type 0} → Layout D → D → List Call → D
after L d [] = d
after L d (c ∷ cs) = after L (step L d c).desk cs

-- opened with these owners and 4 slots
abbrev base : ℕ → List ℕ → Desk
base s owners = (open_desk flat (fresh s owners 4)).desk

abbrev in_order : ℕ → List ℕ → ℕ → ℕ → OrderedDesk
in_order s owners cells pairs = (open_desk ordered (lent_in_order s owners (replicate cells 0) (replicate cells 0) (replicate 28 0) (replicate pairs 9) (replicate pairs 9))).desk

-- ---- the calls
-- after a delete and a fresh first copy an INC_DEC stands behind an older DEC
abbrev delete_then_copy : List Call
delete_then_copy = MakeCopy 0 1 0 ∷ Receive 0 ∷ MakeCopy 0 2 0 ∷ Receive 0 ∷ Delete 1 0 ∷ MakeCopy 2 1 0 ∷ Receive 1 ∷ []

-- two copies of one pair, the second received first
abbrev second_first : List Call
second_first = MakeCopy 0 1 0 ∷ MakeCopy 0 1 1 ∷ Receive 1 ∷ []

-- the first six calls of the fourteen lines: the DEC of slot 1 behind the INC_DEC of slot 0
abbrev six_lines : List Call
six_lines = MakeCopy 0 1 0 ∷ Receive 0 ∷ MakeCopy 1 2 0 ∷ Receive 0 ∷ Delete 2 0 ∷ Receive 1 ∷ []

-- a second copy to a holder: the DEC that is posted in reply
abbrev copy_twice : List Call
copy_twice = MakeCopy 0 1 0 ∷ MakeCopy 0 1 0 ∷ Receive 0 ∷ Receive 1 ∷ []

-- ---- the lent tables
-- pair (0, 1) at 65,535 in both tables
abbrev at_the_turn : OrderedDesk
at_the_turn = lent_in_order 2 (0 ∷ 0 ∷ []) (replicate 4 0) (1 ∷ 1 ∷ 0 ∷ 0 ∷ []) (replicate 28 0) (0 ∷ 65535 ∷ 0 ∷ 0 ∷ []) (0 ∷ 65535 ∷ 0 ∷ 0 ∷ [])

-- COPY(1, 1), number 5, where n is next to receive from 1 to 1
abbrev copy_to_itself : ℕ → OrderedDesk
copy_to_itself n = lent_in_order 2 (0 ∷ []) (0 ∷ 0 ∷ []) (1 ∷ 1 ∷ []) (1 ∷ 1 ∷ 1 ∷ 0 ∷ 0 ∷ 0 ∷ 5 ∷ []) (replicate 4 0) (0 ∷ 0 ∷ 0 ∷ n ∷ [])

-- DEC(1, 0), number 258, to a counter at 0, where n is next to receive from 1 to 0
abbrev dec_to_zero : ℕ → OrderedDesk
dec_to_zero n = lent_in_order 2 (0 ∷ []) (0 ∷ 0 ∷ []) (1 ∷ 0 ∷ []) (2 ∷ 1 ∷ 0 ∷ 0 ∷ 0 ∷ 1 ∷ 2 ∷ []) (replicate 4 0) (0 ∷ 0 ∷ n ∷ 0 ∷ [])

-- S = 2, one owner, no message, with these bytes of the pool and these numbers to post and to receive
abbrev quiet_with : List ℕ → List ℕ → List ℕ → OrderedDesk
quiet_with bytes to_post to_receive = lent_in_order 2 (0 ∷ []) (0 ∷ 0 ∷ []) (1 ∷ 0 ∷ []) bytes to_post to_receive

-- ---- the numbers
-- the first two are the runs of difference: 9 in document 01 and 0 here, 0 in document 01 and 21 here
pub base_runs : List (Run Desk)
base_runs =
    run (base 3 (0 ∷ [])) (delete_then_copy ++ (Receive 0 ∷ [])) (0 ∷ 0 ∷ 0 ∷ 0 ∷ 0 ∷ 0 ∷ 0 ∷ 9 ∷ [])
    ∷ run (base 2 (0 ∷ 0 ∷ [])) second_first (0 ∷ 0 ∷ 0 ∷ [])
    ∷ run (base 3 (0 ∷ [])) six_lines (0 ∷ 0 ∷ 0 ∷ 0 ∷ 0 ∷ 9 ∷ [])
    ∷ []

pub in_order_runs : List (Run OrderedDesk)
in_order_runs =
    run (in_order 3 (0 ∷ []) 3 9) (delete_then_copy ++ (Receive 0 ∷ [])) (0 ∷ 0 ∷ 0 ∷ 0 ∷ 0 ∷ 0 ∷ 0 ∷ 0 ∷ [])
    ∷ run (in_order 2 (0 ∷ 0 ∷ []) 4 4) second_first (0 ∷ 0 ∷ 21 ∷ [])
    ∷ run (in_order 3 (0 ∷ []) 3 9) six_lines (0 ∷ 0 ∷ 0 ∷ 0 ∷ 0 ∷ 21 ∷ [])
    ∷ run at_the_turn (second_first ++ (Receive 0 ∷ Receive 1 ∷ [])) (0 ∷ 0 ∷ 21 ∷ 0 ∷ 0 ∷ [])
    ∷ run (copy_to_itself 0) (Receive 0 ∷ []) (21 ∷ [])
    ∷ run (copy_to_itself 5) (Receive 0 ∷ []) (4 ∷ [])
    ∷ run (dec_to_zero 0) (Receive 0 ∷ []) (21 ∷ [])
    ∷ run (dec_to_zero 258) (Receive 0 ∷ []) (10 ∷ [])
    ∷ run (quiet_with (replicate 7 0) (replicate 4 65535) (replicate 4 65535)) (Receive 0 ∷ []) (8 ∷ [])
    ∷ run (quiet_with (replicate 6 0) (replicate 4 0) (replicate 4 0)) (Receive 0 ∷ []) (1 ∷ [])
    ∷ run (quiet_with (replicate 7 0) (replicate 5 0) (replicate 4 0)) (Receive 0 ∷ []) (1 ∷ [])
    ∷ run (quiet_with (replicate 7 0) (replicate 4 0) (replicate 3 0)) (Receive 0 ∷ []) (1 ∷ [])
    ∷ run (quiet_with (0 ∷ 0 ∷ 0 ∷ 0 ∷ 0 ∷ 1 ∷ 0 ∷ []) (replicate 4 0) (replicate 4 0)) (Receive 0 ∷ []) (2 ∷ [])
    ∷ run (quiet_with (0 ∷ 0 ∷ 0 ∷ 0 ∷ 0 ∷ 0 ∷ 1 ∷ []) (replicate 4 0) (replicate 4 0)) (Receive 0 ∷ []) (2 ∷ [])
    ∷ []

pub base_runs_as_told : map (λ r. told flat r.lent r.calls) base_runs ≡ map (λ r. r.numbers) base_runs
unfolding base_runs told fresh open_desk open_refusal step front lent_refusal make_copy copy_number copy_refusal copied receive receive_number received delete delete_number delete_refusal deleted ask ask_number asked all_below all_slots_good own_rows every some how_many lowest_from message_of
base_runs_as_told = refl

pub in_order_runs_as_told : map (λ r. told ordered r.lent r.calls) in_order_runs ≡ map (λ r. r.numbers) in_order_runs
unfolding in_order_runs told open_desk open_refusal step front lent_refusal make_copy copy_number copy_refusal copied receive receive_number received delete delete_number delete_refusal deleted ask ask_number asked all_below all_slots_good all_numbers_good own_rows every some how_many lowest_from message_of
in_order_runs_as_told = refl

-- ---- the pools and both tables of numbers
-- calls on an in-order desk, and what they leave: slots 0 and 1 of 4, the next numbers to post, the next to receive
pub record Leaving : Type 0 where
  pub lent : OrderedDesk
  pub calls : List Call
  pub pool : NumberedPool

abbrev leaving : OrderedDesk → List Call → List ℕ → List ℕ → List ℕ → List ℕ → Leaving
leaving d calls slot-0 slot-1 to_post to_receive = record { lent = d; calls = calls; pool = numbered_pool (slot-0 ++ (slot-1 ++ replicate 14 0)) to_post to_receive }

pub pools : List Leaving
pools =
    leaving (in_order 3 (0 ∷ []) 3 9) [] (replicate 7 0) (replicate 7 0) (replicate 9 0) (replicate 9 0)
    ∷ leaving (in_order 3 (0 ∷ []) 3 9) delete_then_copy (2 ∷ 1 ∷ 0 ∷ 0 ∷ 0 ∷ 0 ∷ 0 ∷ []) (3 ∷ 1 ∷ 0 ∷ 2 ∷ 0 ∷ 0 ∷ 1 ∷ [])
    (0 ∷ 1 ∷ 1 ∷ 2 ∷ 0 ∷ 0 ∷ 0 ∷ 1 ∷ 0 ∷ []) (0 ∷ 1 ∷ 1 ∷ 0 ∷ 0 ∷ 0 ∷ 0 ∷ 1 ∷ 0 ∷ [])
    ∷ leaving (in_order 3 (0 ∷ []) 3 9) six_lines (3 ∷ 2 ∷ 0 ∷ 1 ∷ 0 ∷ 0 ∷ 0 ∷ []) (2 ∷ 2 ∷ 0 ∷ 0 ∷ 0 ∷ 0 ∷ 1 ∷ [])
    (0 ∷ 1 ∷ 0 ∷ 0 ∷ 0 ∷ 1 ∷ 2 ∷ 0 ∷ 0 ∷ []) (0 ∷ 1 ∷ 0 ∷ 0 ∷ 0 ∷ 1 ∷ 0 ∷ 0 ∷ 0 ∷ [])
    ∷ leaving (in_order 2 (0 ∷ 0 ∷ []) 4 4) second_first (1 ∷ 0 ∷ 1 ∷ 0 ∷ 0 ∷ 0 ∷ 0 ∷ []) (1 ∷ 0 ∷ 1 ∷ 0 ∷ 1 ∷ 0 ∷ 1 ∷ [])
    (0 ∷ 2 ∷ 0 ∷ 0 ∷ []) (replicate 4 0)
    ∷ leaving (in_order 2 (0 ∷ []) 2 4) copy_twice (replicate 7 0) (2 ∷ 1 ∷ 0 ∷ 0 ∷ 0 ∷ 0 ∷ 0 ∷ []) (0 ∷ 2 ∷ 1 ∷ 0 ∷ []) (0 ∷ 2 ∷ 0 ∷ 0 ∷ [])
    ∷ leaving at_the_turn second_first (1 ∷ 0 ∷ 1 ∷ 0 ∷ 0 ∷ 255 ∷ 255 ∷ []) (1 ∷ 0 ∷ 1 ∷ 0 ∷ 1 ∷ 0 ∷ 0 ∷ []) (0 ∷ 1 ∷ 0 ∷ 0 ∷ []) (0 ∷ 65535 ∷ 0 ∷ 0 ∷ [])
    ∷ leaving at_the_turn (second_first ++ (Receive 0 ∷ Receive 1 ∷ [])) (replicate 7 0) (replicate 7 0) (0 ∷ 1 ∷ 0 ∷ 0 ∷ []) (0 ∷ 1 ∷ 0 ∷ 0 ∷ [])
    ∷ []

pub pools_as_left : map (λ r. (after ordered r.lent r.calls).pool) pools ≡ map (λ r. r.pool) pools
unfolding pools after open_desk open_refusal step front lent_refusal make_copy copy_number copy_refusal copied receive receive_number received delete delete_number delete_refusal deleted ask ask_number asked all_below all_slots_good all_numbers_good own_rows every some how_many lowest_from message_of
pools_as_left = refl
