-- Document 01, "Share and sheet", on closed desks: the share of minus 1, one desk with a message of each kind, and sheets along the fourteen lines (Document 02, Two).
use Prim.Native.Nat.{ℕ}
use mathlib.Core.Path.{◌≡◌, refl}
use mathlib.Core.List.{List, [], ◌∷◌}
use lib.IntN.{pos, negsuc}
use lib.ListN.{get_or, take, replicate}
use Rattle.model.specs.declared.Call.{Call}
use Rattle.model.specs.declared.Call.TheVariants.{MakeCopy, Receive, Delete}
use Rattle.model.specs.Questions.{every, some, how_many, lowest_from, total, up_to}
use Rattle.model.specs.Messages.{message_of}
use Rattle.model.specs.Calls.{copy_refusal, delete_refusal, lent_refusal, front, open_refusal, open_desk, copy_number, copied, make_copy, receive_number, received, receive, delete_number, deleted, delete, step}
use Rattle.model.specs.Survey.{balance, share_number, share_plus, share_minus, share, blank_sheet, sheet_number, sheet}
use Rattle.model.specs.Tables.{Desk, lent, all_below, all_slots_good, own_rows}
use Rattle.model.specs.Flat.{flat}
use Rattle.model.specs.Transcript.{fresh}

-- document 01's example: S = 2, owner 0, the cell of site 1 at 0, one INC_DEC from 1 to 0
pub minus_1 : share flat (lent 2 (0 ∷ []) (0 ∷ 0 ∷ []) (1 ∷ 0 ∷ []) (3 ∷ 1 ∷ 0 ∷ 0 ∷ 0 ∷ [])) 1 0 ≡ record { number = 0; share = negsuc 0 }
unfolding every total message_of lent_refusal front balance share_number share_plus share_minus share all_below all_slots_good
minus_1 = refl

-- S = 3, two pointers of site 0; site 1 holds pointer 0; COPY(0, 1), DEC(2, 0) twice and INC_DEC(1, 0, third 2) for pointer 0, COPY(0, 2) for pointer 1
pub mixed : Desk
mixed =
    lent 3 (0 ∷ 0 ∷ []) (replicate 6 0) (1 ∷ 1 ∷ 1 ∷ 0 ∷ 0 ∷ 0 ∷ [])
    (1 ∷ 0 ∷ 1 ∷ 0 ∷ 0 ∷ 2 ∷ 2 ∷ 0 ∷ 0 ∷ 0 ∷ 3 ∷ 1 ∷ 0 ∷ 2 ∷ 0 ∷ 1 ∷ 0 ∷ 2 ∷ 0 ∷ 1 ∷ 2 ∷ 2 ∷ 0 ∷ 0 ∷ 0 ∷ [])

-- its cell and the COPY to it, less the INC_DEC: 1; two DECs: 2; the owner has none
pub share_of_1 : share flat mixed 1 0 ≡ record { number = 0; share = pos 1 }
unfolding mixed every total message_of lent_refusal front balance share_number share_plus share_minus share all_below all_slots_good
share_of_1 = refl

pub share_of_2 : share flat mixed 2 0 ≡ record { number = 0; share = pos 2 }
unfolding mixed every total message_of lent_refusal front balance share_number share_plus share_minus share all_below all_slots_good
share_of_2 = refl

pub share_of_owner : share flat mixed 0 0 ≡ record { number = 11; share = pos 0 }
unfolding mixed every total message_of lent_refusal front balance share_number share_plus share_minus share all_below all_slots_good
share_of_owner = refl

-- COPY(0, 1) at its sender, DEC(2, 0) at its receiver, INC_DEC(1, 0, third 2) at its third site; all 0 after a refusal
pub sheet_of_0 : sheet flat mixed 0 ≡ (1 ∷ 0 ∷ 0 ∷ replicate 61 0) ∷ (2 ∷ 0 ∷ 0 ∷ replicate 61 0) ∷ (0 ∷ 0 ∷ 1 ∷ replicate 61 0) ∷ []
unfolding mixed every total message_of lent_refusal front sheet_number sheet all_below all_slots_good up_to
sheet_of_0 = refl

pub sheet_of_none : (sheet_number flat mixed 2 ≡ 3) × (sheet flat mixed 2 ≡ blank_sheet)
unfolding mixed every total message_of lent_refusal front sheet_number sheet all_below all_slots_good up_to
sheet_of_none = (refl, refl)

-- ---- along the fourteen lines of document 01: owner 0, sites 0 to 2
unfoldable pub ran : Desk → List Call → Desk
ran d [] = d
ran d (c ∷ cs) = ran (step flat d c).desk cs

pub opened : Desk
opened = (open_desk flat (fresh 3 (0 ∷ []) 4)).desk

-- the first three columns of each row, and the counters of the three sites
pub record Seen : Type 0 where
  pub copy_row : List ℕ
  pub dec_row : List ℕ
  pub inc_dec_row : List ℕ
  pub counters : List ℕ

pub seen : Desk → Seen
seen d = record {
  copy_row = take 3 (get_or (sheet flat d 0) 0 []);
  dec_row = take 3 (get_or (sheet flat d 0) 1 []);
  inc_dec_row = take 3 (get_or (sheet flat d 0) 2 []);
  counters = d.send;
}

-- after line 3 no message is in flight, and the owner's counter is 1: nothing is claimed of its column
pub after_line_3 : seen (ran opened (MakeCopy 0 1 0 ∷ Receive 0 ∷ []))
    ≡ record { copy_row = 0 ∷ 0 ∷ 0 ∷ []; dec_row = 0 ∷ 0 ∷ 0 ∷ []; inc_dec_row = 0 ∷ 0 ∷ 0 ∷ []; counters = 1 ∷ 0 ∷ 0 ∷ [] }
unfolding ran opened seen fresh open_desk open_refusal step front lent_refusal make_copy copy_number copy_refusal copied receive receive_number received all_below all_slots_good own_rows every some how_many lowest_from total up_to message_of sheet_number sheet
after_line_3 = refl

-- after line 5 the pool has INC_DEC(2, 0, third 1): site 1's counter is 1
pub after_line_5 : seen (ran opened (MakeCopy 0 1 0 ∷ Receive 0 ∷ MakeCopy 1 2 0 ∷ Receive 0 ∷ []))
    ≡ record { copy_row = 0 ∷ 0 ∷ 0 ∷ []; dec_row = 0 ∷ 0 ∷ 0 ∷ []; inc_dec_row = 0 ∷ 1 ∷ 0 ∷ []; counters = 1 ∷ 1 ∷ 0 ∷ [] }
unfolding ran opened seen fresh open_desk open_refusal step front lent_refusal make_copy copy_number copy_refusal copied receive receive_number received all_below all_slots_good own_rows every some how_many lowest_from total up_to message_of sheet_number sheet
after_line_5 = refl

-- after line 6 also DEC(2, 0), in the owner's column
pub after_line_6 : seen (ran opened (MakeCopy 0 1 0 ∷ Receive 0 ∷ MakeCopy 1 2 0 ∷ Receive 0 ∷ Delete 2 0 ∷ []))
    ≡ record { copy_row = 0 ∷ 0 ∷ 0 ∷ []; dec_row = 1 ∷ 0 ∷ 0 ∷ []; inc_dec_row = 0 ∷ 1 ∷ 0 ∷ []; counters = 1 ∷ 1 ∷ 0 ∷ [] }
unfolding ran opened seen fresh open_desk open_refusal step front lent_refusal make_copy copy_number copy_refusal copied receive receive_number received delete delete_number delete_refusal deleted all_below all_slots_good own_rows every some how_many lowest_from total up_to message_of sheet_number sheet
after_line_6 = refl

-- lent tables of other origin: a counter at 1 and an empty pool; the sheet checks nothing
pub counter_without_message : (sheet_number flat (lent 2 (0 ∷ []) (0 ∷ 1 ∷ []) (1 ∷ 0 ∷ []) []) 0 ≡ 0) × (sheet flat (lent 2 (0 ∷ []) (0 ∷ 1 ∷ []) (1 ∷ 0 ∷ []) []) 0 ≡ blank_sheet)
unfolding every total message_of lent_refusal front sheet_number sheet all_below all_slots_good up_to
counter_without_message = (refl, refl)
