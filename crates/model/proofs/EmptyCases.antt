-- Document 02, One, on closed desks: what the fourteen lines of document 01 tell, one slot, and a pool of none.
use Prim.Native.Nat.{ℕ}
use mathlib.Core.Path.{◌≡◌, refl}
use mathlib.Core.List.{List, [], ◌∷◌}
use Rattle.model.specs.declared.Posted.TheVariants.{Copy}
use Rattle.model.specs.Answers.{Answer}
use Rattle.model.specs.declared.Call.{Call}
use Rattle.model.specs.declared.Call.TheVariants.{MakeCopy, Receive, Delete, Ask}
use Rattle.model.specs.Questions.{every, some, how_many, lowest_from}
use Rattle.model.specs.Messages.{message_of}
use Rattle.model.specs.Answers.{accepted_telling, refused}
use Rattle.model.specs.Calls.{copy_refusal, delete_refusal, lent_refusal, front, open_refusal, open_desk, copy_number, copied, make_copy, receive_number, received, receive, delete_number, deleted, delete, ask_number, asked, ask, step}
use Rattle.model.specs.Tables.{Desk, all_below, all_slots_good, own_rows}
use Rattle.model.specs.Flat.{flat}
use Rattle.model.specs.Transcript.{fresh}

-- a call, and the count that its answer tells
pub record Row : Type 0 where
  pub call : Call
  pub told : ℕ

abbrev row : Call → ℕ → Row
row c n = record { call = c; told = n }

-- the lines after the opening, as calls
pub table : List Row
table =
    row (MakeCopy 0 1 0) 4
    ∷ row (Receive 0) 0
    ∷ row (MakeCopy 1 2 0) 4
    ∷ row (Receive 0) 0
    ∷ row (Delete 2 0) 3
    ∷ row (Receive 1) 0
    ∷ row (Ask 0 0) 0
    ∷ row (Receive 0) 0
    ∷ row (Receive 1) 0
    ∷ row (Receive 0) 0
    ∷ row (Delete 1 0) 4
    ∷ row (Receive 0) 0
    ∷ row (Ask 0 0) 0
    ∷ []

-- what the calls tell, one after another, and what the table says
pub answers : Desk → List Row → List Answer
answers d [] = []
answers d (r ∷ rs) = (step flat d r.call).answer ∷ answers (step flat d r.call).desk rs

pub counts : List Answer → List ℕ
counts [] = []
counts (a ∷ more) = a.empty ∷ counts more

pub listed : List Row → List ℕ
listed [] = []
listed (r ∷ rs) = r.told ∷ listed rs

pub fourteen_tell : counts (answers (open_desk flat (fresh 3 (0 ∷ []) 4)).desk table) ≡ listed table
unfolding table answers counts listed fresh open_desk open_refusal step front lent_refusal make_copy copy_number copy_refusal copied receive receive_number received delete delete_number delete_refusal deleted ask ask_number asked all_below all_slots_good own_rows every some how_many lowest_from message_of
fourteen_tell = refl

-- S = 2, one owner 0, one slot: make copy tells 1; once more gives 7 and tells nothing
pub one_slot : answers (open_desk flat (fresh 2 (0 ∷ []) 1)).desk (row (MakeCopy 0 1 0) 1 ∷ row (MakeCopy 0 1 0) 0 ∷ []) ≡ accepted_telling 1 0 (Copy 0 1 0) ∷ refused 7 ∷ []
unfolding answers fresh open_desk open_refusal step front lent_refusal make_copy copy_number copy_refusal copied all_below all_slots_good own_rows every how_many lowest_from message_of
one_slot = refl

-- a pool of no slots: 7, and nothing is told
pub no_slot : answers (open_desk flat (fresh 2 (0 ∷ []) 0)).desk (row (MakeCopy 0 1 0) 0 ∷ []) ≡ refused 7 ∷ []
unfolding answers fresh open_desk open_refusal step front lent_refusal make_copy copy_number copy_refusal copied all_below all_slots_good own_rows every how_many lowest_from message_of
no_slot = refl
