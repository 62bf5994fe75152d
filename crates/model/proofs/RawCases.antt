-- Document 01, "What the host lends" and "The calls": calls on closed desks, every lent list before and after; one table, one claim. And where the cells stand.
use Prim.Native.Nat.{ℕ, ◌+◌, ◌*◌}
use mathlib.Core.Path.{◌≡◌, refl}
use mathlib.Core.List.{List, [], ◌∷◌}
use lib.ListN.{length, get_or, set}
use Rattle.model.specs.declared.Posted.TheVariants.{Copy, Dec, IncDec, Nothing}
use Rattle.model.specs.Answers.{Answer}
use Rattle.model.specs.declared.Call.{Call}
use Rattle.model.specs.declared.Call.TheVariants.{MakeCopy, Receive, Delete, Ask}
use Rattle.model.specs.Questions.{every, some, how_many, lowest_from}
use Rattle.model.specs.Messages.{message_of}
use Rattle.model.specs.Answers.{accepted, accepted_telling, refused, Outcome}
use Rattle.model.specs.Calls.{copy_refusal, delete_refusal, lent_refusal, front, copy_number, copied, make_copy, receive_number, received, receive, delete_number, deleted, delete, ask_number, asked, ask, step}
use Rattle.model.specs.Tables.{Desk, lent, all_below, all_slots_good}
use Rattle.model.specs.Flat.{flat}

-- a call, the desk that it finds, its answer and the desk that it leaves
pub record Case : Type 0 where
  pub call : Call
  pub before : Desk
  pub answer : Answer
  pub after : Desk

-- S = 3, pointer 0 of site 0 and pointer 1 of site 2; send table, receive table, pool
abbrev desk : List ℕ → List ℕ → List ℕ → Desk
desk send receive pool = lent 3 (0 ∷ 2 ∷ []) send receive pool

abbrev case : Call → Desk → Answer → Desk → Case
case call before answer after = record { call = call; before = before; answer = answer; after = after }

pub cases : List Case
cases =
    case (MakeCopy 2 1 1)
    (desk (3 ∷ 0 ∷ 1 ∷ 5 ∷ 0 ∷ 7 ∷ []) (1 ∷ 0 ∷ 1 ∷ 1 ∷ 0 ∷ 1 ∷ []) (1 ∷ 0 ∷ 2 ∷ 0 ∷ 0 ∷ 0 ∷ 0 ∷ 0 ∷ 0 ∷ 0 ∷ []))
    (accepted_telling 1 1 (Copy 2 1 1))
    (desk (3 ∷ 0 ∷ 1 ∷ 5 ∷ 0 ∷ 8 ∷ []) (1 ∷ 0 ∷ 1 ∷ 1 ∷ 0 ∷ 1 ∷ []) (1 ∷ 0 ∷ 2 ∷ 0 ∷ 0 ∷ 1 ∷ 2 ∷ 1 ∷ 0 ∷ 1 ∷ []))
    ∷ case (Receive 0)
    (desk (3 ∷ 0 ∷ 1 ∷ 5 ∷ 0 ∷ 7 ∷ []) (1 ∷ 0 ∷ 1 ∷ 1 ∷ 0 ∷ 1 ∷ []) (1 ∷ 0 ∷ 2 ∷ 0 ∷ 0 ∷ 0 ∷ 0 ∷ 0 ∷ 0 ∷ 0 ∷ []))
    (accepted 0 Nothing)
    (desk (3 ∷ 0 ∷ 1 ∷ 5 ∷ 0 ∷ 7 ∷ []) (1 ∷ 0 ∷ 1 ∷ 1 ∷ 1 ∷ 1 ∷ []) (0 ∷ 0 ∷ 0 ∷ 0 ∷ 0 ∷ 0 ∷ 0 ∷ 0 ∷ 0 ∷ 0 ∷ []))
    ∷ case (Receive 1)
    (desk (3 ∷ 0 ∷ 1 ∷ 5 ∷ 0 ∷ 7 ∷ []) (1 ∷ 0 ∷ 1 ∷ 1 ∷ 0 ∷ 1 ∷ []) (0 ∷ 0 ∷ 0 ∷ 0 ∷ 0 ∷ 1 ∷ 2 ∷ 1 ∷ 0 ∷ 1 ∷ []))
    (accepted 1 (Dec 1 2 1))
    (desk (3 ∷ 0 ∷ 1 ∷ 5 ∷ 0 ∷ 7 ∷ []) (1 ∷ 0 ∷ 1 ∷ 1 ∷ 0 ∷ 1 ∷ []) (0 ∷ 0 ∷ 0 ∷ 0 ∷ 0 ∷ 2 ∷ 1 ∷ 2 ∷ 0 ∷ 1 ∷ []))
    ∷ case (Receive 1)
    (desk (3 ∷ 0 ∷ 1 ∷ 5 ∷ 0 ∷ 7 ∷ []) (1 ∷ 0 ∷ 1 ∷ 1 ∷ 0 ∷ 1 ∷ []) (0 ∷ 0 ∷ 0 ∷ 0 ∷ 0 ∷ 1 ∷ 1 ∷ 0 ∷ 0 ∷ 1 ∷ []))
    (accepted 1 (IncDec 0 2 1 1))
    (desk (3 ∷ 0 ∷ 1 ∷ 5 ∷ 0 ∷ 7 ∷ []) (1 ∷ 1 ∷ 1 ∷ 1 ∷ 0 ∷ 1 ∷ []) (0 ∷ 0 ∷ 0 ∷ 0 ∷ 0 ∷ 3 ∷ 0 ∷ 2 ∷ 1 ∷ 1 ∷ []))
    ∷ case (Receive 1)
    (desk (3 ∷ 0 ∷ 1 ∷ 5 ∷ 0 ∷ 7 ∷ []) (1 ∷ 0 ∷ 1 ∷ 1 ∷ 0 ∷ 1 ∷ []) (0 ∷ 0 ∷ 0 ∷ 0 ∷ 0 ∷ 3 ∷ 1 ∷ 2 ∷ 0 ∷ 1 ∷ []))
    (accepted 1 (Dec 2 0 1))
    (desk (3 ∷ 0 ∷ 1 ∷ 5 ∷ 0 ∷ 8 ∷ []) (1 ∷ 0 ∷ 1 ∷ 1 ∷ 0 ∷ 1 ∷ []) (0 ∷ 0 ∷ 0 ∷ 0 ∷ 0 ∷ 2 ∷ 2 ∷ 0 ∷ 0 ∷ 1 ∷ []))
    ∷ case (Receive 1)
    (desk (3 ∷ 0 ∷ 1 ∷ 5 ∷ 0 ∷ 7 ∷ []) (1 ∷ 0 ∷ 1 ∷ 1 ∷ 0 ∷ 1 ∷ []) (3 ∷ 0 ∷ 2 ∷ 1 ∷ 1 ∷ 2 ∷ 1 ∷ 2 ∷ 0 ∷ 1 ∷ []))
    (accepted 1 Nothing)
    (desk (3 ∷ 0 ∷ 1 ∷ 5 ∷ 0 ∷ 6 ∷ []) (1 ∷ 0 ∷ 1 ∷ 1 ∷ 0 ∷ 1 ∷ []) (3 ∷ 0 ∷ 2 ∷ 1 ∷ 1 ∷ 0 ∷ 0 ∷ 0 ∷ 0 ∷ 0 ∷ []))
    ∷ case (Receive 1)
    (desk (3 ∷ 0 ∷ 1 ∷ 5 ∷ 0 ∷ 7 ∷ []) (1 ∷ 0 ∷ 1 ∷ 1 ∷ 0 ∷ 1 ∷ []) (3 ∷ 1 ∷ 2 ∷ 0 ∷ 1 ∷ 2 ∷ 1 ∷ 2 ∷ 0 ∷ 1 ∷ []))
    (refused 9)
    (desk (3 ∷ 0 ∷ 1 ∷ 5 ∷ 0 ∷ 7 ∷ []) (1 ∷ 0 ∷ 1 ∷ 1 ∷ 0 ∷ 1 ∷ []) (3 ∷ 1 ∷ 2 ∷ 0 ∷ 1 ∷ 2 ∷ 1 ∷ 2 ∷ 0 ∷ 1 ∷ []))
    ∷ case (Delete 2 0)
    (desk (3 ∷ 0 ∷ 1 ∷ 5 ∷ 0 ∷ 7 ∷ []) (1 ∷ 0 ∷ 0 ∷ 1 ∷ 1 ∷ 1 ∷ []) (1 ∷ 0 ∷ 1 ∷ 0 ∷ 0 ∷ 0 ∷ 0 ∷ 0 ∷ 0 ∷ 0 ∷ []))
    (accepted_telling 1 1 (Dec 2 0 0))
    (desk (3 ∷ 0 ∷ 1 ∷ 5 ∷ 0 ∷ 7 ∷ []) (1 ∷ 0 ∷ 0 ∷ 1 ∷ 0 ∷ 1 ∷ []) (1 ∷ 0 ∷ 1 ∷ 0 ∷ 0 ∷ 2 ∷ 2 ∷ 0 ∷ 0 ∷ 0 ∷ []))
    ∷ case (Ask 0 0)
    (desk (3 ∷ 0 ∷ 1 ∷ 5 ∷ 0 ∷ 7 ∷ []) (1 ∷ 0 ∷ 1 ∷ 1 ∷ 0 ∷ 1 ∷ []) [])
    (accepted 0 Nothing)
    (desk (3 ∷ 0 ∷ 1 ∷ 5 ∷ 0 ∷ 7 ∷ []) (1 ∷ 0 ∷ 1 ∷ 1 ∷ 0 ∷ 1 ∷ []) [])
    ∷ case (Ask 2 1)
    (desk (3 ∷ 2 ∷ 1 ∷ 5 ∷ 4 ∷ 0 ∷ []) (1 ∷ 0 ∷ 1 ∷ 1 ∷ 0 ∷ 1 ∷ []) [])
    (accepted 1 Nothing)
    (desk (3 ∷ 2 ∷ 1 ∷ 5 ∷ 4 ∷ 0 ∷ []) (1 ∷ 0 ∷ 1 ∷ 1 ∷ 0 ∷ 1 ∷ []) [])
    ∷ []

-- what each call gives, and what the table says
pub given : List Case → List (Outcome Desk)
given [] = []
given (c ∷ cs) = step flat c.before c.call ∷ given cs

pub listed : List Case → List (Outcome Desk)
listed [] = []
listed (c ∷ cs) = record { answer = c.answer; desk = c.after } ∷ listed cs

pub raw_cases : given cases ≡ listed cases
unfolding cases given listed step front lent_refusal make_copy copy_number copy_refusal copied receive receive_number received delete delete_number delete_refusal deleted ask ask_number asked all_below all_slots_good every some how_many lowest_from message_of
raw_cases = refl

-- The counter and the cell of site s and pointer p stand at s x G + p of the send table and of the receive table.
pub counter_place : (d : Desk) (s p : ℕ) → flat.counter d s p ≡ get_or d.send (s * length d.owners + p) 0
counter_place d s p = refl

pub cell_place : (d : Desk) (s p : ℕ) → flat.cell d s p ≡ get_or d.receive (s * length d.owners + p) 0
cell_place d s p = refl

-- There they are written, and nothing else is.
pub counter_written : (d : Desk) (s p n : ℕ) → flat.set_counter d s p n ≡ lent d.S d.owners (set d.send (s * length d.owners + p) n) d.receive d.pool
counter_written d s p n = refl

pub cell_written : (d : Desk) (s p n : ℕ) → flat.set_cell d s p n ≡ lent d.S d.owners d.send (set d.receive (s * length d.owners + p) n) d.pool
cell_written d s p n = refl
