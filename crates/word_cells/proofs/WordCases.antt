-- Document 02, Five, on closed desks: the counts and their refusals, the words along the fourteen lines, pack and unpack. One table for each.
use Prim.Native.Nat.{ℕ, ◌+◌, ◌-◌, ◌^◌}
use mathlib.Core.Path.{◌≡◌, refl}
use mathlib.Core.List.{List, [], ◌∷◌, map}
use native.Mathlib.Omega.{arith}
use lib.Count.{ones, ones_in}
use lib.ListN.{replicate, take}
use Rattle.model.specs.declared.Posted.TheVariants.{Copy, Dec as Decr, IncDec, Nothing}
use Rattle.model.specs.Answers.{Answer}
use Rattle.model.specs.declared.Call.{Call}
use Rattle.model.specs.declared.Call.TheVariants.{MakeCopy, Receive, Delete, Ask}
use Rattle.model.specs.Questions.{every, some, how_many, lowest_from, total, up_to}
use Rattle.model.specs.Messages.{message_of}
use Rattle.model.specs.Answers.{accepted, accepted_telling, refused, Outcome}
use Rattle.model.specs.Calls.{copy_refusal, delete_refusal, lent_refusal, front, open_refusal, open_desk, copy_number, copied, make_copy, receive_number, received, receive, delete_number, deleted, delete, ask_number, asked, ask, step}
use Rattle.model.specs.Tables.{Desk, lent, all_below, all_slots_good}
use Rattle.model.specs.Flat.{flat}
use Rattle.model.proofs.SameAnswers.{answered, after}
use Rattle.word_cells.specs.WordCells.{bit, with_bit, WordDesk, lent_in_words, words, count_number, counted, count_holders, packed, pack_number, pack, unpacked, unpack_number, unpack}
use Rattle.word_cells.proofs.CountLaws.{count_accepted}

-- ---- the count of holders
-- a desk, a pointer and the answer
pub record Counting : Type 0 where
  pub lent : WordDesk
  pub pointer : ℕ
  pub answer : Answer

abbrev counting : WordDesk → ℕ → Answer → Counting
counting d p answer = record { lent = d; pointer = p; answer = answer }

-- S = 3, one owner 0, no slots, these words
abbrev three : List ℕ → WordDesk
three table = lent_in_words 3 (0 ∷ []) (replicate 3 0) table []

-- S = 3, pointer 0 of site 0 and pointer 1 of site 2
abbrev two_pointers : WordDesk
two_pointers = lent_in_words 3 (0 ∷ 2 ∷ []) (replicate 6 0) (7 ∷ 4 ∷ []) []

-- one pointer of site 0 for S sites
abbrev many : ℕ → List ℕ → WordDesk
many sites table = lent_in_words sites (0 ∷ []) (replicate sites 0) table []

pub countings : List Counting
countings =
    counting (three (7 ∷ [])) 0 (accepted 3 Nothing)
    ∷ counting (three (8 ∷ [])) 0 (refused 2)
    ∷ counting (three (7 ∷ [])) 1 (refused 3)
    ∷ counting (three (7 ∷ 1 ∷ [])) 0 (refused 1)
    ∷ counting (three (0 ∷ [])) 0 (accepted 0 Nothing)
    ∷ counting (three []) 0 (refused 1)
    ∷ counting (three (8 ∷ [])) 1 (refused 2)
    ∷ counting two_pointers 0 (accepted 3 Nothing)
    ∷ counting two_pointers 1 (accepted 1 Nothing)
    ∷ counting (many 65 (0 ∷ [])) 0 (refused 1)
    ∷ []

pub counted_as_listed : map (λ c. (count_holders c.lent c.pointer).answer) countings ≡ map (λ c. c.answer) countings
unfolding countings count_holders count_number counted front lent_refusal all_below all_slots_good every ones ones_in
counted_as_listed = refl

-- S = 64 and a word of 64 ones: no bit stands above, and the count is 64
pub all_64_hold : (count_holders (many 64 ((2 ^ 64 - 1) ∷ [])) 0).answer ≡ accepted 64 Nothing
unfolding lent_refusal all_below all_slots_good every total bit
all_64_hold = count_accepted (many 64 ((2 ^ 64 - 1) ∷ [])) refl 0 (omega arith)

-- site 63 stands at bit 63, where a copy is marked and a delete clears it
abbrev at_63 : List ℕ → WordDesk
at_63 table = lent_in_words 64 (0 ∷ []) (replicate 64 0) table (1 ∷ 0 ∷ 63 ∷ 0 ∷ 0 ∷ 0 ∷ 0 ∷ 0 ∷ 0 ∷ 0 ∷ [])

pub site_63 : map (λ calls. (after words (at_63 (1 ∷ [])) calls).receive) ((Receive 0 ∷ []) ∷ (Receive 0 ∷ Delete 63 0 ∷ []) ∷ []) ≡ ((2 ^ 63 + 1) ∷ []) ∷ (1 ∷ []) ∷ []
unfolding after step front lent_refusal receive receive_number received delete delete_number delete_refusal deleted all_below all_slots_good every some how_many lowest_from message_of bit with_bit
site_63 = refl

-- ---- tables that mean the same may still be bad: an owner that is no site, a slot of kind 4; both desks give 2
abbrev bad_owner : List ℕ → Desk
bad_owner receive = lent 3 (5 ∷ []) (replicate 3 0) receive []

abbrev bad_slot : List ℕ → Desk
bad_slot receive = lent 3 (0 ∷ []) (replicate 3 0) receive (4 ∷ 0 ∷ 1 ∷ 0 ∷ 0 ∷ [])

pub both_give_2 : (step flat (bad_owner (1 ∷ 1 ∷ 0 ∷ [])) (Ask 0 0)).answer ∷ (step words (bad_owner (3 ∷ [])) (Ask 0 0)).answer
    ∷ (step flat (bad_slot (1 ∷ 1 ∷ 0 ∷ [])) (Receive 0)).answer ∷ (step words (bad_slot (3 ∷ [])) (Receive 0)).answer ∷ []
    ≡ replicate 4 (refused 2)
unfolding step front lent_refusal receive receive_number ask ask_number all_below all_slots_good every
both_give_2 = refl

-- ---- the fourteen lines of document 01
abbrev opened : WordDesk
opened = (open_desk words (lent_in_words 3 (0 ∷ []) (replicate 3 9) (9 ∷ []) (replicate 20 9))).desk

abbrev calls : List Call
calls =
    MakeCopy 0 1 0
    ∷ Receive 0
    ∷ MakeCopy 1 2 0
    ∷ Receive 0
    ∷ Delete 2 0
    ∷ Receive 1
    ∷ Ask 0 0
    ∷ Receive 0
    ∷ Receive 1
    ∷ Receive 0
    ∷ Delete 1 0
    ∷ Receive 0
    ∷ Ask 0 0
    ∷ []

pub fourteen_answers : answered words opened calls
    ≡ accepted_telling 4 0 (Copy 0 1 0)
    ∷ accepted 0 Nothing
    ∷ accepted_telling 4 0 (Copy 1 2 0)
    ∷ accepted 0 (IncDec 2 0 1 0)
    ∷ accepted_telling 3 1 (Decr 2 0 0)
    ∷ refused 9
    ∷ accepted 0 Nothing
    ∷ accepted 0 (Decr 0 1 0)
    ∷ accepted 1 Nothing
    ∷ accepted 0 Nothing
    ∷ accepted_telling 4 0 (Decr 1 0 0)
    ∷ accepted 0 Nothing
    ∷ accepted 1 Nothing
    ∷ []
unfolding answered open_desk open_refusal step front lent_refusal make_copy copy_number copy_refusal copied receive receive_number received delete delete_number delete_refusal deleted ask ask_number asked all_below all_slots_good every some how_many lowest_from message_of bit with_bit
fourteen_answers = refl

-- the word after lines 1 to 14
pub fourteen_words : map (λ n. (after words opened (take n calls)).receive) (0 ∷ 1 ∷ 2 ∷ 3 ∷ 4 ∷ 5 ∷ 6 ∷ 7 ∷ 8 ∷ 9 ∷ 10 ∷ 11 ∷ 12 ∷ 13 ∷ [])
    ≡ map (λ w. w ∷ []) (1 ∷ 1 ∷ 3 ∷ 3 ∷ 7 ∷ 3 ∷ 3 ∷ 3 ∷ 3 ∷ 3 ∷ 3 ∷ 1 ∷ 1 ∷ 1 ∷ [])
unfolding after open_desk open_refusal step front lent_refusal make_copy copy_number copy_refusal copied receive receive_number received delete delete_number delete_refusal deleted ask ask_number asked all_below all_slots_good every some how_many lowest_from message_of bit with_bit
fourteen_words = refl

-- ---- pack and unpack
-- sites, what is read, the room that is written, the number and what is left in the room
pub record Writing : Type 0 where
  pub sites : ℕ
  pub read : List ℕ
  pub room : List ℕ
  pub number : ℕ
  pub left : List ℕ

abbrev writing : ℕ → List ℕ → List ℕ → ℕ → List ℕ → Writing
writing sites read room number left = record { sites = sites; read = read; room = room; number = number; left = left }

pub packings : List Writing
packings =
    writing 2 (1 ∷ 1 ∷ 0 ∷ 0 ∷ 1 ∷ 0 ∷ []) (9 ∷ 9 ∷ 9 ∷ []) 0 (1 ∷ 3 ∷ 0 ∷ [])
    ∷ writing 3 (0 ∷ 0 ∷ 1 ∷ []) (9 ∷ []) 0 (4 ∷ [])
    ∷ writing 3 [] [] 0 []
    ∷ writing 3 (0 ∷ 2 ∷ 1 ∷ []) (9 ∷ []) 2 (9 ∷ [])
    ∷ writing 3 (0 ∷ 1 ∷ []) (9 ∷ []) 1 (9 ∷ [])
    ∷ writing 3 (0 ∷ 2 ∷ []) (9 ∷ []) 1 (9 ∷ [])
    ∷ writing 0 [] (9 ∷ []) 1 (9 ∷ [])
    ∷ writing 65 (replicate 65 0) (9 ∷ []) 1 (9 ∷ [])
    ∷ writing 1 (replicate 257 0) (replicate 257 9) 1 (replicate 257 9)
    ∷ writing 64 (replicate 64 1) (9 ∷ []) 0 ((2 ^ 64 - 1) ∷ [])
    ∷ []

abbrev result : Outcome (List ℕ) → Writing → Writing
result o w = writing w.sites w.read w.room o.answer.number o.desk

pub packed_as_listed : map (λ w. result (pack w.sites w.read w.room) w) packings ≡ packings
unfolding packings pack pack_number packed all_below every total up_to
packed_as_listed = refl

pub unpackings : List Writing
unpackings =
    writing 2 (1 ∷ 3 ∷ 0 ∷ []) (9 ∷ 9 ∷ 9 ∷ 9 ∷ 9 ∷ 9 ∷ []) 0 (1 ∷ 1 ∷ 0 ∷ 0 ∷ 1 ∷ 0 ∷ [])
    ∷ writing 3 (4 ∷ []) (9 ∷ 9 ∷ 9 ∷ []) 0 (0 ∷ 0 ∷ 1 ∷ [])
    ∷ writing 3 [] [] 0 []
    ∷ writing 3 (8 ∷ []) (9 ∷ 9 ∷ 9 ∷ []) 2 (9 ∷ 9 ∷ 9 ∷ [])
    ∷ writing 3 (8 ∷ []) (9 ∷ 9 ∷ []) 1 (9 ∷ 9 ∷ [])
    ∷ writing 0 (1 ∷ []) [] 1 []
    ∷ writing 65 (1 ∷ []) (replicate 65 9) 1 (replicate 65 9)
    ∷ writing 1 (replicate 257 0) (replicate 257 9) 1 (replicate 257 9)
    ∷ writing 63 (2 ^ 63 ∷ []) (replicate 63 9) 2 (replicate 63 9)
    ∷ writing 64 ((2 ^ 64 - 1) ∷ []) (replicate 64 9) 0 (replicate 64 1)
    ∷ []

pub unpacked_as_listed : map (λ w. result (unpack w.sites w.read w.room) w) unpackings ≡ unpackings
unfolding unpackings unpack unpack_number unpacked all_below every bit
unpacked_as_listed = refl
