-- Where a reader stands past the line that starts at a place, as its code computes it: the end of the text less what follows the line.
use Rattle.std.proofs.Common.{◌≡◌, ℕ, ◌+◌, ◌-◌, ◌≤◌, ◌<◌, Bool, true, false, List, ◌∷◌, length, take, drop, cond, refl, sym, ap, length-drop, arith}
use lib.Dec.{ltb}
use borrow.Author.Tests.{ltb-true, ltb-false}
use Rattle.model.specs.Lines.{lines_of, width, end_at, next_at}
use Rattle.model.specs.Places.{moved_to}
use Rattle.model.proofs.LineLaws.{lines_at, answer_there, none_there}

past_by : (t : Bool) (text : List ℕ) (at : ℕ) → ltb (end_at text at) (length text) ≡ t → at < length text
    → length text - (length text - at - (width (drop at text) + 1)) ≡ cond t (end_at text at + 1) (length text)
past_by true text at e h = let l = ltb-true (end_at text at) (length text) e in omega arith
past_by false text at e h = let l = ltb-false (end_at text at) (length text) e in omega arith

-- past a line
pub moved_past : (text : List ℕ) (at : ℕ) → at < length text → moved_to at (next_at text at) ≡ length text - length (drop (width (drop at text) + 1) (drop at text))
moved_past text at h = simp (answer_there text at h, length-drop) (sym (past_by (ltb (end_at text at) (length text)) text at refl h))

-- at the end it stays
pub moved_nowhere : (text : List ℕ) (at : ℕ) → length text ≤ at → moved_to at (next_at text at) ≡ at
moved_nowhere text at h = ap (moved_to at) (none_there text at h)

-- the lines from a place on: the line that starts there, then those of what follows it
pub lines_past : (text : List ℕ) (at : ℕ) → at < length text
    → lines_of (drop at text) ≡ take (width (drop at text)) (drop at text) ∷ lines_of (drop (length text - length (drop (width (drop at text) + 1) (drop at text))) text)
lines_past text at h = rw (← moved_past text at h, answer_there text at h) (lines_at text at h)
