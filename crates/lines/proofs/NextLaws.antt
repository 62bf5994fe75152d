-- What a reader answers at a place, from the lines that are left there.
use Rattle.std.proofs.Common.{◌≡◌, ℕ, Bool, true, false, List, [], ◌∷◌, length, drop, refl, sym, ◌∙◌}
use lib.Dec.{ltb}
use borrow.Author.Tests.{ltb-true, ltb-false}
use Rattle.model.specs.Lines.{Line, Ended}
use Rattle.model.specs.Lines.{read_line, lines_of, next_at}
use Rattle.model.specs.Places.{moved_to}
use Rattle.model.proofs.LineLaws.{lines_at, no_lines, answer_there, none_there}

-- none is left
pub answers_none : (text : List ℕ) (at : ℕ) → lines_of (drop at text) ≡ [] → next_at text at ≡ Ended
answers_none text at e = go (ltb at (length text)) refl
  where
    go : (t : Bool) → ltb at (length text) ≡ t → next_at text at ≡ Ended
    go true l = let f = sym (lines_at text at (ltb-true at (length text) l)) ∙ e in cc
    go false l = none_there text at (ltb-false at (length text) l)

-- the first of them
pub answers_line : (text : List ℕ) (at : ℕ) (line : List ℕ) (rest : List (List ℕ)) → lines_of (drop at text) ≡ line ∷ rest
    → next_at text at ≡ Line (read_line line) (moved_to at (next_at text at))
answers_line text at line rest e = go (ltb at (length text)) refl
  where
    go : (t : Bool) → ltb at (length text) ≡ t → next_at text at ≡ Line (read_line line) (moved_to at (next_at text at))
    go true l =
        let h = ltb-true at (length text) l in
        let f = sym (lines_at text at h) ∙ e in
        let a = answer_there text at h in
        rw (a) (cc)
    go false l = let f = sym (no_lines text at (ltb-false at (length text) l)) ∙ e in cc
