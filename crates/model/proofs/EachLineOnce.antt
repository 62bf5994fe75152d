-- Document 01, "Lines": a reader that goes from answer to answer visits each line of the text once, in order, and ends.
use Prim.Native.Nat.{ℕ, zero, suc, ◌≤◌, ◌<◌}
use mathlib.Core.Path.{◌≡◌, refl, sym, ap, ◌∙◌}
use mathlib.Core.Bool.{Bool, true, false, cond}
use mathlib.Core.List.{List, [], ◌∷◌}
use native.Mathlib.Omega.{arith}
use native.Mathlib.Nat.{add-zero}
use native.Mathlib.Numerals.{add-one}
use lib.Dec.{eqb, ltb}
use lib.ListN.{length, get_or, drop, length-drop}
use lib.Seq.{drop-drop, get_or-drop, ext_get_or}
use borrow.Author.Tests.{ltb-true, ltb-false}
use Rattle.model.specs.Lines.{Ended}
use Rattle.model.specs.Lines.{newline, onto, lines_of, line_at, past_at, next_at}
use Rattle.model.proofs.QuestionLaws.{length_up_to, up_to_at}
use Rattle.model.specs.Places.{moved_to, place_after, visited, EachLineOnce}
use Rattle.model.proofs.LineLaws.{past_later, no_lines, lines_at, answer_there, none_there}

-- ---- what is left after k answers
drop_next : (lines rest : List (List ℕ)) (k : ℕ) → rest ≡ drop k lines → drop 1 rest ≡ drop (suc k) lines
drop_next lines rest k e = ap (drop 1) e ∙ drop-drop 1 k lines ∙ ap (λ (n : ℕ). drop n lines) (add-one k)

moved_by : (t : Bool) (text : List ℕ) (at : ℕ) (lines : List (List ℕ)) (k : ℕ) → ltb at (length text) ≡ t → lines_of (drop at text) ≡ drop k lines
    → lines_of (drop (moved_to at (next_at text at)) text) ≡ drop (suc k) lines
moved_by true text at lines k t e =
    let h = ltb-true at (length text) t in
    rw (answer_there text at h) (drop_next lines (line_at text at ∷ lines_of (drop (past_at text at) text)) k (sym (lines_at text at h) ∙ e))
moved_by false text at lines k t e =
    let h = ltb-false at (length text) t in
    rw (none_there text at h) (no_lines text at h ∙ drop_next lines [] k (sym (no_lines text at h) ∙ e))

-- the lines from where the reader stands after k answers are those after the first k
pub left_after : (text : List ℕ) (k : ℕ) → lines_of (drop (place_after text k) text) ≡ drop k (lines_of text)
unfolding place_after
left_after text zero = refl
left_after text (suc k) = moved_by (ltb (place_after text k) (length text)) text (place_after text k) (lines_of text) k refl (left_after text k)

-- ---- at a place whose lines are those after the first k
module _ (text : List ℕ) (at : ℕ) (lines : List (List ℕ)) (k : ℕ) (e : lines_of (drop at text) ≡ drop k lines) where
  still_there : k < length lines → at < length text
  still_there h = go (ltb at (length text)) refl
    where
      go : (t : Bool) → ltb at (length text) ≡ t → at < length text
      go true t = ltb-true at (length text) t
      go false t =
          let none : [] ≡ drop k lines = sym (no_lines text at (ltb-false at (length text) t)) ∙ e in
          absurd (omega (arith, ap length none, length-drop k lines))

  none_left : length lines ≤ k → length text ≤ at
  none_left h = go (ltb at (length text)) refl
    where
      go : (t : Bool) → ltb at (length text) ≡ t → length text ≤ at
      go true t =
          let some : line_at text at ∷ lines_of (drop (past_at text at) text) ≡ drop k lines = sym (lines_at text at (ltb-true at (length text) t)) ∙ e in
          absurd (omega (arith, ap length some, length-drop k lines))
      go false t = ltb-false at (length text) t

  line_there_is : at < length text → line_at text at ≡ get_or lines k []
  line_there_is h =
      ap (λ (ls : List (List ℕ)). get_or ls 0 []) (sym (lines_at text at h) ∙ e)
      ∙ get_or-drop k lines 0 [] ∙ ap (λ (n : ℕ). get_or lines n []) (add-zero k)

-- ---- each line has a character of its own
onto_length : (c : ℕ) (lines : List (List ℕ)) → length (onto c lines) ≤ suc (length lines)
onto_length c [] = omega arith
onto_length c (line ∷ lines) = omega arith

few_lines : (text : List ℕ) → length (lines_of text) ≤ length text
unfolding lines_of
few_lines [] = omega arith
few_lines (c ∷ cs) = go (eqb c newline) (few_lines cs)
  where
    go : (t : Bool) → length (lines_of cs) ≤ length cs → length (cond t ([] ∷ lines_of cs) (onto c (lines_of cs))) ≤ suc (length cs)
    go true h = omega arith
    go false h = omega (arith, onto_length c (lines_of cs))

-- ---- the whole
module _ (text : List ℕ) where
  there : (k : ℕ) → k < length (lines_of text) → place_after text k < length text
  there k h = still_there text (place_after text k) (lines_of text) k (left_after text k) h

  line_is : (k : ℕ) → k < length (lines_of text) → line_at text (place_after text k) ≡ get_or (lines_of text) k []
  line_is k h = line_there_is text (place_after text k) (lines_of text) k (left_after text k) (there k h)

  moved_past : (k : ℕ) → k < length (lines_of text) → place_after text (suc k) ≡ past_at text (place_after text k)
  unfolding place_after
  moved_past k h = ap (moved_to (place_after text k)) (answer_there text (place_after text k) (there k h))

  all_visited : visited text (length (lines_of text)) ≡ lines_of text
  all_visited =
      let n = length_up_to (length (lines_of text)) (λ k. line_at text (place_after text k)) in
      ext_get_or [] (visited text (length (lines_of text))) (lines_of text) n
      (λ i h. let l : i < length (lines_of text) = omega arith in
      up_to_at (length (lines_of text)) (λ k. line_at text (place_after text k)) [] i l ∙ line_is i l)

  stays : (k : ℕ) → length (lines_of text) ≤ k → next_at text (place_after text k) ≡ Ended
  stays k h = none_there text (place_after text k) (none_left text (place_after text k) (lines_of text) k (left_after text k) h)

  stays_there : (k : ℕ) → length (lines_of text) ≤ k → place_after text (suc k) ≡ place_after text k
  unfolding place_after
  stays_there k h = ap (moved_to (place_after text k)) (stays k h)

-- every text
pub each_line_once : (text : List ℕ) → EachLineOnce text
each_line_once text =
    record {
      all = all_visited text;
      said = λ k h. rw (moved_past text k h, ← line_is text k h) (answer_there text (place_after text k) (there text k h));
      onward = λ k h. rw (moved_past text k h) (past_later text (place_after text k) (there text k h));
      ended = λ k h. (stays text k h, stays_there text k h);
      few = few_lines text;
    }
