-- The line that starts at a place: where it ends, what follows it, and the lines of a text from that place on.
use Prim.Native.Nat.{ℕ, suc, ◌+◌, ◌-◌, ◌≤◌, ◌<◌}
use mathlib.Core.Path.{◌≡◌, refl, sym, ap, ◌∙◌}
use mathlib.Core.Bool.{Bool, true, false, cond}
use mathlib.Core.List.{List, [], ◌∷◌}
use native.Mathlib.Omega.{arith}
use native.Mathlib.Numerals.{add-one}
use lib.Dec.{eqb, ltb}
use lib.ListN.{length, get_or, take, drop, length-drop, drop_of_length-le}
use lib.Seq.{drop-cons, drop-drop}
use borrow.Author.Tests.{lt-ltb, le-ltb, eq-eqb, ne_eqb, ltb-true, ltb-false}
use Rattle.model.specs.Lines.{Read}
use Rattle.model.specs.Lines.{Line, Ended}
use Rattle.model.specs.Lines.{newline, read_line, onto, lines_of, width, end_at, line_at, past_at, next_at}

-- ---- the end of a line, by steps
width_here : (l : List ℕ) (c : ℕ) (cs : List ℕ) → l ≡ c ∷ cs → c ≡ newline → width l ≡ 0
unfolding width
width_here l c cs e q = ap width e ∙ simp (eq-eqb c newline q)

width_on : (l : List ℕ) (c : ℕ) (cs : List ℕ) → l ≡ c ∷ cs → (c ≡ newline → ⊥) → width l ≡ suc (width cs)
unfolding width
width_on l c cs e q = ap width e ∙ simp (ne_eqb c newline q)

pub end_here : (text : List ℕ) (end : ℕ) → end < length text → get_or text end 0 ≡ newline → end_at text end ≡ end
end_here text end h q = let w = width_here (drop end text) (get_or text end 0) (drop (suc end) text) (drop-cons text end 0 h) q in omega arith

pub end_on : (text : List ℕ) (end : ℕ) → end < length text → (get_or text end 0 ≡ newline → ⊥) → end_at text end ≡ end_at text (end + 1)
end_on text end h q =
    let w : width (drop end text) ≡ suc (width (drop (suc end) text)) = width_on (drop end text) (get_or text end 0) (drop (suc end) text) (drop-cons text end 0 h) q in
    rw add-one (omega arith)

pub end_last : (text : List ℕ) (end : ℕ) → length text ≤ end → end_at text end ≡ end
unfolding width
end_last text end h = let w : width (drop end text) ≡ 0 = ap width (drop_of_length-le text h) in omega arith

-- ---- its bounds
width_most : (l : List ℕ) → width l ≤ length l
unfolding width
width_most [] = omega arith
width_most (c ∷ cs) = go (eqb c newline) (width_most cs)
  where
    go : (t : Bool) → width cs ≤ length cs → cond t 0 (suc (width cs)) ≤ suc (length cs)
    go true h = omega arith
    go false h = omega arith

pub end_most : (text : List ℕ) (at : ℕ) → at ≤ length text → end_at text at ≤ length text
end_most text at h = omega (arith, width_most (drop at text), length-drop at text)

past_by : (t : Bool) (text : List ℕ) (at : ℕ) → ltb (end_at text at) (length text) ≡ t → at < length text
    → (at < cond t (end_at text at + 1) (length text)) × (cond t (end_at text at + 1) (length text) ≤ length text)
past_by true text at e h = let l = ltb-true (end_at text at) (length text) e in (omega arith, omega arith)
past_by false text at e h = (omega arith, omega arith)

-- the place past a line is past its start, and no further than the end
pub past_later : (text : List ℕ) (at : ℕ) → at < length text → (at < past_at text at) × (past_at text at ≤ length text)
past_later text at h = past_by (ltb (end_at text at) (length text)) text at refl h

-- ---- the first line and the rest
first_by : (t : Bool) (c : ℕ) (cs : List ℕ) → onto c (lines_of cs) ≡ (c ∷ take (width cs) cs) ∷ lines_of (drop (suc (width cs)) cs)
    → cond t ([] ∷ lines_of cs) (onto c (lines_of cs)) ≡ take (cond t 0 (suc (width cs))) (c ∷ cs) ∷ lines_of (drop (suc (cond t 0 (suc (width cs)))) (c ∷ cs))
first_by true c cs h = refl
first_by false c cs h = h

first_line : (c : ℕ) (cs : List ℕ) → lines_of (c ∷ cs) ≡ take (width (c ∷ cs)) (c ∷ cs) ∷ lines_of (drop (suc (width (c ∷ cs))) (c ∷ cs))
unfolding lines_of width
first_line c [] = first_by (eqb c newline) c [] refl
first_line c (x ∷ xs) = first_by (eqb c newline) c (x ∷ xs) (ap (onto c) (first_line x xs))

first_of : (l : List ℕ) → 0 < length l → lines_of l ≡ take (width l) l ∷ lines_of (drop (suc (width l)) l)
first_of [] h = absurd (omega arith)
first_of (c ∷ cs) h = first_line c cs

-- what follows a line follows its end by one character, or is nothing
rest_by : (t : Bool) (text : List ℕ) (end : ℕ) → ltb end (length text) ≡ t → drop (suc end) text ≡ drop (cond t (end + 1) (length text)) text
rest_by true text end e = rw add-one
rest_by false text end e =
    let l = ltb-false end (length text) e in
    let past : length text ≤ suc end = omega arith in
    let last : length text ≤ length text = omega arith in
    drop_of_length-le text past ∙ sym (drop_of_length-le text last)

-- no line starts past the last character
pub no_lines : (text : List ℕ) (at : ℕ) → length text ≤ at → lines_of (drop at text) ≡ []
unfolding lines_of
no_lines text at h = ap lines_of (drop_of_length-le text h)

-- the lines from a place on: the line that starts there, then the lines from past it on
pub lines_at : (text : List ℕ) (at : ℕ) → at < length text → lines_of (drop at text) ≡ line_at text at ∷ lines_of (drop (past_at text at) text)
lines_at text at h =
    let n : 0 < length (drop at text) = simp length-drop (omega arith) in
    let k : at + suc (width (drop at text)) ≡ suc (end_at text at) = omega arith in
    let d = drop-drop (suc (width (drop at text))) at text in
    let r = rest_by (ltb (end_at text at) (length text)) text (end_at text at) refl in
    first_of (drop at text) n ∙ rw (d, k, r)

-- ---- what the reader answers, as its code computes it
pub line_there : (text : List ℕ) (at end past : ℕ) (read : Read) → at < length text → end ≡ end_at text at → read ≡ read_line (take (end - at) (drop at text))
    → past ≡ cond (ltb end (length text)) (end + 1) (length text) → Line read past ≡ next_at text at
unfolding next_at
line_there text at end past read h e p q =
    let w : end - at ≡ width (drop at text) = omega arith in
    simp (p, q, w, lt-ltb at (length text) h) (rw e)

-- ---- what it answers at a place, where a line starts there and where none does
pub answer_there : (text : List ℕ) (at : ℕ) → at < length text → next_at text at ≡ Line (read_line (line_at text at)) (past_at text at)
unfolding next_at
answer_there text at h = simp (lt-ltb at (length text) h)

pub none_there : (text : List ℕ) (at : ℕ) → length text ≤ at → next_at text at ≡ Ended
unfolding next_at
none_there text at h = simp (le-ltb at (length text) h)
