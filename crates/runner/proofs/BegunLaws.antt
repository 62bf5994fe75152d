-- From the opening line on: it stops after a refused opening, or goes on with the lines after it.
use Rattle.std.proofs.Common.{◌≡◌, ℕ, zero, suc, ◌+◌, ◌*◌, ◌<◌, ◌≤◌, List, [], ◌∷◌, ◌++◌, length, Result, Ok, Err, refl, sym, ap, ◌∙◌, arith}
use mathlib.Core.List.{append-nil}
use lib.ListN.{length-append}
use lib.Seq.{sets}
use borrow.Author.Tests.{lt-ltb, le-ltb}
use Rattle.model.specs.Answers.{Answer, refused, Outcome}
use Rattle.model.specs.Tables.{Desk}
use Rattle.model.specs.Lines.{read_line, lines_of}
use Rattle.model.specs.Transcript.{answer_line, obeyed, answers, begun, transcript}
use Rattle.model.proofs.EachLineOnce.{each_line_once}
use Rattle.rules.specs.declared.refusal.Refusal.{Refusal}
use Rattle.rules.specs.declared.answer.Accepted.{Accepted}
use Rattle.rules.specs.Turned.{number_of, told}
use Rattle.rules.proofs.TurnedLaws.{number_given}
use Rattle.lines.proofs.StoreLaws.{sets_then, length_answer_line}
use Rattle.runner.specs.Run.{Written, written, room, run}

-- an answer line and then the rest are one text
pub line_then : (text rest : List ℕ) (at : ℕ) (a : Answer) → sets (sets text at (answer_line a)) (at + 17) rest ≡ sets text at (answer_line a ++ rest)
line_then text rest at a = sets_then (answer_line a) text rest at (at + 17) (omega (arith, length_answer_line a))

-- one answer line for each line
pub answers_length : (lines : List (List ℕ)) (d : Desk) → length (answers d lines) ≡ length lines * 17
unfolding answers
answers_length [] d = refl
answers_length (line ∷ lines) d =
    let o = obeyed d (read_line line) in
    length-append (answer_line o.answer) (answers o.desk lines) ∙ omega (arith, length_answer_line o.answer, answers_length lines o.desk)

-- one answer line is all
pub one_line : (output later : List ℕ) (a : Answer) → later ≡ sets output 0 (answer_line a) → record { output = later; count = 17 } ≡ written output (answer_line a)
one_line output later a e = rw (e, length_answer_line a)

module _ {o : Outcome Desk} (r : Result Accepted Refusal) (d : Desk) (lines : List (List ℕ)) (output : List ℕ) {later : List ℕ} where
  -- a refused opening
  pub stops : (refusal : Refusal) → r ≡ Err refusal → record { answer = told r; desk = d } ≡ o → later ≡ sets output 0 (answer_line (told r))
      → record { output = later; count = 17 } ≡ written output (begun o lines)
  stops refusal q e f =
      one_line output later (told r) f
      ∙ ap (written output) (ap (λ (x : Result Accepted Refusal). answer_line (told x)) q ∙ go (number_of refusal) (number_given refusal) ∙ ap (λ (x : Result Accepted Refusal). begun (record { answer = told x; desk = d }) lines) (sym q))
      ∙ ap (λ (x : Outcome Desk). written output (begun x lines)) e
    where
      go : (n : ℕ) → (n ≡ 0 → ⊥) → answer_line (refused n) ≡ begun (record { answer = refused n; desk = d }) lines
      go zero h = absurd (h refl)
      go (suc n) h = sym (append-nil (answer_line (refused (suc n))))

  -- an accepted one
  pub goes_on_lem : (a : Accepted) {last : List ℕ} {count : ℕ} → r ≡ Ok a → record { answer = told r; desk = d } ≡ o → later ≡ sets output 0 (answer_line (told r))
      → last ≡ sets later 17 (answers d lines) → count ≡ 17 + length lines * 17 → record { output = last; count = count } ≡ written output (begun o lines)
  goes_on_lem a {last} {count} q e f g h =
      let text = answer_line (told r) ++ answers d lines in
      let all : last ≡ sets output 0 text = g ∙ ap (λ (l : List ℕ). sets l 17 (answers d lines)) f ∙ line_then output (answers d lines) 0 (told r) in
      let long : count ≡ length text = h ∙ omega (arith, length-append (answer_line (told r)) (answers d lines), length_answer_line (told r), answers_length lines d) in
      let whole : text ≡ begun (record { answer = told r; desk = d }) lines = rw q refl in
      (λ i. record { output = all i; count = long i }) ∙ ap (written output) whole ∙ ap (λ (x : Outcome Desk). written output (begun x lines)) e

-- an output that is long enough for every input has room for the answer lines
pub lines_fit : (text line : List ℕ) (rest : List (List ℕ)) → lines_of text ≡ line ∷ rest → length text ≤ 8192 → 17 + length rest * 17 ≤ room
lines_fit text line rest e h = let n : length (lines_of text) ≡ length rest + 1 = rw e (omega arith) in omega (arith, (each_line_once text).few)

-- ---- a whole run
module _ (input output : List ℕ) where
  pub too_long : {w : Written} → room ≤ length output → 8192 < length input → w ≡ written output (answer_line (refused 17)) → w ≡ run input output
  unfolding run transcript
  too_long h l e = simp (le-ltb (length output) room h, lt-ltb 8192 (length input) l) e
