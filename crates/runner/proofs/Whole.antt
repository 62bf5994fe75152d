-- A whole run, in plain words: no two results meet its promise, the transcript always fits, stands first, and the rest is as it was.
use Prim.Native.Nat.{ℕ, zero, suc, ◌+◌, ◌*◌, ◌≤◌}
use mathlib.Core.Path.{◌≡◌, refl, ap, ◌∙◌}
use mathlib.Core.Bool.{Bool, true, false, cond}
use mathlib.Core.List.{List, [], ◌∷◌, ◌++◌}
use native.Mathlib.Omega.{arith}
use lib.Dec.{ltb}
use lib.ListN.{length, drop, length-append}
use lib.Seq.{sets-eq}
use borrow.Author.Tests.{le-ltb, ltb-false}
use Rattle.model.specs.Answers.{refused}
use Rattle.model.specs.Lines.{lines_of}
use Rattle.model.specs.Transcript.{answer_line, answers, goes_on, opening, session, transcript}
use Rattle.lines.proofs.StoreLaws.{length_answer_line}
use Rattle.model.proofs.EachLineOnce.{each_line_once}
use Rattle.model.proofs.OneOutcome.{one_outcome}
use Rattle.runner.proofs.BegunLaws.{answers_length}
use Rattle.runner.specs.Run.{Written, written, room, run}

-- ---- the greatest length
goes_on_most : (n : ℕ) (text : List ℕ) → length (goes_on n text) ≤ length text
goes_on_most zero text = omega arith
goes_on_most (suc n) text = omega arith

session_most : (lines : List (List ℕ)) → length (session lines) ≤ length lines * 17
unfolding session
session_most [] = omega arith
session_most (line ∷ lines) =
    let o = opening line in
    let rest = answers o.desk lines in
    omega (arith, length-append (answer_line o.answer) (goes_on o.answer.number rest), length_answer_line o.answer, goes_on_most o.answer.number rest, answers_length lines o.desk)

transcript_by : (t : Bool) (input : List ℕ) → ltb 8192 (length input) ≡ t → length (cond t (answer_line (refused 17)) (session (lines_of input))) ≤ room
transcript_by true input e = omega (arith, length_answer_line (refused 17))
transcript_by false input e = omega (arith, ltb-false 8192 (length input) e, session_most (lines_of input), (each_line_once input).few)

-- 8,192 lines of 17 characters are enough for every input
pub transcript_fits : (input : List ℕ) → length (transcript input) ≤ room
unfolding transcript
transcript_fits input = transcript_by (ltb 8192 (length input)) input refl

-- ---- what a run leaves
short_by : (t : Bool) (input output : List ℕ) → ltb (length output) room ≡ t → length (cond t [] (transcript input)) ≤ length output
short_by true input output e = omega arith
short_by false input output e = omega (arith, ltb-false (length output) room e, transcript_fits input)

most_by : (t : Bool) (input : List ℕ) → length (cond t [] (transcript input)) ≤ room
most_by true input = omega arith
most_by false input = transcript_fits input

-- the count is at most 139,264, and within the output
pub count_most : (input output : List ℕ) {w : Written} → w ≡ run input output → w.count ≤ room
unfolding run
count_most input output e = rw e (most_by (ltb (length output) room) input)

pub count_within : (input output : List ℕ) {w : Written} → w ≡ run input output → w.count ≤ length output
unfolding run
count_within input output e = rw e (short_by (ltb (length output) room) input output refl)

-- with room, the transcript stands first and what follows it is as it was
with_room : (input output : List ℕ) → room ≤ length output → run input output ≡ written output (transcript input)
unfolding run
with_room input output h = simp (le-ltb (length output) room h)

pub transcript_first : (input output : List ℕ) {w : Written} → room ≤ length output → w ≡ run input output
    → (w.output ≡ transcript input ++ drop (length (transcript input)) output) × (w.count ≡ length (transcript input))
transcript_first input output h e =
    let text = transcript input in
    let q = e ∙ with_room input output h in
    let start : 0 + length text ≡ length text = omega arith in
    (ap (λ (x : Written). x.output) q ∙ sets-eq text output 0 (omega (arith, transcript_fits input)) ∙ ap (λ (k : ℕ). text ++ drop k output) start, ap (λ (x : Written). x.count) q)

-- ---- no two results meet the promise
module _ (input output : List ℕ) where
  -- what `run` promises
  abbrev pub RunPromise : ℕ → List ℕ → Type 0
  RunPromise r output' = record { output = output'; count = r } ≡ run input output

  pub no_two_results : {r q : ℕ} {output' output'' : List ℕ} → RunPromise r output' → RunPromise q output'' → (r ≡ q) × (output' ≡ output'')
  no_two_results e f = (one_outcome (λ (w : Written). w.count) e f, one_outcome (λ (w : Written). w.output) e f)
