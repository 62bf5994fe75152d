-- Document 01, "Lines": after an accepted opening the program keeps a reached desk before every line, and answer line k + 1 is that of line k.
use Prim.Native.Nat.{ℕ, zero, suc, ◌+◌, ◌*◌, ◌/◌, ◌%◌, ◌≤◌, ◌<◌}
use mathlib.Core.Path.{◌≡◌, sym, ap, ◌∙◌}
use mathlib.Core.Bool.{Bool, true, false, not}
use mathlib.Core.List.{List, [], ◌∷◌, ◌++◌}
use native.Mathlib.Nat.{not-suc-le-zero, le_of_suc-le-suc}
use native.Mathlib.Omega.{arith}
use lib.ListN.{length, get_or, take, drop, length-append}
use lib.Seq.{take-append_seam, drop-append-add}
use Rattle.model.specs.Answers.{Answer}
use Rattle.model.specs.Lines.{Read}
use Rattle.model.specs.Lines.{Said, Refused}
use Rattle.model.specs.Refusals.{BadLine, ◌when◌}
use Rattle.model.specs.Answers.{unless}
use Rattle.model.specs.Calls.{open_desk}
use Rattle.model.specs.Tables.{Desk}
use Rattle.model.specs.Flat.{flat}
use Rattle.model.specs.Lines.{newline, digits_of, read_line, lines_of}
use Rattle.model.specs.Transcript.{answer_bytes, answer_line, opening_form, sites_in, slots_in, owners_in, fresh, opening, obeyed, answers, desk_before, answer_line_at, goes_on, session, transcript}
use Rattle.model.specs.Demands.{begins, moves, Opened, Reached}
use Rattle.model.proofs.SlotLaws.{five_bytes}
use Rattle.model.proofs.DigitLaws.{digit_zero, length_digits}
use Rattle.model.proofs.OpeningLaws.{opening_opens}
use Rattle.model.proofs.Openings.{not_too_long}

-- ---- every desk of a session is reached
-- an opening line that is accepted opens
opened_by : (line : List ℕ) → (opening line).answer.number ≡ 0 → Opened flat (opening line).desk
unfolding opening
opened_by line e = go (opening_form line) e
  where
    d : Desk
    d = fresh (sites_in line) (owners_in line) (slots_in line)

    go : (b : Bool) → (unless (BadLine when not b) (fresh 0 [] 0) (open_desk flat d)).answer.number ≡ 0
        → Opened flat (unless (BadLine when not b) (fresh 0 [] 0) (open_desk flat d)).desk
    go true e = opening_opens flat d e
    go false e = absurd (omega arith)

-- what a line says is a call, or leaves the desk
still_reached : {d : Desk} (read : Read) → Reached flat d → Reached flat (obeyed d read).desk
still_reached (Said call) r = moves r call
still_reached (Refused n) r = r

reached_before : {d : Desk} (lines : List (List ℕ)) (k : ℕ) → Reached flat d → Reached flat (desk_before d lines k)
unfolding desk_before
reached_before lines zero r = r
reached_before [] (suc k) r = r
reached_before {d = d} (line ∷ lines) (suc k) r = reached_before {d = (obeyed d (read_line line)).desk} lines k (still_reached (read_line line) r)

-- ---- each answer line has 17 characters, so line k is answered from k x 17 on
answer_long : (a : Answer) → length (answer_line a) ≡ 17
unfolding answer_line
answer_long a = length-append (digits_of (answer_bytes a)) (newline ∷ []) ∙ omega (arith, length_digits (answer_bytes a), five_bytes a.posted)

-- the digits 00 at its start are those of number 0
pub accepted_digits : (a : Answer) → take 2 (answer_line a) ≡ digits_of (0 ∷ []) → a.number ≡ 0
unfolding answer_line digits_of
accepted_digits a e =
    let high = digit_zero (a.number / 16) (ap (λ (text : List ℕ). get_or text 0 0) e) in
    let low = digit_zero (a.number % 16) (ap (λ (text : List ℕ). get_or text 1 0) e) in
    omega arith

first_line : (a : Answer) (rest : List ℕ) → take 17 (answer_line a ++ rest) ≡ answer_line a
first_line a rest = ap (λ (n : ℕ). take n (answer_line a ++ rest)) (sym (answer_long a)) ∙ take-append_seam (answer_line a) rest

later_lines : (a : Answer) (rest : List ℕ) (k : ℕ) → drop (suc k * 17) (answer_line a ++ rest) ≡ drop (k * 17) rest
later_lines a rest k =
    let n : suc k * 17 ≡ length (answer_line a) + k * 17 = omega (arith, answer_long a) in
    ap (λ (n : ℕ). drop n (answer_line a ++ rest)) n ∙ drop-append-add (answer_line a) rest (k * 17)

answers_at : (d : Desk) (lines : List (List ℕ)) (k : ℕ) → k < length lines
    → answer_line_at (answers d lines) k ≡ answer_line (obeyed (desk_before d lines k) (read_line (get_or lines k []))).answer
unfolding answers desk_before
answers_at d [] k l = absurd (not-suc-le-zero l)
answers_at d (line ∷ lines) zero l = first_line (obeyed d (read_line line)).answer _
answers_at d (line ∷ lines) (suc k) l =
    ap (take 17) (later_lines (obeyed d (read_line line)).answer (answers (obeyed d (read_line line)).desk lines) k)
    ∙ answers_at (obeyed d (read_line line)).desk lines k (le_of_suc-le-suc l)

-- ---- an input of at most 8,192 bytes whose first line opens
module _ (input opens : List ℕ) (lines : List (List ℕ)) (few : length input ≤ 8192) (read : lines_of input ≡ opens ∷ lines) (accepts : (opening opens).answer.number ≡ 0) where
  whole : transcript input ≡ answer_line (opening opens).answer ++ answers (opening opens).desk lines
  unfolding session
  whole = not_too_long input few ∙ ap session read ∙ ap (λ (n : ℕ). answer_line (opening opens).answer ++ goes_on n (answers (opening opens).desk lines)) accepts

  -- Before every line the desk is a reached one.
  pub desk_before_is_reached : (k : ℕ) → Reached flat (desk_before (opening opens).desk lines k)
  desk_before_is_reached k = reached_before lines k (begins (opened_by opens accepts))

  -- Answer line k + 1 is that of what line k gives on that desk.
  pub answer_line_of_line : (k : ℕ) → k < length lines
      → answer_line_at (transcript input) (k + 1) ≡ answer_line (obeyed (desk_before (opening opens).desk lines k) (read_line (get_or lines k []))).answer
  answer_line_of_line k l =
      let n : k + 1 ≡ suc k = omega arith in
      rw (n, whole) (ap (take 17) (later_lines (opening opens).answer (answers (opening opens).desk lines) k) ∙ answers_at (opening opens).desk lines k l)
