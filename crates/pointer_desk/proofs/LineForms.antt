-- Document 01, "Lines", in C's form: what a host writes it reads back and stands past; what is no call writes nothing, and a refused line gives its number; at the end the reader has ended and stays.
use Prim.Native.Nat.{ℕ, ◌≤◌, ◌<◌}
use mathlib.Core.Path.{◌≡◌, refl, sym, ap, ◌∙◌}
use mathlib.Core.List.{List, [], ◌∷◌}
use lib.ListN.{length}
use borrow.Author.Tests.{lt-ltb}
use Rattle.model.specs.declared.Call.{Call}
use Rattle.model.specs.Lines.{Read}
use Rattle.model.specs.Lines.{Said, Refused}
use Rattle.model.specs.Lines.{Next}
use Rattle.model.specs.Answers.{refused}
use Rattle.model.specs.Lines.{digits_of, read_bytes, read_line, line_at, past_at, next_at}
use Rattle.model.specs.Places.{moved_to}
use Rattle.model.proofs.DigitLaws.{byte_of_digits}
use Rattle.model.proofs.CallLaws.{each_below, line_by_bytes, bytes_of_said}
use Rattle.model.proofs.LineLaws.{none_there}
use Rattle.model.proofs.RoundTrip.{fits_of_read, next_of_written}
use Rattle.pointer_desk.specs.Boundary.{read_written, line_written, flat_next, line_given}

-- a call, in a text that is long enough: its four bytes come back, and the reader stands past its line
pub there_and_back : (text : List ℕ) (code a b c : ℕ) (call : Call) → read_bytes code a b c ≡ Said call → 9 ≤ length text
    → line_given (line_written text code a b c).desk 0 ≡ record { number = 0; ended = 0; call = code ∷ a ∷ b ∷ c ∷ []; at = 9 }
unfolding digits_of
there_and_back text code a b c call e h =
    let said = bytes_of_said code a b c call e in
    let below = each_below code a b c said.0 in
    let line = digits_of (code ∷ a ∷ b ∷ c ∷ []) in
    let read : read_line line ≡ Said call =
    sym (line_by_bytes line code a b c refl
    (sym (byte_of_digits code below.0)) (sym (byte_of_digits a below.1)) (sym (byte_of_digits b below.2)) (sym (byte_of_digits c below.3))) ∙ e in
    ap (λ (r : Read). line_given (read_written text r).desk 0) e
    ∙ ap (λ (n : Next). flat_next n (moved_to 0 n)) (next_of_written text call (fits_of_read line call read) h)
    ∙ ap (λ (bytes : List ℕ). record { number = 0; ended = 0; call = bytes; at = 9 }) said.1

-- four bytes that are no call: their number, and the text is kept
pub no_call_kept : (text : List ℕ) (code a b c n : ℕ) → read_bytes code a b c ≡ Refused n → line_written text code a b c ≡ record { answer = refused n; desk = text }
no_call_kept text code a b c n e = ap (read_written text) e

-- a line that says no call: its number and no call, and the reader stands past it
pub refused_read : (text : List ℕ) (at n : ℕ) → at < length text → read_line (line_at text at) ≡ Refused n
    → line_given text at ≡ record { number = n; ended = 0; call = 0 ∷ 0 ∷ 0 ∷ 0 ∷ []; at = past_at text at }
unfolding next_at
refused_read text at n l e = rw (lt-ltb at (length text) l, e)

-- no character is left: neither a call nor a refusal, and it stays
pub ended_stays : (text : List ℕ) (at : ℕ) → length text ≤ at → line_given text at ≡ record { number = 0; ended = 1; call = 0 ∷ 0 ∷ 0 ∷ 0 ∷ []; at = at }
ended_stays text at h = ap (λ (n : Next). flat_next n (moved_to at n)) (none_there text at h)
