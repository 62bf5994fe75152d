-- Document 01, "Lines": a writer whose lent text is too short gives 1 and writes nothing; memory past the written text stays as it was.
use Prim.Native.Nat.{ℕ, ◌+◌, ◌≤◌, ◌<◌}
use mathlib.Core.Path.{◌≡◌, refl, ap, ◌∙◌}
use mathlib.Core.List.{List, [], ◌∷◌, ◌++◌}
use native.Mathlib.Omega.{arith}
use lib.ListN.{length, take, drop, length-append}
use lib.Seq.{sets, sets-eq, take_at, drop_at}
use borrow.Author.Tests.{lt-ltb, le-ltb}
use Rattle.model.specs.declared.Posted.TheVariants.{Nothing}
use Rattle.model.specs.declared.Call.{Call}
use Rattle.model.specs.declared.Call.TheVariants.{MakeCopy, Receive, Delete, Ask}
use Rattle.model.specs.Answers.{accepted, refused}
use Rattle.model.specs.Lines.{newline, digits_of, bytes_of, line_of, write_call}
use Rattle.model.proofs.DigitLaws.{length_digits}

-- whatever the call: it gives 1, and keeps the text
pub short_text_kept : (text : List ℕ) (call : Call) → length text < 9 → write_call text call ≡ record { answer = refused 1; desk = text }
unfolding write_call
short_text_kept text call h = simp (lt-ltb (length text) 9 h)

pub four_bytes : (call : Call) → length (bytes_of call) ≡ 4
four_bytes (MakeCopy from to p) = refl
four_bytes (Receive slot) = refl
four_bytes (Delete site p) = refl
four_bytes (Ask site p) = refl

-- a line is eight digits and a newline
pub nine_characters : (call : Call) → length (line_of call) ≡ 9
unfolding line_of
nine_characters call = length-append (digits_of (bytes_of call)) (newline ∷ []) ∙ omega (arith, length_digits (bytes_of call), four_bytes call)

-- a text that is long enough: it gives 0, the first nine characters are the line, the rest is as before
pub long_text_written : (text : List ℕ) (call : Call) → 9 ≤ length text
    → ((write_call text call).answer ≡ accepted 0 Nothing) × (take 9 (write_call text call).desk ≡ line_of call) × (drop 9 (write_call text call).desk ≡ drop 9 text)
unfolding write_call
long_text_written text call h =
    let n = nine_characters call in
    let end : 0 + length (line_of call) ≡ 9 = omega arith in
    let whole : sets text 0 (line_of call) ≡ line_of call ++ drop 9 text = sets-eq (line_of call) text 0 (omega arith) ∙ ap (λ (k : ℕ). line_of call ++ drop k text) end in (
      simp (le-ltb (length text) 9 h),
      simp (le-ltb (length text) 9 h) (ap (take 9) whole ∙ take_at (line_of call) (drop 9 text) 9 n),
      simp (le-ltb (length text) 9 h) (ap (drop 9) whole ∙ drop_at (line_of call) (drop 9 text) 9 n),
    )
