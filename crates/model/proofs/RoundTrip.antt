-- Document 01, "Lines": a call that is written reads back as that call, and a line that is read is written back in the same characters.
use Prim.Native.Nat.{ℕ, ◌+◌, ◌-◌, ◌*◌, ◌/◌, ◌%◌, ◌≤◌, ◌<◌}
use mathlib.Core.Path.{◌≡◌, refl, sym, ap, ◌∙◌}
use mathlib.Core.Bool.{Bool, true, false, cond}
use mathlib.Core.List.{List, [], ◌∷◌, ◌++◌, append_assoc}
use native.Mathlib.Omega.{arith}
use lib.Dec.{eqb}
use lib.ListN.{length, get_or, drop, length-append, drop_of_length-le}
use lib.Seq.{sets, sets-eq, take_at}
use borrow.Author.Tests.{lt-ltb, le-ltb, eqb-true}
use Rattle.model.specs.declared.Call.{Call}
use Rattle.model.specs.declared.Call.TheVariants.{MakeCopy, Receive, Delete, Ask}
use Rattle.model.specs.Lines.{Said, Refused}
use Rattle.model.specs.Lines.{Line}
use Rattle.model.specs.Refusals.{BadLine}
use Rattle.model.specs.Lines.{newline, digits_of, byte_at, bytes_of, line_of, write_call, line_refusal, read_bytes, read_line, next_at}
use Rattle.model.specs.Fields.{FieldsFit}
use Rattle.model.proofs.DigitLaws.{byte_of_digits, digits_of_byte_at, length_digits, width_of_digits}
use Rattle.model.proofs.CallLaws.{each_below, all_bytes, line_by_bytes, bytes_of_said}
use Rattle.model.proofs.LineLaws.{line_there}
use Rattle.model.proofs.WrittenLine.{four_bytes}

-- the digits of four bytes read as those bytes
line_of_bytes : (code a b c : ℕ) → code < 256 → a < 256 → b < 256 → c < 256 → read_line (digits_of (code ∷ a ∷ b ∷ c ∷ [])) ≡ read_bytes code a b c
unfolding digits_of
line_of_bytes code a b c h i j k =
    sym (line_by_bytes (digits_of (code ∷ a ∷ b ∷ c ∷ [])) code a b c refl
    (sym (byte_of_digits code h)) (sym (byte_of_digits a i)) (sym (byte_of_digits b j)) (sym (byte_of_digits c k)))

-- read (write c) ≡ c
pub read_of_written : (call : Call) → FieldsFit call → read_line (digits_of (bytes_of call)) ≡ Said call
unfolding line_refusal
read_of_written (MakeCopy from to p) f = line_of_bytes 1 from to p (omega arith) f.0 f.1 f.2 ∙ simp (all_bytes 1 from to p (omega arith) f.0 f.1 f.2)
read_of_written (Receive slot) f =
    let high : slot / 256 < 256 = omega arith in
    let low : slot % 256 < 256 = omega arith in
    let whole : slot / 256 * 256 + slot % 256 ≡ slot = omega arith in
    line_of_bytes 2 (slot / 256) (slot % 256) 0 (omega arith) high low (omega arith) ∙ simp (all_bytes 2 (slot / 256) (slot % 256) 0 (omega arith) high low (omega arith), whole)
read_of_written (Delete site p) f = line_of_bytes 3 site p 0 (omega arith) f.0 f.1 (omega arith) ∙ simp (all_bytes 3 site p 0 (omega arith) f.0 f.1 (omega arith))
read_of_written (Ask site p) f = line_of_bytes 4 site p 0 (omega arith) f.0 f.1 (omega arith) ∙ simp (all_bytes 4 site p 0 (omega arith) f.0 f.1 (omega arith))

-- ---- a line that is read
-- it has eight characters, and its bytes say the call
said_of_line : (t : Bool) (line : List ℕ) (call : Call) → eqb (length line) 8 ≡ t
    → cond t (read_bytes (byte_at line 0) (byte_at line 1) (byte_at line 2) (byte_at line 3)) (Refused BadLine) ≡ Said call
    → (length line ≡ 8) × (read_bytes (byte_at line 0) (byte_at line 1) (byte_at line 2) (byte_at line 3) ≡ Said call)
said_of_line true line call e s = (eqb-true (length line) 8 e, s)
said_of_line false line call e s = let z : ◌≡◌ {A = ℕ} 0 1 = cc in absurd (omega arith)

-- write (read l) ≡ l
pub written_of_read : (line : List ℕ) (call : Call) → read_line line ≡ Said call → digits_of (bytes_of call) ≡ line
unfolding read_line digits_of
written_of_read line call e =
    let s = said_of_line (eqb (length line) 8) line call refl e in
    let n = s.0 in
    let b = bytes_of_said (byte_at line 0) (byte_at line 1) (byte_at line 2) (byte_at line 3) call s.1 in
    let below = each_below (byte_at line 0) (byte_at line 1) (byte_at line 2) (byte_at line 3) b.0 in
    let end : length line ≤ 8 = omega arith in
    ap digits_of b.1
    ∙ digits_of_byte_at line (byte_at line 1 ∷ byte_at line 2 ∷ byte_at line 3 ∷ []) 0 (omega arith) below.0
    (digits_of_byte_at line (byte_at line 2 ∷ byte_at line 3 ∷ []) 1 (omega arith) below.1
    (digits_of_byte_at line (byte_at line 3 ∷ []) 2 (omega arith) below.2
    (digits_of_byte_at line [] 3 (omega arith) below.3 (sym (drop_of_length-le line end)))))

-- and the fields of a call that is read fit their types
fields_below_lem : (call : Call) (code a b c : ℕ) → bytes_of call ≡ code ∷ a ∷ b ∷ c ∷ [] → a < 256 → b < 256 → c < 256 → FieldsFit call
fields_below_lem (MakeCopy from to p) code a b c e ha hb hc =
    let x : from ≡ a = ap (λ (l : List ℕ). get_or l 1 0) e in
    let y : to ≡ b = ap (λ (l : List ℕ). get_or l 2 0) e in
    let z : p ≡ c = ap (λ (l : List ℕ). get_or l 3 0) e in
    (omega arith, omega arith, omega arith)
fields_below_lem (Receive slot) code a b c e ha hb hc = let x : slot / 256 ≡ a = ap (λ (l : List ℕ). get_or l 1 0) e in omega arith
fields_below_lem (Delete site p) code a b c e ha hb hc =
    let x : site ≡ a = ap (λ (l : List ℕ). get_or l 1 0) e in
    let y : p ≡ b = ap (λ (l : List ℕ). get_or l 2 0) e in
    (omega arith, omega arith)
fields_below_lem (Ask site p) code a b c e ha hb hc =
    let x : site ≡ a = ap (λ (l : List ℕ). get_or l 1 0) e in
    let y : p ≡ b = ap (λ (l : List ℕ). get_or l 2 0) e in
    (omega arith, omega arith)

pub fits_of_read : (line : List ℕ) (call : Call) → read_line line ≡ Said call → FieldsFit call
unfolding read_line
fits_of_read line call e =
    let s = said_of_line (eqb (length line) 8) line call refl e in
    let b = bytes_of_said (byte_at line 0) (byte_at line 1) (byte_at line 2) (byte_at line 3) call s.1 in
    let below = each_below (byte_at line 0) (byte_at line 1) (byte_at line 2) (byte_at line 3) b.0 in
    fields_below_lem call _ _ _ _ b.1 below.1 below.2 below.3

-- the writer puts that line back, and its newline
pub line_written_back : (text line : List ℕ) (call : Call) → read_line line ≡ Said call → 9 ≤ length text → (write_call text call).desk ≡ sets text 0 (line ++ (newline ∷ []))
unfolding write_call line_of
line_written_back text line call e h = simp (le-ltb (length text) 9 h, written_of_read line call e)

-- ---- a text that starts with a written line
next_of_digits : (bs rest : List ℕ) → next_at (digits_of bs ++ (newline ∷ rest)) 0 ≡ Line (read_line (digits_of bs)) (length bs * 2 + 1)
next_of_digits bs rest =
    let text = digits_of bs ++ (newline ∷ rest) in
    let d = length_digits bs in
    let w = width_of_digits bs rest in
    let n : length bs * 2 < length text = simp length-append (omega arith) in
    sym (line_there text 0 (length bs * 2) (length bs * 2 + 1) (read_line (digits_of bs)) (omega arith) (omega arith)
    (ap read_line (sym (take_at (digits_of bs) (newline ∷ rest) (length bs * 2 - 0) (omega arith))))
    (simp (lt-ltb (length bs * 2) (length text) n)))

starts_with_line : (text : List ℕ) (call : Call) → 9 ≤ length text
    → sets text 0 (line_of call) ≡ digits_of (bytes_of call) ++ (newline ∷ drop (0 + length (line_of call)) text)
unfolding line_of
starts_with_line text call h =
    let n : 0 + length (line_of call) ≤ length text = simp length-append (omega (arith, length_digits (bytes_of call), four_bytes call)) in
    sets-eq (line_of call) text 0 n ∙ append_assoc (digits_of (bytes_of call)) (newline ∷ []) (drop (0 + length (line_of call)) text)

-- what the writer wrote, the reader answers, and stands past it
pub next_of_written : (text : List ℕ) (call : Call) → FieldsFit call → 9 ≤ length text → next_at (write_call text call).desk 0 ≡ Line (Said call) 9
unfolding write_call
next_of_written text call f h =
    simp (le-ltb (length text) 9 h, starts_with_line text call h, next_of_digits (bytes_of call) (drop (0 + length (line_of call)) text), four_bytes call, read_of_written call f)
