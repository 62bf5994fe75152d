-- Stores one after another: bytes written as digits, an answer line, and a written call.
use Prim.Native.Nat.{ℕ, suc, ◌+◌, ◌*◌, ◌/◌, ◌%◌, ◌≤◌, ◌<◌}
use mathlib.Core.Path.{◌≡◌, ap, ◌∙◌}
use mathlib.Core.List.{List, [], ◌∷◌, ◌++◌}
use native.Mathlib.Omega.{arith}
use native.Mathlib.Numerals.{add-one}
use lib.ListN.{length, get_or, drop, set, length-append, drop_of_length-le}
use lib.Seq.{sets, drop-cons}
use borrow.Author.Tests.{le-ltb}
use Rattle.model.specs.declared.Call.{Call}
use Rattle.model.specs.Messages.{slot_of}
use Rattle.model.specs.Answers.{Answer, refused}
use Rattle.model.specs.Lines.{newline, digits_of, line_of, write_call}
use Rattle.model.specs.Transcript.{answer_bytes, answer_line}
use Rattle.model.proofs.SlotLaws.{five_bytes, one_by_one}
use Rattle.model.proofs.DigitLaws.{length_digits}

-- a store after a store is one store
pub sets_then : (a l b : List ℕ) (i j : ℕ) → j ≡ i + length a → sets (sets l i a) j b ≡ sets l i (a ++ b)
sets_then [] l b i j e = let q : j ≡ i = omega arith in ap (λ (k : ℕ). sets l k b) q
sets_then (x ∷ a) l b i j e = sets_then a (set l i x) b (suc i) j (omega arith)

-- no byte is written yet
pub digits_all : (text bytes : List ℕ) (at : ℕ) → sets text (at + 0 * 2) (digits_of bytes) ≡ sets text at (digits_of bytes)
digits_all text bytes at = let e : at + 0 * 2 ≡ at = omega arith in rw e

-- byte i is written: what is left to write, written further on, gives the same
pub digits_more : (text later bytes : List ℕ) (at i : ℕ) → i < length bytes → later ≡ sets text (at + i * 2) (digits_of (get_or bytes i 0 ∷ []))
    → sets later (at + (i + 1) * 2) (digits_of (drop (i + 1) bytes)) ≡ sets text (at + i * 2) (digits_of (drop i bytes))
unfolding digits_of
digits_more text later bytes at i h e =
    ap (λ (l : List ℕ). sets l (at + (i + 1) * 2) (digits_of (drop (i + 1) bytes))) e
    ∙ sets_then (digits_of (get_or bytes i 0 ∷ [])) text (digits_of (drop (i + 1) bytes)) (at + i * 2) (at + (i + 1) * 2) (omega arith)
    ∙ rw (add-one, drop-cons bytes i 0 h)

-- no byte is left to write
pub digits_done : (text bytes : List ℕ) (at i : ℕ) → length bytes ≤ i → sets text at (digits_of (drop i bytes)) ≡ text
unfolding digits_of
digits_done text bytes at i h = rw (drop_of_length-le bytes h)

-- a newline after the digits
pub newline_after : (text later bytes : List ℕ) (at : ℕ) → later ≡ sets text at (digits_of bytes)
    → set later (at + length bytes * 2) newline ≡ sets text at (digits_of bytes ++ (newline ∷ []))
newline_after text later bytes at e =
    ap (λ (l : List ℕ). set l (at + length bytes * 2) newline) e
    ∙ sets_then (digits_of bytes) text (newline ∷ []) at (at + length bytes * 2) (omega (arith, length_digits bytes))

-- the bytes of an answer, the slot's one by one
pub bytes_by_slot : (a : Answer) {l : List ℕ} → l ≡ slot_of a.posted
    → a.number ∷ a.value / 256 ∷ a.value % 256 ∷ get_or l 0 0 ∷ get_or l 1 0 ∷ get_or l 2 0 ∷ get_or l 3 0 ∷ get_or l 4 0 ∷ [] ≡ answer_bytes a
bytes_by_slot a e = ap (λ (l : List ℕ). a.number ∷ a.value / 256 ∷ a.value % 256 ∷ l) (one_by_one a.posted e)

-- an answer line has 17 characters
pub length_answer_line : (a : Answer) → length (answer_line a) ≡ 17
unfolding answer_line
length_answer_line a =
    length-append (digits_of (answer_bytes a)) (newline ∷ []) ∙ omega (arith, length_digits (answer_bytes a), five_bytes a.posted)

-- ---- a written call that has room
module _ (text : List ℕ) (call : Call) {r : Answer} where
  pub long_enough_lem : (later : List ℕ) → 9 ≤ length text → r ≡ refused 0 → later ≡ sets text 0 (line_of call) → record { answer = r; desk = later } ≡ write_call text call
  unfolding write_call
  long_enough_lem later h q e = simp (q, e, le-ltb (length text) 9 h)
