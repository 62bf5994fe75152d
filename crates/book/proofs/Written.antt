-- The books of g entries are exactly g addresses, written one after another, each behind its length byte.
use Prim.Native.Nat.{ℕ, zero, suc, ◌+◌, ◌≤◌, ◌<◌}
use mathlib.Core.Path.{◌≡◌, refl, ◌∙◌}
use mathlib.Core.Bool.{true}
use mathlib.Core.List.{List, [], ◌∷◌, ◌++◌, append_assoc, append-nil}
use native.Mathlib.Nat.{add_assoc, not-suc-le-zero, le_of_suc-le-suc}
use native.Mathlib.Numerals.{add-one}
use native.Mathlib.Omega.{arith}
use lib.Dec.{eqb}
use lib.ListN.{length, get_or, take, drop, length-append}
use lib.Seq.{get_or-append-add, drop-append-add, take-append_seam, take-length, take-add, drop-cons}
use borrow.Author.Tests.{le-leb, eq-eqb, eqb-true}
use Rattle.model.specs.Questions.{every, up_to}
use Rattle.model.proofs.TestLaws.{and_both}
use Rattle.model.proofs.QuestionLaws.{every_all}
use Rattle.book.specs.Book.{entry_at, length_byte, address_of, long_enough, entries}
use Rattle.book.specs.Written.{written}
use Rattle.book.proofs.EntryLaws.{entry_inside, address_long}

entry_step : (book : List ℕ) (p : ℕ) → entry_at book (suc p) ≡ entry_at book p + 1 + length_byte book p
unfolding entry_at
entry_step book p = refl

-- ---- behind a first entry the others stand as in a book of their own
module _ (a rest : List ℕ) where
  one_later : (p : ℕ) → entry_at (length a ∷ a ++ rest) (suc p) ≡ suc (length a) + entry_at rest p
      → entry_at (length a ∷ a ++ rest) (suc (suc p)) ≡ suc (length a) + entry_at rest (suc p)
  one_later p e =
      entry_step (length a ∷ a ++ rest) (suc p)
      ∙ rw (e, entry_step rest p, get_or-append-add (length a ∷ a) rest (entry_at rest p) 0) (omega arith)

  next_entry : (p : ℕ) → entry_at (length a ∷ a ++ rest) (suc p) ≡ suc (length a) + entry_at rest p
  unfolding entry_at
  next_entry zero = omega arith
  next_entry (suc p) = one_later p (next_entry p)

  next_length : (p : ℕ) → length_byte (length a ∷ a ++ rest) (suc p) ≡ length_byte rest p
  next_length p = rw (next_entry p) (get_or-append-add (length a ∷ a) rest (entry_at rest p) 0)

  next_address : (p : ℕ) → address_of (length a ∷ a ++ rest) (suc p) ≡ address_of rest p
  next_address p = rw (next_length p, next_entry p, add_assoc, drop-append-add (length a ∷ a) rest (entry_at rest p + 1))

-- ---- addresses, written, are a book of as many entries, and its addresses are those
pub written_length : (list : List (List ℕ)) (p : ℕ) → p < length list → length_byte (written list) p ≡ length (get_or list p [])
unfolding written entry_at
written_length [] p l = absurd (not-suc-le-zero l)
written_length (a ∷ list) zero l = refl
written_length (a ∷ list) (suc p) l = next_length a (written list) p ∙ written_length list p (le_of_suc-le-suc l)

written_end : (list : List (List ℕ)) → entry_at (written list) (length list) ≡ length (written list)
unfolding written entry_at
written_end [] = refl
written_end (a ∷ list) = next_entry a (written list) (length list) ∙ rw (written_end list, length-append (length a ∷ a) (written list))

pub written_entries : (least : ℕ) (list : List (List ℕ)) → ((p : ℕ) → p < length list → least ≤ length (get_or list p []))
    → entries least (length list) (written list) ≡ true
unfolding entries
written_entries least list long =
    rw (
      every_all (long_enough least (written list)) (length list)
          (λ p l. le-leb least (length_byte (written list) p) (rw (written_length list p l) (long p l))),
      eq-eqb (entry_at (written list) (length list)) (length (written list)) (written_end list),
    )

pub written_address : (list : List (List ℕ)) (p : ℕ) → p < length list → address_of (written list) p ≡ get_or list p []
unfolding written entry_at
written_address [] p l = absurd (not-suc-le-zero l)
written_address (a ∷ list) zero l = take-append_seam a (written list)
written_address (a ∷ list) (suc p) l = next_address a (written list) p ∙ written_address list p (le_of_suc-le-suc l)

-- ---- and every book of g entries is its addresses, written
written_one_more : (list : List (List ℕ)) (a : List ℕ) → written (list ++ (a ∷ [])) ≡ written list ++ (length a ∷ a)
unfolding written
written_one_more [] a = rw append-nil
written_one_more (b ∷ list) a = rw (written_one_more list a, append_assoc)

entry_bytes : (book : List ℕ) (at n : ℕ) → at < length book → get_or book at 0 ≡ n
    → take at book ++ (n ∷ take n (drop (at + 1) book)) ≡ take (at + 1 + n) book
entry_bytes book at n l e =
    let q : at + 1 + n ≡ at + suc n = omega arith in
    rw (q, take-add at (suc n) book, drop-cons book at 0 l, e, add-one)

module _ (least g : ℕ) (book : List ℕ) (good : entries least g book ≡ true) where
  written_so_far : (p : ℕ) → p ≤ g → written (up_to p (address_of book)) ≡ take (entry_at book p) book
  unfolding up_to written entry_at
  written_so_far zero l = refl
  written_so_far (suc p) l =
      rw (written_one_more (up_to p (address_of book)) (address_of book p), written_so_far p (omega arith), address_long least book g good p l)
      (entry_bytes book (entry_at book p) (length_byte book p) (omega (arith, entry_inside least book g good p l)) refl)

  pub entries_written : written (up_to g (address_of book)) ≡ book
  unfolding entries
  entries_written =
      let e = eqb-true (entry_at book g) (length book) (and_both (every g (long_enough least book)) (eqb (entry_at book g) (length book)) good).1 in
      written_so_far g (omega arith) ∙ rw (e, take-length book)
