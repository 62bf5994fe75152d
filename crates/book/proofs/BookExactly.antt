-- The three questions of the book are turned down exactly where document 01 says so.
use Prim.Native.Nat.{ℕ, ◌≤◌, ◌<◌}
use mathlib.Core.Path.{◌≡◌, refl, sym, ◌∙◌, subst}
use mathlib.Core.Logic.{inl, inr, ◌↔◌}
use mathlib.Core.Bool.{Bool, true, false, ◌&&◌, not}
use mathlib.Core.List.{List, []}
use native.Mathlib.Omega.{arith}
use lib.Dec.{leb, ltb}
use lib.ListN.{length, get_or}
use borrow.Author.Tests.{leb-false, lt-leb, ltb-false, le-ltb, not-true}
use Rattle.model.specs.Refusals.{◌when◌, ◌or_else◌}
use Rattle.model.specs.Questions.{some, lowest, up_to}
use Rattle.model.specs.Tables.{sizes_good, byte_below, all_below, owners_refusal}
use Rattle.model.specs.Demands.{Row, FirstOf}
use Rattle.model.proofs.TestLaws.{true_not_false, and_false, or_else_assoc}
use Rattle.model.proofs.QuestionLaws.{every_not, every_fails, some_there, some_has, length_up_to, up_to_at}
use Rattle.model.proofs.RowLaws.{by_test, last_test, false_when}
use Rattle.book.specs.Book.{entry_at, length_byte, address_of, is_book, has, twins, book_refusal, address_number, check_number, check_answer, search_number, search_answer}
use Rattle.book.specs.Written.{written}
use Rattle.book.specs.BookRows.{ExactlyEntries, BadSizes, NoSite, Alike, NoPointer, book_rows, address_rows, check_rows, search_rows}
use Rattle.book.proofs.EntryLaws.{entry_long, address_long}
use Rattle.book.proofs.FindLaws.{has_both, both_has}
use Rattle.book.proofs.AnswerLaws.{answered_number}
use Rattle.book.proofs.Written.{written_length, written_entries, entries_written}
use Rattle.book.proofs.Unique.{twins_are, are_twins}

-- ---- the test of the book says that it is exactly g entries
pub book_in_words : (g : ℕ) (book : List ℕ) → (is_book g book ≡ true) ↔ ExactlyEntries g book
book_in_words g book = (
  (λ good. record {
    addresses = up_to g (address_of book);
    count = length_up_to g (address_of book);
    some_bytes = λ p l. rw (up_to_at g (address_of book) [] p l, address_long 1 book g good p l) (entry_long 1 book g good p l);
    whole = entries_written 1 g book good;
  }),
  (λ e.
      let long : (p : ℕ) → p < length e.addresses → 1 ≤ length (get_or e.addresses p []) = λ p l. e.some_bytes p (rw e.count at l) in
      subst (λ b. is_book g b ≡ true) e.whole (subst (λ n. is_book n (written e.addresses) ≡ true) e.count (written_entries 1 e.addresses long))),
)

-- and where the book is of bytes, each of its addresses is 1 to 255 bytes
pub at_most_255 : (g : ℕ) (book : List ℕ) (e : ExactlyEntries g book) → ((i : ℕ) → get_or book i 0 < 256) → (p : ℕ) → p < g → length (get_or e.addresses p []) ≤ 255
at_most_255 g book e bytes p l =
    let byte : length_byte (written e.addresses) p < 256 = rw e.whole (bytes (entry_at book p)) in
    omega (arith, written_length e.addresses p (rw e.count l))

-- ---- 1, 2: S, G and the owners
bad_sizes : (s g : ℕ) → not (sizes_good s g) ≡ true → BadSizes s g
bad_sizes s g e = go (leb 1 s) (leb s 64) (leb g 256) refl refl refl (not-true _ e)
  where
    go : (x y z : Bool) → leb 1 s ≡ x → leb s 64 ≡ y → leb g 256 ≡ z → (x && y && z) ≡ false → BadSizes s g
    go true true true ex ey ez e = true_not_false e
    go true true false ex ey ez e = inr (inr (leb-false g 256 ez))
    go true false z ex ey ez e = inr (inl (leb-false s 64 ey))
    go false y z ex ey ez e = inl (omega (arith, leb-false 1 s ex))

bad_sizes_back : (s g : ℕ) → BadSizes s g → not (sizes_good s g) ≡ true
bad_sizes_back s g (inl z) = rw (lt-leb 1 s (omega arith))
bad_sizes_back s g (inr (inl l)) = rw (lt-leb s 64 l, and_false (leb 1 s))
bad_sizes_back s g (inr (inr l)) = rw (lt-leb g 256 l, and_false (leb 1 s && leb s 64))

no_site : (s : ℕ) (owners : List ℕ) → not (all_below s owners) ≡ true → NoSite s owners
unfolding all_below
no_site s owners e =
    let h = every_fails (byte_below s owners) (length owners) (not-true _ e) in
    record { pointer = h.0; in_range = h.1; too_large = ltb-false _ _ h.2 }

no_site_back : (s : ℕ) (owners : List ℕ) → NoSite s owners → not (all_below s owners) ≡ true
unfolding all_below
no_site_back s owners why = false_when _ (every_not (byte_below s owners) (length owners) why.pointer why.in_range (le-ltb _ _ why.too_large))

module _ (s : ℕ) (owners book : List ℕ) where
  -- 1, 2, 18, then the rest
  book_rows_lem : (rows : List Row) (rest : ℕ) → FirstOf rows rest → FirstOf (book_rows s owners book rows) (book_refusal s owners book or_else rest)
  unfolding book_refusal owners_refusal
  book_rows_lem rows rest r =
      let good = book_in_words (length owners) book in
      rw (
        or_else_assoc (1 when not (sizes_good s (length owners)) or_else 2 when not (all_below s owners)) (18 when not (is_book (length owners) book)) rest,
        or_else_assoc (1 when not (sizes_good s (length owners))) (2 when not (all_below s owners)) (18 when not (is_book (length owners) book) or_else rest),
      )
      (by_test 0 _ (BadSizes s (length owners)) _ _ (bad_sizes s (length owners)) (bad_sizes_back s (length owners))
      (by_test 1 _ (NoSite s owners) _ _ (no_site s owners) (no_site_back s owners)
      (by_test 17 _ (ExactlyEntries (length owners) book → ⊥) _ _
      (λ e exact. true_not_false (sym (good.1 exact) ∙ not-true _ e)) (λ h. unless_so (is_book (length owners) book) (λ t. h (good.0 t))) r)))
    where
      unless_so : (b : Bool) → (b ≡ true → ⊥) → not b ≡ true
      unless_so true h = absurd (h refl)
      unless_so false h = refl

  -- The question for an address: 1, 2, 18, 3.
  pub address_exactly : (p : ℕ) → FirstOf (address_rows s owners book p) (address_number s owners book p)
  unfolding address_number
  address_exactly p =
      book_rows_lem _ _ (last_test 2 (not (ltb p (length owners))) (length owners ≤ p) (λ e. ltb-false _ _ (not-true _ e)) (λ l. false_when _ (le-ltb _ _ l)))

  -- A check of the book: 1, 2, 18, 19.
  pub check_exactly : FirstOf (check_rows s owners book) (check_answer s owners book).number
  unfolding check_answer check_number
  check_exactly =
      rw (answered_number (check_number s owners book) 0)
      (book_rows_lem _ _ (last_test 18 (twins owners book) (Alike owners book) (twins_are owners book) (are_twins owners book)))

  -- A search: 1, 2, 18, 3, 20.
  pub search_exactly : (owner : ℕ) (wanted : List ℕ) → FirstOf (search_rows s owners book owner wanted) (search_answer s owners book owner wanted).number
  unfolding search_answer search_number
  search_exactly owner wanted =
      let wants = has owners book owner wanted in
      rw (answered_number (search_number s owners book owner wanted) (lowest (length owners) wants))
      (book_rows_lem _ _
      (by_test 2 (not (ltb owner s)) (s ≤ owner) _ _ (λ e. ltb-false _ _ (not-true _ e)) (λ l. false_when _ (le-ltb _ _ l))
      (last_test 19 (not (some (length owners) wants)) (NoPointer owners book owner wanted)
      (λ e p l owned named. true_not_false (sym (some_there wants (length owners) p l (both_has owners book owner wanted p owned named)) ∙ not-true _ e))
      (λ none. nowhere none (some (length owners) wants) refl))))
    where
      nowhere : NoPointer owners book owner wanted → (b : Bool) → some (length owners) (has owners book owner wanted) ≡ b → not b ≡ true
      nowhere none false e = refl
      nowhere none true e =
          let h = some_has (has owners book owner wanted) (length owners) e in
          let both = has_both owners book owner wanted (lowest (length owners) (has owners book owner wanted)) h.1 in
          absurd (none _ h.0 both.0 both.1)
