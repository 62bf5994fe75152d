-- Where the code's walk over a book stands: at the entries, as long as there are any.
use Prim.Native.Nat.{ℕ, zero, suc, ◌+◌, ◌-◌, ◌≤◌, ◌<◌}
use mathlib.Core.Path.{◌≡◌, refl, sym, ◌∙◌}
use mathlib.Core.Bool.{Bool, true, false, ◌&&◌, cond}
use mathlib.Core.List.{List}
use mathlib.Core.Logic.{⊎_elim}
use native.Mathlib.Nat.{eq-or-lt_of_le, add-zero, add-suc}
use native.Mathlib.Numerals.{add-one}
use native.Mathlib.Omega.{arith}
use lib.Dec.{leb, eqb}
use lib.ListN.{length, get_or, length-take, length-drop}
use borrow.Author.Tests.{leb-true, le-leb, lt-leb, eqb-true}
use Rattle.model.specs.Questions.{every}
use Rattle.model.proofs.TestLaws.{same_test, and_both, and_false}
use Rattle.model.proofs.QuestionLaws.{every_at}
use Rattle.book.specs.Book.{entry_at, length_byte, address_of, long_enough, entries}
use Rattle.book.specs.Walk.{entry_end, walked}

module _ (least : ℕ) (book : List ℕ) where
  -- at or beyond the book's end there is no entry
  pub entry_end_beyond : (at : ℕ) → length book ≤ at → length book + 1 ≡ entry_end least book at
  unfolding entry_end
  entry_end_beyond at l = rw (lt-leb (at + 1 + get_or book at 0) (length book) (omega arith), and_false (leb least (get_or book at 0)))

  -- an entry that ends in the book is as long as its length byte says
  entry_end_in : (at : ℕ) → entry_end least book at ≤ length book
      → (least ≤ get_or book at 0) × (entry_end least book at ≡ at + 1 + get_or book at 0)
  unfolding entry_end
  entry_end_in at = go (leb least (get_or book at 0)) (leb (at + 1 + get_or book at 0) (length book)) refl
    where
      go : (a b : Bool) → leb least (get_or book at 0) ≡ a
          → cond (a && b) (at + 1 + get_or book at 0) (length book + 1) ≤ length book
          → (least ≤ get_or book at 0) × (cond (a && b) (at + 1 + get_or book at 0) (length book + 1) ≡ at + 1 + get_or book at 0)
      go true true e l = (leb-true _ _ e, refl)
      go true false e l = absurd (omega arith)
      go false b e l = absurd (omega arith)

  -- it ends behind its length byte, and what is behind that is as long as it says
  pub entry_end_after : (at : ℕ) → entry_end least book at ≤ length book → at + 1 ≤ entry_end least book at
  entry_end_after at l = let e = entry_end_in at l in omega arith

  pub entry_end_part : (at : ℕ) → entry_end least book at ≤ length book → entry_end least book at - (at + 1) ≡ get_or book at 0
  entry_end_part at l = let e = entry_end_in at l in omega arith

  -- an entry of its length or more that ends in the book is one
  entry_end_at : (at : ℕ) → least ≤ get_or book at 0 → at + 1 + get_or book at 0 ≤ length book → entry_end least book at ≡ at + 1 + get_or book at 0
  unfolding entry_end
  entry_end_at at low high = rw (le-leb _ _ low, le-leb _ _ high)

  -- a walk that stands in the book stands at the entry, and all entries before it are long enough
  walked_in : (p : ℕ) → walked least book 0 p ≤ length book
      → (walked least book 0 p ≡ entry_at book p) × (every p (long_enough least book) ≡ true)
  unfolding walked entry_at every
  walked_in zero l = (refl, refl)
  walked_in (suc p) l =
      let e = entry_end_in (walked least book 0 p) l in
      let h = walked_in p (omega arith) in
      let long : least ≤ length_byte book p = rw h.0 at e.0 in
      (rw (← h.0) e.1, rw (h.1, le-leb least (length_byte book p) long))

  -- entries that are long enough and end in the book are walked over
  walked_at : (p : ℕ) → every p (long_enough least book) ≡ true → entry_at book p ≤ length book → walked least book 0 p ≡ entry_at book p
  unfolding walked entry_at every
  walked_at zero e l = refl
  walked_at (suc p) e l =
      let b = and_both (every p (long_enough least book)) (leb least (length_byte book p)) e in
      let h = walked_at p b.0 (omega arith) in
      rw h (entry_end_at (entry_at book p) (leb-true _ _ b.1) l)

  -- a walk in the book began in it
  walked_before : (p g : ℕ) → p ≤ g → walked least book 0 g ≤ length book → walked least book 0 p ≤ length book
  unfolding walked
  walked_before p zero low l = let q : p ≡ 0 = omega arith in rw q (omega arith)
  walked_before p (suc g) low l =
      ⊎_elim (λ q. rw q l)
      (λ lt. let e = entry_end_in (walked least book 0 g) l in walked_before p g (omega arith) (omega arith))
      (eq-or-lt_of_le low)

  -- the walk over g entries ends where the book does exactly where the book is g entries
  pub walked_all : (g : ℕ) → eqb (walked least book 0 g) (length book) ≡ entries least g book
  unfolding entries
  walked_all g =
      same_test (eqb (walked least book 0 g) (length book)) (every g (long_enough least book) && eqb (entry_at book g) (length book))
      (λ t. let q = eqb-true (walked least book 0 g) (length book) t in let h = walked_in g (omega arith) in rw (h.1, ← h.0, t))
      (λ t.
      let b = and_both (every g (long_enough least book)) (eqb (entry_at book g) (length book)) t in
      let q = eqb-true (entry_at book g) (length book) b.1 in
      rw (walked_at g b.0 (omega arith), b.1))

  -- one entry more
  pub walked_next : (from i : ℕ) {at end : ℕ} → at ≡ walked least book from i → end ≡ entry_end least book at → end ≡ walked least book from (i + 1)
  unfolding walked
  walked_next from i e f = rw (add-one, ← e, f)

  -- where the walk has left the book it stays outside
  pub walked_out : (from i n : ℕ) → i ≤ n → walked least book from i ≡ length book + 1 → walked least book from n ≡ length book + 1
  unfolding walked
  walked_out from i zero low e = let q : i ≡ 0 = omega arith in rw q at e
  walked_out from i (suc n) low e =
      ⊎_elim (λ q. rw q at e)
      (λ lt. sym (entry_end_beyond (walked least book from n) (omega (arith, walked_out from i n (omega arith) e))))
      (eq-or-lt_of_le low)

  -- n entries and then m are n + m
  walked_more : (n m : ℕ) → walked least book (walked least book 0 n) m ≡ walked least book 0 (n + m)
  unfolding walked
  walked_more n zero = rw add-zero
  walked_more n (suc m) = rw (add-suc, walked_more n m)

  -- so a walk over some and then over the rest is a walk over all
  pub walked_rest : (n m : ℕ) {at end : ℕ} → n ≤ m → at ≡ walked least book 0 n → end ≡ walked least book at (m - n) → end ≡ walked least book 0 m
  walked_rest n m l e f = let q : n + (m - n) ≡ m = omega arith in f ∙ rw (e, walked_more n (m - n), q)

  module _ (g : ℕ) (good : entries least g book ≡ true) where
    walked_inside : (p : ℕ) → p ≤ g → walked least book 0 p ≤ length book
    walked_inside p low = let q = eqb-true (walked least book 0 g) (length book) (walked_all g ∙ good) in walked_before p g low (omega arith)

    -- in a book of g entries the walk stands at each entry
    pub walked_entry : (p : ℕ) → p ≤ g → walked least book 0 p ≡ entry_at book p
    walked_entry p low = (walked_in p (walked_inside p low)).0

    -- and each entry is long enough and ends in the book
    pub entry_long : (p : ℕ) → p < g → least ≤ length_byte book p
    unfolding entries
    entry_long p low =
        let b = and_both (every g (long_enough least book)) (eqb (entry_at book g) (length book)) good in
        leb-true _ _ (every_at _ g p low b.0)

    pub entry_inside : (p : ℕ) → p < g → entry_at book p + 1 + length_byte book p ≤ length book
    unfolding entry_at
    entry_inside p low =
        let e : walked least book 0 (suc p) ≡ entry_at book p + 1 + length_byte book p = walked_entry (suc p) low in
        omega (arith, walked_inside (suc p) low)

    pub entry_end_inside : (p : ℕ) → p < g → entry_end least book (entry_at book p) ≤ length book
    entry_end_inside p low = omega (arith, entry_end_at (entry_at book p) (entry_long p low) (entry_inside p low), entry_inside p low)

    -- an address is as long as its length byte says
    pub address_long : (p : ℕ) → p < g → length (address_of book p) ≡ length_byte book p
    address_long p low = let l = entry_inside p low in simp (length-take, length-drop) (omega arith)
