-- What the walk finds in a book is what a pointer has.
use Prim.Native.Nat.{ℕ, ◌+◌, ◌-◌, ◌≤◌, ◌<◌}
use mathlib.Core.Path.{◌≡◌, refl, sym, ◌∙◌}
use mathlib.Core.Bool.{Bool, true, false}
use Rattle.std.specs.Prelude.{Option, None, Some, IfSome}
use Rattle.std.specs.Option.{unwrap_or, is_some}
use mathlib.Core.List.{List}
use native.Mathlib.Omega.{arith}
use lib.Dec.{ltb, eqb}
use lib.ListN.{length, get_or, take, drop}
use Rattle.std.proofs.lemmas.List.{length-take-le, get_or-take}
use Rattle.std.proofs.lemmas.Bool.{cases_lt}
use mathlib.Core.Logic.{⊎_elim}
use borrow.Author.Tests.{le-leb, lt-leb, lt-ltb, le-ltb, eqb-true, eq-eqb, ne_eqb}
use Rattle.model.specs.Questions.{lowest}
use Rattle.model.proofs.TestLaws.{and_both, and_false, true_not_false}
use Rattle.model.proofs.QuestionLaws.{some_there, some_nowhere, some_lowest, lowest_same, lowest_has, lowest_low, lowest_most, lowest_nowhere}
use Rattle.book.specs.Book.{entry_at, address_of, is_book, same, has, twin_below, twins}
use Rattle.book.specs.Walk.{entry_end, walked, holds, meets}
use Rattle.book.proofs.SameLaws.{same_equal, same_self}
use Rattle.book.proofs.EntryLaws.{walked_entry, walked_next, walked_out, entry_end_after, entry_end_part, entry_end_inside}

-- ---- what it says that a pointer has an owner and an address
module _ (owners book : List ℕ) (owner : ℕ) (address : List ℕ) (p : ℕ) where
  pub has_both : has owners book owner address p ≡ true → (get_or owners p 0 ≡ owner) × (address_of book p ≡ address)
  unfolding has
  has_both e =
      let h = and_both (eqb (get_or owners p 0) owner) (same (address_of book p) address) e in
      (eqb-true _ _ h.0, same_equal (address_of book p) address h.1)

  pub both_has : get_or owners p 0 ≡ owner → address_of book p ≡ address → has owners book owner address p ≡ true
  unfolding has
  both_has e f = rw (eq-eqb (get_or owners p 0) owner e, ← f, same_self (address_of book p))

-- ---- the lowest, by what holds of those below it
pub first_lowest : (P : ℕ → Bool) (n p : ℕ) → p < n → ((q : ℕ) → q < p → P q ≡ false) → P p ≡ true → p ≡ lowest n P
first_lowest P n p l below here =
    let most = lowest_low P n p here in
    let least : lowest n P < p → ⊥ = λ m. true_not_false (sym (lowest_has P 0 n (omega arith)) ∙ below (lowest n P) m) in
    omega arith

pub none_lowest : (P : ℕ → Bool) (n : ℕ) → ((q : ℕ) → q < n → P q ≡ false) → n ≡ lowest n P
none_lowest P n none = omega (arith, lowest_most P 0 n, lowest_nowhere P n (λ q l e. true_not_false (sym e ∙ none q l)))

pub none_lowest_on : (P : ℕ → Bool) (n p : ℕ) → ((q : ℕ) → q < p → P q ≡ false) → ((q : ℕ) → p ≤ q → P q ≡ false) → n ≡ lowest n P
none_lowest_on P n p low high = none_lowest P n (λ q l. ⊎_elim (low q) (high q) (cases_lt q p))

-- ---- at pointer p, where the walk stands at a place
module _ (owners book : List ℕ) (owner : ℕ) (address : List ℕ) (p : ℕ) {at : ℕ} (stands : at ≡ walked 1 book 0 p) where
  -- another has its owner
  pub meets_not_owner : (get_or owners p 0 ≡ owner → ⊥) → meets owners book owner address p ≡ false
  unfolding meets
  meets_not_owner h = rw (ne_eqb (get_or owners p 0) owner h)

  -- its owner is this one: the entry there, which ends in the book, is the address or not
  pub meets_same : {end : ℕ} → end ≡ entry_end 1 book at → end ≤ length book → get_or owners p 0 ≡ owner
      → {b : Bool} → b ≡ same (take (end - (at + 1)) (drop (at + 1) book)) address → b ≡ meets owners book owner address p
  unfolding meets holds
  meets_same {end} e l h f =
      let long : end - (at + 1) ≡ get_or book at 0 = rw e (entry_end_part 1 book at (rw e at l)) in
      rw (eq-eqb (get_or owners p 0) owner h, ← stands, ← e, le-leb end (length book) l, ← long) f

  -- there is none: neither it nor a later one has both
  pub meets_none : length book + 1 ≡ entry_end 1 book at → (q : ℕ) → p ≤ q → meets owners book owner address q ≡ false
  unfolding meets holds
  meets_none e q low =
      let out = walked_out 1 book 0 (p + 1) (q + 1) (omega arith) (sym (walked_next 1 book 0 p stands e)) in
      let last : entry_end 1 book (walked 1 book 0 q) ≡ walked 1 book 0 (q + 1) = walked_next 1 book 0 q refl refl in
      rw (lt-leb (entry_end 1 book (walked 1 book 0 q)) (length book) (omega arith), and_false (eqb (get_or owners q 0) owner))

-- it is the same of the pointers below one
meets_take : (owners book : List ℕ) (owner : ℕ) (address : List ℕ) (p k : ℕ) → k < p → meets (take p owners) book owner address k ≡ meets owners book owner address k
unfolding meets
meets_take owners book owner address p k l = rw (get_or-take p owners k 0 l)

-- ---- in a book of g entries
module _ (owners book : List ℕ) (g : ℕ) (good : is_book g book ≡ true) where
  -- what the walk finds at a pointer is what the pointer has
  pub meets_has : (owner : ℕ) (address : List ℕ) (p : ℕ) → p < g → meets owners book owner address p ≡ has owners book owner address p
  unfolding meets has holds
  meets_has owner address p l =
      rw (walked_entry 1 book g good p (omega arith), le-leb (entry_end 1 book (entry_at book p)) (length book) (entry_end_inside 1 book g good p l))

  pub lowest_meets : (owner : ℕ) (address : List ℕ) (n : ℕ) → n ≤ g → lowest n (meets owners book owner address) ≡ lowest n (has owners book owner address)
  lowest_meets owner address n l = lowest_same (meets owners book owner address) (has owners book owner address) 0 n (λ k low high. meets_has owner address k (omega arith))

  -- ---- at pointer p, whose entry is from at to end
  module _ (p : ℕ) (l : p < g) {at end : ℕ} (e : at ≡ walked 1 book 0 p) (f : end ≡ entry_end 1 book at) where
    there : at ≡ entry_at book p
    there = e ∙ walked_entry 1 book g good p (omega arith)

    pub entry_within : (at + 1 ≤ end) × (end ≤ length book)
    entry_within =
        let l : entry_end 1 book at ≤ length book = rw there (entry_end_inside 1 book g good p l) in
        (rw f (entry_end_after 1 book at l), rw f l)

    entry_address : take (end - (at + 1)) (drop (at + 1) book) ≡ address_of book p
    entry_address = rw (f, there, entry_end_part 1 book (entry_at book p) (entry_end_inside 1 book g good p l))

    -- the pointer has what a lower one has exactly where the lowest that has it is below it
    twin_lowest : {found : ℕ} → found ≡ lowest p (meets owners book (get_or owners p 0) (take (end - (at + 1)) (drop (at + 1) book)))
        → twin_below owners book p ≡ ltb found p
    twin_lowest h =
        some_lowest (has owners book (get_or owners p 0) (address_of book p)) p
        ∙ rw (h, entry_address, lowest_meets (get_or owners p 0) (address_of book p) p (omega arith))

    -- so it is where the search among the pointers below it finds one
    pub twin_sought : p < length owners → (r : Option ℕ) {b : Bool}
        → unwrap_or r (length (take p owners)) ≡ lowest (length (take p owners)) (meets (take p owners) book (get_or owners p 0) (take (end - (at + 1)) (drop (at + 1) book)))
        → IfSome r (λ q. q < length (take p owners)) → b ≡ is_some r → twin_below owners book p ≡ b
    twin_sought m r found inside told =
        go r
        (found ∙ rw long (lowest_same _ _ 0 p (λ k low high. meets_take owners book (get_or owners p 0) (take (end - (at + 1)) (drop (at + 1) book)) p k (omega arith))))
        (rw long at inside)
        ∙ sym told
      where
        long : length (take p owners) ≡ p
        long = length-take-le p owners (omega arith)

        go : (r : Option ℕ) → unwrap_or r (length (take p owners)) ≡ lowest p (meets owners book (get_or owners p 0) (take (end - (at + 1)) (drop (at + 1) book)))
            → IfSome r (λ q. q < p) → twin_below owners book p ≡ is_some r
        go (Some q) e l = twin_lowest e ∙ lt-ltb q p l
        go None e l = twin_lowest e ∙ le-ltb (length (take p owners)) p (omega (arith, long))

-- ---- twins, by what holds of each pointer
module _ (owners book : List ℕ) where
  pub twin_found : (p : ℕ) → p < length owners → twin_below owners book p ≡ true → true ≡ twins owners book
  unfolding twins
  twin_found p l e = sym (some_there (twin_below owners book) (length owners) p l e)

  pub twin_nowhere : ((p : ℕ) → p < length owners → twin_below owners book p ≡ false) → false ≡ twins owners book
  unfolding twins
  twin_nowhere none = sym (some_nowhere (twin_below owners book) (length owners) none)
