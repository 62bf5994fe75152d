-- What a search finds, and what 20 says.
use Prim.Native.Nat.{ℕ, ◌≤◌, ◌<◌}
use mathlib.Core.Path.{◌≡◌, refl, sym, ap, ◌∙◌}
use mathlib.Core.List.{List}
use mathlib.Core.Logic.{◌⊎◌, ⊎_elim}
use native.Mathlib.Omega.{arith}
use lib.ListN.{length, get_or}
use Rattle.model.specs.declared.Posted.TheVariants.{Nothing}
use Rattle.model.specs.Answers.{Answer}
use Rattle.model.specs.Refusals.{NotListed}
use Rattle.model.specs.Questions.{lowest}
use Rattle.model.specs.Answers.{accepted, refused}
use Rattle.model.proofs.QuestionLaws.{lowest_has, some_there, lowest_low, lowest_nowhere}
use Rattle.book.specs.Part.{Part}
use Rattle.book.specs.Book.{entry_at, address_of, has, book_refusal, address_number, address_part, search_number, search_answer}
use Rattle.book.proofs.EntryLaws.{entry_long, address_long}
use Rattle.book.proofs.AnswerLaws.{refused_answer, answered_accepted, answered_number}
use Rattle.book.proofs.RefusalLaws.{book_passes, address_given, search_nowhere, search_passes, search_most}
use Rattle.book.proofs.FindLaws.{has_both, both_has}
use Rattle.book.proofs.Handed.{handed_address}

module _ (s : ℕ) (owners book : List ℕ) (owner : ℕ) (wanted : List ℕ) where
  -- ---- a pointer is found
  module _ (p : ℕ) (found : search_answer s owners book owner wanted ≡ accepted p Nothing) where
    passes : (book_refusal s owners book ≡ 0) × (lowest (length owners) (has owners book owner wanted) < length owners)
    unfolding search_answer
    passes = search_passes s owners book owner wanted (answered_accepted _ _ p found).0

    value : lowest (length owners) (has owners book owner wanted) ≡ p
    unfolding search_answer
    value = (answered_accepted (search_number s owners book owner wanted) _ p found).1

    inside : p < length owners
    inside = rw value at passes.1

    -- what is found has the wanted owner, and its address is the wanted address
    pub found_has_both : (get_or owners p 0 ≡ owner) × (address_of book p ≡ wanted)
    found_has_both = has_both owners book owner wanted p (rw value at (lowest_has (has owners book owner wanted) 0 (length owners) (omega (arith, passes.1))))

    found_named : address_number s owners book p ≡ 0
    found_named = sym (address_given s owners book p passes.0 inside)

    -- no lower pointer has both
    pub found_lowest : (q : ℕ) → q < p → get_or owners q 0 ≡ owner → address_of book q ≡ wanted → ⊥
    found_lowest q l e f = omega (arith, value, lowest_low (has owners book owner wanted) (length owners) q (both_has owners book owner wanted q e f))

  -- ---- no pointer is found
  -- 20 only where no pointer has both
  pub not_listed : search_answer s owners book owner wanted ≡ refused NotListed
      → (p : ℕ) → p < length owners → get_or owners p 0 ≡ owner → address_of book p ≡ wanted → ⊥
  unfolding search_answer
  not_listed e p l owned named =
      let n : search_number s owners book owner wanted ≡ 20 = sym (answered_number _ _) ∙ ap (λ (a : Answer). a.number) e in
      omega (
        arith,
        search_most s owners book owner wanted
            (some_there (has owners book owner wanted) (length owners) p l (both_has owners book owner wanted p owned named)),
      )

  -- and wherever no pointer has both, once 1, 2, 18 and 3 are passed
  pub nowhere_listed : book_refusal s owners book ≡ 0 → owner < s
      → ((p : ℕ) → p < length owners → get_or owners p 0 ≡ owner → address_of book p ≡ wanted → ⊥)
      → search_answer s owners book owner wanted ≡ refused NotListed
  unfolding search_answer
  nowhere_listed passed l none =
      let nowhere =
      lowest_nowhere (has owners book owner wanted) (length owners)
      (λ p m e. let both = has_both owners book owner wanted p e in none p m both.0 both.1) in
      sym (refused_answer 20 (search_number s owners book owner wanted) _ (λ z. absurd (omega arith)) (search_nowhere s owners book passed owner wanted l nowhere) refl)

  -- so a wanted address of length 0 or above 255 gives 20, where the book is of bytes
  pub odd_length_nowhere : book_refusal s owners book ≡ 0 → owner < s → ((i : ℕ) → get_or book i 0 < 256)
      → (length wanted ≡ 0) ⊎ (256 ≤ length wanted) → search_answer s owners book owner wanted ≡ refused NotListed
  odd_length_nowhere passed l bytes odd = nowhere_listed passed l never
    where
      never : (p : ℕ) → p < length owners → get_or owners p 0 ≡ owner → address_of book p ≡ wanted → ⊥
      never p m e f =
          let good = (book_passes s owners book passed).1 in
          let long = address_long 1 book (length owners) good p m in
          let some = entry_long 1 book (length owners) good p m in
          let few = bytes (entry_at book p) in
          let q = ap length f in
          ⊎_elim (λ none. omega arith) (λ many. omega arith) odd

-- the question for the address of what is found hands out the wanted address, as a part of the lent book
pub found_address : (s : ℕ) (owners : List ℕ) (book : Part) (owner : ℕ) (wanted : List ℕ) (p : ℕ)
    → search_answer s owners book.bytes owner wanted ≡ accepted p Nothing
    → (address_number s owners book.bytes p ≡ 0) × ((address_part s owners book p).bytes ≡ wanted)
found_address s owners book owner wanted p found =
    let named = found_named s owners book.bytes owner wanted p found in
    (named, ap (λ (part : Part). part.bytes) (handed_address s owners book p named) ∙ (found_has_both s owners book.bytes owner wanted p found).1)
