-- The part that is handed out for an address.
use Prim.Native.Nat.{ℕ, ◌+◌}
use mathlib.Core.Path.{◌≡◌, sym, ap, ◌∙◌}
use mathlib.Core.List.{List, []}
use native.Mathlib.Omega.{arith}
use lib.ListN.{length}
use borrow.Author.Tests.{ne_eqb}
use Rattle.book.specs.Part.{Part, within}
use Rattle.book.specs.Book.{entry_at, length_byte, address_of, address_number, address_part}
use Rattle.book.proofs.EntryLaws.{entry_long, address_long}
use Rattle.book.proofs.RefusalLaws.{book_passes, address_passes}

module _ (s : ℕ) (owners : List ℕ) (book : Part) (p : ℕ) where
  -- where the question passes: the address, at its place in the lent book
  pub handed_address : address_number s owners book.bytes p ≡ 0
      → address_part s owners book p ≡ within book (entry_at book.bytes p + 1) (length_byte book.bytes p)
  unfolding address_part
  handed_address z = rw z

  -- and it is not empty
  pub handed_some : address_number s owners book.bytes p ≡ 0 → (address_part s owners book p).bytes ≡ [] → ⊥
  handed_some z e =
      let a = address_passes s owners book.bytes p z in
      let good = (book_passes s owners book.bytes a.0).1 in
      let f : address_of book.bytes p ≡ [] = sym (ap (λ (part : Part). part.bytes) (handed_address z)) ∙ e in
      omega (
        arith,
        ap length f,
        address_long 1 book.bytes (length owners) good p a.1,
        entry_long 1 book.bytes (length owners) good p a.1,
      )

  -- after a refusal: the empty part
  pub handed_none : (address_number s owners book.bytes p ≡ 0 → ⊥) → (address_part s owners book p).bytes ≡ []
  unfolding address_part
  handed_none refused = rw (ne_eqb (address_number s owners book.bytes p) 0 refused)
