-- The part that is handed out for an address.
use Prim.Native.Nat.{ℕ, ◌+◌, ◌-◌, ◌≤◌}
use mathlib.Core.Path.{◌≡◌, sym}
use mathlib.Core.List.{List}
use native.Mathlib.Nat.{add_comm, add-sub_cancel_left}
use lib.ListN.{length, get_or, take, drop}
use borrow.Author.Tests.{ne_eqb}
use Rattle.rules.specs.declared.refusal.Refusal.{Refusal}
use Rattle.rules.specs.Turned.{number_of}
use Rattle.rules.proofs.TurnedLaws.{number_given}
use Rattle.book.specs.Part.{Part, within}
use Rattle.book.specs.Book.{entry_at, length_byte, address_number, address_part}
use Rattle.book.proofs.EntryLaws.{entry_inside}
use Rattle.book.proofs.RefusalLaws.{book_passes, address_passes}

-- the part of a book from start to end, as the code makes it
abbrev pub from_to : Part → ℕ → ℕ → Part
from_to book start end = record { block = book.block; place = start + book.place; bytes = take (end - start) (drop start book.bytes) }

part_within : (book : Part) (start n : ℕ) → from_to book start (start + n) ≡ within book start n
part_within book start n = rw (add_comm start book.place, add-sub_cancel_left start n)

module _ (s : ℕ) (owners : List ℕ) (p : ℕ) where
  -- a question that passes has its entry in the book
  pub place_inside : (book : List ℕ) → 0 ≡ address_number s owners book p → entry_at book p + 1 + length_byte book p ≤ length book
  place_inside book z =
      let a = address_passes s owners book p (sym z) in
      entry_inside 1 book (length owners) (book_passes s owners book a.0).1 p a.1

  -- after a refusal the empty part
  pub part_refused : (book : Part) (refusal : Refusal) → number_of refusal ≡ address_number s owners book.bytes p → from_to book 0 0 ≡ address_part s owners book p
  unfolding address_part
  part_refused book refusal e = rw (← e, ne_eqb (number_of refusal) 0 (number_given refusal)) (part_within book 0 0)

  pub part_given_lem : (book : Part) (at : ℕ) → at ≡ entry_at book.bytes p → 0 ≡ address_number s owners book.bytes p
      → from_to book (at + 1) (at + 1 + get_or book.bytes at 0) ≡ address_part s owners book p
  unfolding address_part
  part_given_lem book at e z = rw (← z, e) (part_within book (entry_at book.bytes p + 1) (length_byte book.bytes p))
