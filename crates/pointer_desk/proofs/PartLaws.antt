-- The question for an address, as a place in the book and a length.
use Prim.Native.Nat.{ℕ, ◌+◌}
use mathlib.Core.Path.{◌≡◌, refl, sym, ap, ◌∙◌}
use mathlib.Core.List.{List, [], ◌∷◌}
use native.Mathlib.Omega.{arith}
use Rattle.std.specs.Borrow.{Bor}
use lib.ListN.{length}
use borrow.Author.Tests.{ne_eqb}
use Rattle.rules.specs.declared.refusal.Refusal.{Refusal}
use Rattle.rules.specs.Turned.{number_of}
use Rattle.book.specs.Part.{Part, seen}
use Rattle.book.specs.Book.{entry_at, length_byte, address_number, address_part}
use Rattle.book.proofs.EntryLaws.{address_long}
use Rattle.book.proofs.RefusalLaws.{book_passes, address_passes}
use Rattle.rules.proofs.TurnedLaws.{number_given}
use Rattle.book.proofs.Handed.{handed_address, handed_some}
use Rattle.pointer_desk.specs.Boundary.{part_given}

-- the part that is handed out stands behind its entry's length byte, as long as that says
pub part_handed : (s : ℕ) (owners : List ℕ) (book part : Bor (List ℕ)) (p : ℕ) {at : ℕ} → seen part ≡ address_part s owners (seen book) p → 0 ≡ address_number s owners book.now p → at ≡ entry_at book.now p
    → record { number = 0; at = at + 1; length = length part.now } ≡ part_given s owners book.now p
unfolding part_given
part_handed s owners book part p {at} e z place =
    let a = address_passes s owners book.now p (sym z) in
    let long : length part.now ≡ length_byte book.now p =
    ap length (ap (λ (x : Part). x.bytes) (e ∙ handed_address s owners (seen book) p (sym z)))
    ∙ address_long 1 book.now (length owners) (book_passes s owners book.now a.0).1 p a.1 in
    rw (← z, place, long)

-- after a refusal its number, and the empty part
pub no_part : (s : ℕ) (owners book : List ℕ) (p : ℕ) (refusal : Refusal) → number_of refusal ≡ address_number s owners book p
    → record { number = number_of refusal; at = 0; length = 0 } ≡ part_given s owners book p
unfolding part_given
no_part s owners book p refusal e = rw (← e, ne_eqb (number_of refusal) 0 (number_given refusal))

-- a part of length 0 has no bytes
no_bytes : (l : List ℕ) → length l ≡ 0 → l ≡ []
no_bytes [] e = refl
no_bytes (x ∷ l) e = absurd (omega arith)

-- a part that is empty: the question was refused
pub part_refused : (s : ℕ) (owners : List ℕ) (book : Part) (p : ℕ) {part : Part} → part ≡ address_part s owners book p → {n : ℕ} → length part.bytes ≡ 0 → n ≡ address_number s owners book.bytes p
    → record { number = n; at = 0; length = 0 } ≡ part_given s owners book.bytes p
unfolding part_given
part_refused s owners book p {part} e {n} none f =
    let bytes : part.bytes ≡ (address_part s owners book p).bytes = ap (λ (x : Part). x.bytes) e in
    rw (← f, ne_eqb n 0 (λ z. handed_some s owners book p (sym f ∙ z) (sym bytes ∙ no_bytes part.bytes none))) refl
