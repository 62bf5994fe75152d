-- Document 01, "The address book": what C is told is the part of the lent book that is handed out.
use Prim.Native.Nat.{ℕ}
use mathlib.Core.Path.{◌≡◌, refl}
use mathlib.Core.Bool.{Bool, true, false, cond}
use mathlib.Core.List.{List}
use lib.Dec.{eqb}
use Rattle.book.specs.Part.{Part, within}
use Rattle.book.specs.Book.{address_number, address_part}
use Rattle.pointer_desk.specs.declared.addresses.DeskPart.{DeskPart}
use Rattle.pointer_desk.specs.Boundary.{part_given}

-- either of two places in the book, after a test
within_either : (b : Bool) (book : Part) (x y : DeskPart) → cond b (within book x.at x.length) (within book y.at y.length) ≡ within book (cond b x y).at (cond b x y).length
within_either true book x y = refl
within_either false book x y = refl

pub handed_part : (s : ℕ) (owners : List ℕ) (book : Part) (p : ℕ)
    → address_part s owners book p ≡ within book (part_given s owners book.bytes p).at (part_given s owners book.bytes p).length
unfolding address_part part_given
handed_part s owners book p = within_either (eqb (address_number s owners book.bytes p) 0) book _ _
