-- A reader that is moved n times from the start of a text stands where n answers leave it, over the same text.
use Prim.Native.Nat.{ℕ, zero, suc}
use mathlib.Core.Path.{◌≡◌, refl, ap}
use mathlib.Core.List.{List}
use denote.Ref.{Bor}
use Rattle.model.specs.Places.{place_after}
use Rattle.lines.specs.Reading.{moved_on, reader_after}

pub reader_after_lem : (text : Bor (List ℕ)) (n : ℕ) → reader_after text n ≡ record { text = text; at = place_after text.now n }
unfolding reader_after place_after
reader_after_lem text zero = refl
reader_after_lem text (suc n) = ap moved_on (reader_after_lem text n)
