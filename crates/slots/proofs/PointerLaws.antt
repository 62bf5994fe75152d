-- A slot whose pointer byte is another than p holds no message of p.
use Prim.Native.Nat.{ℕ, zero, suc, ◌+◌, ◌*◌}
use mathlib.Core.Path.{◌≡◌, refl}
use mathlib.Core.Bool.{Bool, false, ◌&&◌, not}
use mathlib.Core.List.{List}
use lib.Dec.{eqb}
use lib.ListN.{get_or}
use borrow.Author.Tests.{ne_eqb}
use Rattle.model.specs.declared.Posted.{Posted}
use Rattle.model.specs.declared.Posted.TheVariants.{Copy, Dec, IncDec, Nothing}
use Rattle.model.specs.Messages.{message_of, pointer_of, is_nothing, is_inc_dec}
use Rattle.model.specs.Tables.{message_at}
use Rattle.model.proofs.TestLaws.{and_false}

-- a message, and for pointer p
abbrev pub of_pointer : ℕ → Posted → Bool
of_pointer p m = not (is_nothing m) && eqb (pointer_of m) p

other_byte : (kind from to third q p : ℕ) → eqb q p ≡ false → of_pointer p (message_of kind from to third q) ≡ false
unfolding message_of
other_byte zero from to third q p e = refl
other_byte (suc zero) from to third q p e = e
other_byte (suc (suc zero)) from to third q p e = e
other_byte (suc (suc (suc zero))) from to third q p e = e
other_byte (suc (suc (suc (suc kind)))) from to third q p e = refl

pub other_pointer : (w : ℕ) (pool : List ℕ) (slot p : ℕ) → (get_or pool (slot * w + 4) 0 ≡ p → ⊥) → of_pointer p (message_at w pool slot) ≡ false
other_pointer w pool slot p apart = other_byte _ _ _ _ _ p (ne_eqb _ _ apart)

-- the three fields of a message of another pointer
pub other_fields : (a b : Bool) {c : Bool} → c ≡ false → (a && b && c) ≡ false
other_fields a b e = rw e (and_false (a && b))

pub no_inc_dec : (a b p : ℕ) (m : Posted) → of_pointer p m ≡ false → is_inc_dec a b p m ≡ false
no_inc_dec a b p (Copy from to q) e = refl
no_inc_dec a b p (Dec from to q) e = refl
no_inc_dec a b p (IncDec from to third q) e = other_fields (eqb from a) (eqb to b) e
no_inc_dec a b p Nothing e = refl
