-- What lent tables say that pass 1 and 2, and what an opening writes.
use Prim.Native.Nat.{ℕ, zero, suc, ◌*◌, ◌≤◌, ◌<◌}
use mathlib.Core.Path.{◌≡◌, refl, ◌∙◌}
use mathlib.Core.Bool.{true, ◌&&◌}
use mathlib.Core.List.{List, [], ◌∷◌, ◌++◌}
use mathlib.Core.Logic.{⊎_elim}
use native.Mathlib.Nat.{suc-mul, not-suc-le-zero, eq-or-lt_of_le, le_of_suc-le-suc}
use native.Mathlib.Omega.{arith}
use lib.Dec.{eqb}
use lib.ListN.{length, get_or, length-append, length-map, get_or-append}
use lib.Seq.{get_or-append-add}
use borrow.Author.Tests.{leb-true, ltb-true, eqb-true, lt-ltb}
use Rattle.model.specs.Refusals.{◌when◌}
use Rattle.model.specs.Tables.{place, sizes_good, pool_good, lengths_good, shape_good, all_below, byte_below, own_row, own_rows}
use Rattle.model.specs.InWords.{Sized, Shaped}
use Rattle.model.proofs.TestLaws.{and_both, at_most_1}
use Rattle.model.proofs.QuestionLaws.{every_at, every_all}
use Rattle.model.proofs.PlaceLaws.{place_inside}

-- ---- sizes and lengths
pub sized : (s g : ℕ) → sizes_good s g ≡ true → Sized s g
sized s g e =
    let e1 = and_both _ _ e in
    let e2 = and_both _ _ e1.0 in
    record { some_site = leb-true _ _ e2.0; few_sites = leb-true _ _ e2.1; few_pointers = leb-true _ _ e1.1 }

pub shaped_for : (w s g sends receives pools : ℕ) → (sizes_good s g && lengths_good w s g sends receives pools) ≡ true → Shaped w s g sends receives pools
shaped_for w s g sends receives pools e =
    let e1 = and_both (sizes_good s g) (lengths_good w s g sends receives pools) e in
    let e2 = and_both (eqb sends (s * g) && eqb receives (s * g)) (pool_good w pools) e1.1 in
    let e3 = and_both _ _ e2.0 in
    let e4 = and_both _ _ e2.1 in
    record {
      sizes = sized s g e1.0;
      send_length = eqb-true _ _ e3.0;
      receive_length = eqb-true _ _ e3.1;
      whole_slots = eqb-true _ _ e4.0;
      few_slots = leb-true _ _ e4.1;
    }

pub shaped : (s g sends receives pools : ℕ) → shape_good s g sends receives pools ≡ true → Shaped 5 s g sends receives pools
shaped = shaped_for 5

-- ---- bytes below a limit
pub byte_below_lem : (n : ℕ) (l : List ℕ) (i : ℕ) → i < length l → all_below n l ≡ true → get_or l i 0 < n
unfolding all_below
byte_below_lem n l i li e = ltb-true (get_or l i 0) n (every_at (byte_below n l) (length l) i li e)

-- ---- the rows that an opening writes
pub length_own_rows : (s : ℕ) (owners : List ℕ) → length (own_rows s owners) ≡ s * length owners
unfolding own_rows
length_own_rows zero owners = omega arith
length_own_rows (suc s) owners =
    length-append (own_rows s owners) (own_row s owners)
    ∙ simp length-map (omega (arith, length_own_rows s owners, suc-mul s (length owners)))

own_row_at : (s : ℕ) (owners : List ℕ) (p : ℕ) → p < length owners → get_or (own_row s owners) p 0 ≡ (1 when eqb s (get_or owners p 0))
own_row_at s [] p l = absurd (not-suc-le-zero l)
own_row_at s (o ∷ os) zero l = refl
own_row_at s (o ∷ os) (suc p) l = own_row_at s os p (le_of_suc-le-suc l)

-- every receive cell is 1 at the owner and 0 elsewhere
pub own_rows_at : (sites : ℕ) (owners : List ℕ) (s p : ℕ) → s < sites → p < length owners
    → get_or (own_rows sites owners) (place (length owners) s p) 0 ≡ (1 when eqb s (get_or owners p 0))
unfolding own_rows
own_rows_at zero owners s p ls lp = absurd (not-suc-le-zero ls)
own_rows_at (suc n) owners s p ls lp =
    ⊎_elim
    (λ q. rw q (rw (← length_own_rows n owners) (get_or-append-add (own_rows n owners) (own_row n owners) p 0) ∙ own_row_at n owners p lp))
    (λ lt.
    get_or-append (own_rows n owners) (own_row n owners) 0 (place (length owners) s p) (rw (length_own_rows n owners) (place_inside n (length owners) s p lt lp))
    ∙ own_rows_at n owners s p lt lp)
    (eq-or-lt_of_le (le_of_suc-le-suc ls))

-- every byte of the rows is 0 or 1
bits_of_both : (a b : List ℕ) → ((i : ℕ) → get_or a i 0 ≤ 1) → ((i : ℕ) → get_or b i 0 ≤ 1) → (i : ℕ) → get_or (a ++ b) i 0 ≤ 1
bits_of_both [] b ha hb i = hb i
bits_of_both (x ∷ a) b ha hb zero = ha 0
bits_of_both (x ∷ a) b ha hb (suc i) = bits_of_both a b (λ j. ha (suc j)) hb i

own_row_bits : (s : ℕ) (owners : List ℕ) (i : ℕ) → get_or (own_row s owners) i 0 ≤ 1
own_row_bits s [] i = omega arith
own_row_bits s (o ∷ os) zero = at_most_1 (eqb s o)
own_row_bits s (o ∷ os) (suc i) = own_row_bits s os i

own_rows_bits : (s : ℕ) (owners : List ℕ) (i : ℕ) → get_or (own_rows s owners) i 0 ≤ 1
unfolding own_rows
own_rows_bits zero owners i = omega arith
own_rows_bits (suc s) owners i = bits_of_both (own_rows s owners) (own_row s owners) (own_rows_bits s owners) (own_row_bits s owners) i

pub own_rows_below : (s : ℕ) (owners : List ℕ) → all_below 2 (own_rows s owners) ≡ true
unfolding all_below
own_rows_below s owners = every_all (byte_below 2 (own_rows s owners)) (length (own_rows s owners)) (λ i l. lt-ltb (get_or (own_rows s owners) i 0) 2 (omega (arith, own_rows_bits s owners i)))
