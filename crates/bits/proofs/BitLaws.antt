-- What the code computes on words: a bit taken off, all words seen as one, and bits at or above S shifted down.
use Prim.Native.Nat.{ℕ, zero, suc, ◌*◌, ◌/◌, ◌%◌, ◌^◌, ◌≤◌}
use mathlib.Core.Path.{◌≡◌, sym, ap, ◌∙◌}
use mathlib.Core.Bool.{Bool, ◌&&◌}
use mathlib.Core.List.{List, [], ◌∷◌}
use native.Mathlib.Nat.{mul-le-mul_right, mod-lt, div-eq_of_lt}
use native.Mathlib.Omega.{arith}
use lib.Bits.{bit_or, or_add_and, and_le_l, and_le_r, or_lt}
use lib.Dec.{eqb, ltb}
use lib.ListN.{length, get_or, take}
use lib.Pow.{pow_pos, split}
use lib.Seq.{take-suc, take_all}
use Rattle.std.specs.List.{fold}
use Rattle.std.proofs.lemmas.List.Sums.{fold-append}
use borrow.Author.Tests.{eqb-true, eq-eqb, ltb-true, lt-ltb}
use Rattle.model.specs.Questions.{every}
use Rattle.model.specs.Tables.{byte_below, all_below}
use Rattle.model.proofs.TestLaws.{same_test, and_both}
use Rattle.word_cells.specs.WordCells.{bit}

-- what stands at a bit can be taken off
pub bit_inside : (w s : ℕ) → bit w s * 2 ^ s ≤ w
unfolding bit
bit_inside w s =
    let h : w / 2 ^ s % 2 ≤ w / 2 ^ s = omega arith in
    omega (arith, mul-le-mul_right (2 ^ s) h, split w s)

-- two words seen as one are below a power of 2 where both are
pub seen_below : (v w n : ℕ) → ltb (bit_or v w) (2 ^ n) ≡ (ltb v (2 ^ n) && ltb w (2 ^ n))
seen_below v w n =
    same_test (ltb (bit_or v w) (2 ^ n)) (ltb v (2 ^ n) && ltb w (2 ^ n))
    (λ e.
    let l = ltb-true (bit_or v w) (2 ^ n) e in
    rw (lt-ltb v (2 ^ n) (omega (arith, or_add_and v w, and_le_r v w)), lt-ltb w (2 ^ n) (omega (arith, or_add_and v w, and_le_l v w))))
    (λ e.
    let q = and_both (ltb v (2 ^ n)) (ltb w (2 ^ n)) e in
    lt-ltb (bit_or v w) (2 ^ n) (or_lt n v w (ltb-true v (2 ^ n) q.0) (ltb-true w (2 ^ n) q.1)))

-- and so of all words
seen_so_far : (words : List ℕ) (n i : ℕ) → i ≤ length words → ltb (fold bit_or 0 (take i words)) (2 ^ n) ≡ every i (byte_below (2 ^ n) words)
unfolding every
seen_so_far words n zero l = lt-ltb 0 (2 ^ n) (pow_pos n)
seen_so_far words n (suc i) l =
    let word = get_or words i 0 in
    let shown = fold bit_or 0 (take i words) in
    ap (λ (seen : List ℕ). ltb (fold bit_or 0 seen) (2 ^ n)) (take-suc words i 0 l)
    ∙ ap (λ (x : ℕ). ltb x (2 ^ n)) (fold-append bit_or 0 (take i words) (word ∷ []))
    ∙ seen_below shown word n
    ∙ ap (λ (b : Bool). b && ltb word (2 ^ n)) (seen_so_far words n i (omega arith))

pub all_below_as_seen : (words : List ℕ) (n : ℕ) → all_below (2 ^ n) words ≡ ltb (fold bit_or 0 words) (2 ^ n)
unfolding all_below
all_below_as_seen words n =
    sym (seen_so_far words n (length words) (omega arith)) ∙ ap (λ (seen : List ℕ). ltb (fold bit_or 0 seen) (2 ^ n)) (take_all (length words) words (omega arith))

-- a word shifted down by n is 0 where it is below 2 to the n
pub shifted_off : (w n : ℕ) → eqb (w / 2 ^ n) 0 ≡ ltb w (2 ^ n)
shifted_off w n =
    same_test (eqb (w / 2 ^ n) 0) (ltb w (2 ^ n))
    (λ e.
    let z : w / 2 ^ n * 2 ^ n ≡ 0 * 2 ^ n = ap (λ (x : ℕ). x * 2 ^ n) (eqb-true (w / 2 ^ n) 0 e) in
    lt-ltb w (2 ^ n) (omega (arith, split w n, mod-lt w (pow_pos n))))
    (λ e. eq-eqb (w / 2 ^ n) 0 (div-eq_of_lt (ltb-true w (2 ^ n) e)))
