-- A digit and its number, a byte and its two digits: each way gives back what went in.
use Prim.Native.Nat.{ℕ, suc, ◌+◌, ◌-◌, ◌*◌, ◌/◌, ◌%◌, ◌≤◌, ◌<◌}
use mathlib.Core.Path.{◌≡◌, refl, sym, ◌∙◌}
use mathlib.Core.Bool.{Bool, true, false, ◌&&◌, cond}
use mathlib.Core.List.{List, [], ◌∷◌, ◌++◌}
use native.Mathlib.Omega.{arith}
use lib.Dec.{leb, ltb, eqb}
use lib.ListN.{length, get_or, drop}
use lib.Seq.{drop-cons}
use borrow.Author.Tests.{lt-ltb, le-ltb, le-leb, lt-leb, ne_eqb, ltb-true, ltb-false, leb-true}
use Rattle.model.proofs.TestLaws.{and_both}
use Rattle.model.specs.Lines.{digit_of, number_of, byte_of, digits_of, byte_at, newline, width}

-- ---- the number of a character
pub decimal_number : (c : ℕ) → 48 ≤ c → c ≤ 57 → number_of c ≡ c - 48
unfolding number_of
decimal_number c low high = simp (le-leb 48 c low, le-leb c 57 high)

pub letter_number : (c : ℕ) → 65 ≤ c → c ≤ 70 → number_of c ≡ c - 55
unfolding number_of
letter_number c low high = simp (le-leb 48 c (omega arith), lt-leb c 57 (omega arith), le-leb 65 c low, le-leb c 70 high)

pub no_number_below : (c : ℕ) → c < 48 → number_of c ≡ 16
unfolding number_of
no_number_below c low = simp (lt-leb 48 c low, lt-leb 65 c (omega arith))

pub no_number_between : (c : ℕ) → 57 < c → c < 65 → number_of c ≡ 16
unfolding number_of
no_number_between c low high = simp (le-leb 48 c (omega arith), lt-leb c 57 low, lt-leb 65 c high)

pub no_number_above : (c : ℕ) → 70 < c → number_of c ≡ 16
unfolding number_of
no_number_above c low = simp (le-leb 48 c (omega arith), lt-leb c 57 (omega arith), le-leb 65 c (omega arith), lt-leb c 70 low)

-- ---- a number, its digit, its number
number_by : (t : Bool) (n : ℕ) → ltb n 10 ≡ t → n < 16 → number_of (cond t (48 + n) (55 + n)) ≡ n
number_by true n e h = let l = ltb-true n 10 e in decimal_number (48 + n) (omega arith) (omega arith) ∙ omega arith
number_by false n e h = let l = ltb-false n 10 e in letter_number (55 + n) (omega arith) (omega arith) ∙ omega arith

pub number_of_digit : (n : ℕ) → n < 16 → number_of (digit_of n) ≡ n
number_of_digit n h = number_by (ltb n 10) n refl h

-- the digit 0 is that of 0 alone
pub digit_zero : (n : ℕ) → digit_of n ≡ 48 → n ≡ 0
digit_zero n = go (ltb n 10)
  where
    go : (t : Bool) → cond t (48 + n) (55 + n) ≡ 48 → n ≡ 0
    go true e = omega (arith, e)
    go false e = absurd (omega (arith, e))

-- ---- a digit, its number, its digit
digit_by : (d l : Bool) (c : ℕ) → (leb 48 c && leb c 57) ≡ d → (leb 65 c && leb c 70) ≡ l
    → cond d (c - 48) (cond l (c - 55) 16) < 16 → digit_of (cond d (c - 48) (cond l (c - 55) 16)) ≡ c
digit_by true l c e f h =
    let b = and_both (leb 48 c) (leb c 57) e in
    let low = leb-true 48 c b.0 in
    let high = leb-true c 57 b.1 in
    simp (lt-ltb (c - 48) 10 (omega arith)) (omega arith)
digit_by false true c e f h =
    let b = and_both (leb 65 c) (leb c 70) f in
    let low = leb-true 65 c b.0 in
    let high = leb-true c 70 b.1 in
    simp (le-ltb (c - 55) 10 (omega arith)) (omega arith)
digit_by false false c e f h = absurd (omega arith)

pub digit_of_number : (c : ℕ) → number_of c < 16 → digit_of (number_of c) ≡ c
unfolding number_of
digit_of_number c h = digit_by (leb 48 c && leb c 57) (leb 65 c && leb c 70) c refl refl h

-- ---- a byte, its two digits, its byte
pub byte_of_digits : (b : ℕ) → b < 256 → byte_of (digit_of (b / 16)) (digit_of (b % 16)) ≡ b
unfolding byte_of
byte_of_digits b h =
    let x = number_of_digit (b / 16) (omega arith) in
    let y = number_of_digit (b % 16) (omega arith) in
    simp (x, y, lt-ltb (b / 16) 16 (omega arith), lt-ltb (b % 16) 16 (omega arith)) (omega arith)

-- ---- two characters that are a byte, its digits
pub digits_of_byte : (high low : ℕ) → byte_of high low < 256 → (digit_of (byte_of high low / 16) ≡ high) × (digit_of (byte_of high low % 16) ≡ low)
unfolding byte_of
digits_of_byte high low h = go (ltb (number_of high) 16 && ltb (number_of low) 16) refl h
  where
    go : (t : Bool) → (ltb (number_of high) 16 && ltb (number_of low) 16) ≡ t → cond t (number_of high * 16 + number_of low) 256 < 256
        → (digit_of (cond t (number_of high * 16 + number_of low) 256 / 16) ≡ high) × (digit_of (cond t (number_of high * 16 + number_of low) 256 % 16) ≡ low)
    go true e h =
        let b = and_both (ltb (number_of high) 16) (ltb (number_of low) 16) e in
        let x = ltb-true (number_of high) 16 b.0 in
        let y = ltb-true (number_of low) 16 b.1 in
        let p : (number_of high * 16 + number_of low) / 16 ≡ number_of high = omega arith in
        let q : (number_of high * 16 + number_of low) % 16 ≡ number_of low = omega arith in
        (rw p (digit_of_number high x), rw q (digit_of_number low y))
    go false e h = absurd (omega arith)

-- ---- the byte of two numbers, as its code computes it
module _ (high low h l : ℕ) (p : h ≡ number_of high) (q : l ≡ number_of low) where
  pub byte_of_both : (ltb h 16 && ltb l 16) ≡ true → h * 16 + l ≡ byte_of high low
  unfolding byte_of
  byte_of_both t = simp (sym p, sym q, t)

  pub no_byte : (ltb h 16 && ltb l 16) ≡ false → 256 ≡ byte_of high low
  unfolding byte_of
  no_byte t = simp (sym p, sym q, t)

-- two digits a byte
pub length_digits : (bs : List ℕ) → length (digits_of bs) ≡ length bs * 2
unfolding digits_of
length_digits [] = refl
length_digits (b ∷ bs) = let e = length_digits bs in omega arith

-- a byte of a line and what its digits leave of the line: two characters more
pub digits_of_byte_at : (line bs : List ℕ) (i : ℕ) → i * 2 + 2 ≤ length line → byte_at line i < 256 → digits_of bs ≡ drop (i * 2 + 2) line
    → digits_of (byte_at line i ∷ bs) ≡ drop (i * 2) line
unfolding digits_of
digits_of_byte_at line bs i h b e =
    let d = digits_of_byte (get_or line (i * 2) 0) (get_or line (i * 2 + 1) 0) b in
    let first : i * 2 < length line = omega arith in
    let second : i * 2 + 1 < length line = omega arith in
    let n : suc (i * 2) ≡ i * 2 + 1 = omega arith in
    let m : suc (i * 2 + 1) ≡ i * 2 + 2 = omega arith in
    rw (d.0, d.1, e, drop-cons line (i * 2) 0 first, n, drop-cons line (i * 2 + 1) 0 second, m)

-- ---- no digit is a newline
digit_by_not : (t : Bool) (n : ℕ) → eqb (cond t (48 + n) (55 + n)) newline ≡ false
digit_by_not true n = ne_eqb (48 + n) newline (λ e. omega arith)
digit_by_not false n = ne_eqb (55 + n) newline (λ e. omega arith)

pub width_of_digits : (bs rest : List ℕ) → width (digits_of bs ++ (newline ∷ rest)) ≡ length bs * 2
unfolding width digits_of
width_of_digits [] rest = refl
width_of_digits (b ∷ bs) rest =
    let e = width_of_digits bs rest in
    simp (digit_by_not (ltb (b / 16) 10) (b / 16), digit_by_not (ltb (b % 16) 10) (b % 16)) (omega arith)
