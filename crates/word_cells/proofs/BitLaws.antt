-- The bits of a word: one changed, none above, a word from its bits, and how many are ones.
use Prim.Native.Nat.{ℕ, zero, suc, ◌+◌, ◌-◌, ◌*◌, ◌/◌, ◌%◌, ◌^◌, ◌≤◌, ◌<◌}
use mathlib.Core.Path.{◌≡◌, refl, sym, ap, ap₂, ◌∙◌, subst}
use mathlib.Core.Logic.{◌≢◌, ⊎_elim}
use mathlib.Core.Bool.{Bool, true, false}
use native.Mathlib.Decide.{dec_lt}
use native.Mathlib.Nat.{eq-or-lt_of_le, le_of_suc-le-suc, not-suc-le-zero, div-eq_of_lt, div-lt_iff_lt-mul, lt_of_lt_of_le, mod-lt, mod-eq_of_lt, add_comm, add-mul, pow-suc, div-add-mod'}
use native.Mathlib.Numerals.{one-add}
use native.Mathlib.Omega.{arith}
use lib.Count.{ones, ones_cat}
use lib.Dec.{eqb}
use lib.Pow.{pow_pos, pow_mono, mod-pow-add, split, high, low, shr-shr, shr_lt, mod-mod-pow, field}
use borrow.Author.Tests.{eqb-true, eqb-false}
use Rattle.model.specs.Questions.{every, total}
use Rattle.model.proofs.QuestionLaws.{every_at, every_fails}
use Rattle.model.proofs.PoolLaws.{total_same}
use Rattle.word_cells.specs.WordCells.{bit, with_bit}

-- ---- a bit is 0 or 1
pub bit_most : (w s : ℕ) → bit w s ≤ 1
unfolding bit
bit_most w s = let m : w / 2 ^ s % 2 < 2 = mod-lt (w / 2 ^ s) (omega arith) in omega arith

-- ---- a word as a high part and s low bits
-- the bits below s are those of the low part
pub bit_low : (w s t : ℕ) → t < s → bit (w % 2 ^ s) t ≡ bit w t
unfolding bit
bit_low w s t h =
    let e : s - t - 1 + 1 + t ≡ s = omega arith in
    ap (λ (n : ℕ). w % 2 ^ n / 2 ^ t % 2) (sym e)
    ∙ ap (λ (n : ℕ). n % 2) (field w (s - t - 1 + 1) t)
    ∙ mod-mod-pow (w / 2 ^ t) (s - t - 1) 1

-- words with the same low part have the same bits there
same_low : (v w s t : ℕ) → v % 2 ^ s ≡ w % 2 ^ s → t < s → bit v t ≡ bit w t
same_low v w s t e h = sym (bit_low v s t h) ∙ ap (λ (n : ℕ). bit n t) e ∙ bit_low w s t h

-- words with the same high part have the same bits there
same_high : (v w s t : ℕ) → v / 2 ^ s ≡ w / 2 ^ s → s ≤ t → bit v t ≡ bit w t
unfolding bit
same_high v w s t e h =
    let q : s + (t - s) ≡ t = omega arith in
    ap (λ (n : ℕ). v / 2 ^ n % 2) (sym q)
    ∙ ap (λ (n : ℕ). n % 2) (sym (shr-shr v s (t - s)) ∙ ap (λ (n : ℕ). n / 2 ^ (t - s)) e ∙ shr-shr w s (t - s))
    ∙ ap (λ (n : ℕ). w / 2 ^ n % 2) q

-- a bit by its high part
bit_by_high : (w s n : ℕ) → n ≤ 1 → w / 2 ^ s ≡ n → bit w s ≡ n
unfolding bit
bit_by_high w s n h e = ap (λ (x : ℕ). x % 2) e ∙ omega arith

-- ---- one bit changed
-- the bits above s, bit s, the bits below it
in_three : (w s : ℕ) → (w / 2 ^ (s + 1) * 2 + bit w s) * 2 ^ s + w % 2 ^ s ≡ w
unfolding bit
in_three w s =
    ap (λ (q : ℕ). (q * 2 + w / 2 ^ s % 2) * 2 ^ s + w % 2 ^ s) (sym (shr-shr w s 1))
    ∙ ap (λ (q : ℕ). q * 2 ^ s + w % 2 ^ s) (div-add-mod' (w / 2 ^ s) 2)
    ∙ split w s

with_in_three : (w s n : ℕ) → with_bit w s n ≡ (w / 2 ^ (s + 1) * 2 + n) * 2 ^ s + w % 2 ^ s
unfolding with_bit
with_in_three w s n =
    let a = w / 2 ^ (s + 1) * 2 in
    omega (arith, in_three w s, add-mul a (bit w s) (2 ^ s), add-mul a n (2 ^ s))

with_high : (w s n : ℕ) → with_bit w s n / 2 ^ s ≡ w / 2 ^ (s + 1) * 2 + n
with_high w s n = ap (λ (x : ℕ). x / 2 ^ s) (with_in_three w s n) ∙ high (w / 2 ^ (s + 1) * 2 + n) s (mod-lt w (pow_pos s))

pub changed_bit : (w s n : ℕ) → n ≤ 1 → bit (with_bit w s n) s ≡ n
unfolding bit
changed_bit w s n h = ap (λ (x : ℕ). x % 2) (with_high w s n) ∙ omega arith

pub other_bit : (w s n t : ℕ) → n ≤ 1 → t ≢ s → bit (with_bit w s n) t ≡ bit w t
other_bit w s n t h apart = go (dec_lt t s)
  where
    go : Dec (t < s) → bit (with_bit w s n) t ≡ bit w t
    go (yes l) =
        same_low (with_bit w s n) w s t
        (ap (λ (x : ℕ). x % 2 ^ s) (with_in_three w s n) ∙ low (w / 2 ^ (s + 1) * 2 + n) s (mod-lt w (pow_pos s)))
        l
    go (no l) =
        same_high (with_bit w s n) w (s + 1) t
        (sym (shr-shr (with_bit w s n) s 1) ∙ ap (λ (x : ℕ). x / 2) (with_high w s n) ∙ omega arith)
        (omega arith)

-- ---- no bit at or above S
pub bit_above : (w S t : ℕ) → w < 2 ^ S → S ≤ t → bit w t ≡ 0
unfolding bit
bit_above w S t h l = ap (λ (x : ℕ). x % 2) (div-eq_of_lt (lt_of_lt_of_le h (pow_mono l)))

-- a top bit that is 0 makes the word shorter
top_off : (w k : ℕ) → w < 2 ^ suc k → bit w k ≡ 0 → w < 2 ^ k
unfolding bit
top_off w k h z =
    let q : w / 2 ^ k < 2 = shr_lt 1 k (subst (λ (x : ℕ). w < 2 ^ x) (sym (one-add k)) h) in
    let y : w / 2 ^ k < 1 = omega arith in
    let e : 1 * 2 ^ k ≡ 2 ^ k = omega arith in
    subst (λ (x : ℕ). w < x) e ((div-lt_iff_lt-mul (pow_pos k)).0 y)

shorter : (w S j : ℕ) → w < 2 ^ (S + j) → ((t : ℕ) → S ≤ t → bit w t ≡ 0) → w < 2 ^ S
shorter w S zero h none = subst (λ (x : ℕ). w < 2 ^ x) (omega arith) h
shorter w S (suc j) h none =
    let e : S + suc j ≡ suc (S + j) = omega arith in
    shorter w S j (top_off w (S + j) (subst (λ (x : ℕ). w < 2 ^ x) e h) (none (S + j) (omega arith))) none

-- a number has fewer bits than itself
below_power : (w : ℕ) → w < 2 ^ w
below_power zero = omega arith
below_power (suc w) = omega (arith, below_power w, pow-suc 2 w)

pub below_by_bits : (w S : ℕ) → ((t : ℕ) → S ≤ t → bit w t ≡ 0) → w < 2 ^ S
below_by_bits w S none = shorter w S w (lt_of_lt_of_le (below_power w) (pow_mono (omega arith))) none

-- a word that is not below 2 to the S has a bit at or above S
pub bit_over : (w S : ℕ) → 2 ^ S ≤ w → (s : ℕ) × (S ≤ s) × (bit w s ≡ 1)
bit_over w S h = go (every w (λ t. eqb (bit w (S + t)) 0)) refl
  where
    go : (b : Bool) → every w (λ t. eqb (bit w (S + t)) 0) ≡ b → (s : ℕ) × (S ≤ s) × (bit w s ≡ 1)
    go true e = absurd (omega (arith, h, below_by_bits w S (λ t l. off t l (dec_lt (t - S) w))))
      where
        off : (t : ℕ) → S ≤ t → Dec (t - S < w) → bit w t ≡ 0
        off t l (yes k) =
            let q : S + (t - S) ≡ t = omega arith in
            ap (λ (n : ℕ). bit w n) (sym q) ∙ eqb-true (bit w (S + (t - S))) 0 (every_at (λ t. eqb (bit w (S + t)) 0) w (t - S) k e)
        off t l (no k) = bit_above w w t (below_power w) (omega arith)
    go false e =
        let f = every_fails (λ t. eqb (bit w (S + t)) 0) w e in
        (S + f.0, omega arith, omega (arith, bit_most w (S + f.0), eqb-false (bit w (S + f.0)) 0 f.2))

-- a bit below S that is changed leaves a word below 2 to the S
pub with_bit_below : (w S s n : ℕ) → s < S → n ≤ 1 → w < 2 ^ S → with_bit w s n < 2 ^ S
with_bit_below w S s n ls ln h = below_by_bits (with_bit w s n) S (λ t lt. other_bit w s n t ln (omega arith) ∙ bit_above w S t h lt)

-- ---- 2 to the o
pub bit_of_zero : (s : ℕ) → bit 0 s ≡ 0
bit_of_zero s = bit_above 0 0 s (omega arith) (omega arith)

power_as_changed : (o : ℕ) → with_bit 0 o 1 ≡ 2 ^ o
unfolding with_bit
power_as_changed o = omega arith

pub power_bit : (o : ℕ) → bit (2 ^ o) o ≡ 1
power_bit o = ap (λ (w : ℕ). bit w o) (sym (power_as_changed o)) ∙ changed_bit 0 o 1 (omega arith)

pub power_other_bit : (o s : ℕ) → s ≢ o → bit (2 ^ o) s ≡ 0
power_other_bit o s apart = ap (λ (w : ℕ). bit w s) (sym (power_as_changed o)) ∙ other_bit 0 o 1 s (omega arith) apart ∙ bit_of_zero s

-- ---- a word is the sum of its bits, each at its place
low_of_bits : (w k : ℕ) → w % 2 ^ k ≡ total k (λ s. bit w s * 2 ^ s)
unfolding total bit
low_of_bits w zero = omega arith
low_of_bits w (suc k) =
    ap (λ (n : ℕ). w % 2 ^ n) (sym (one-add k))
    ∙ mod-pow-add w 1 k
    ∙ omega (arith, low_of_bits w k)

pub word_of_bits : (w S : ℕ) → w < 2 ^ S → w ≡ total S (λ s. bit w s * 2 ^ s)
word_of_bits w S h = sym (mod-eq_of_lt h) ∙ low_of_bits w S

-- words below 2 to the S with the same bits are the same
pub same_bits : (v w S : ℕ) → v < 2 ^ S → w < 2 ^ S → ((s : ℕ) → s < S → bit v s ≡ bit w s) → v ≡ w
same_bits v w S hv hw h =
    word_of_bits v S hv
    ∙ total_same S (λ s. bit v s * 2 ^ s) (λ s. bit w s * 2 ^ s) (λ s l. ap (λ (n : ℕ). n * 2 ^ s) (h s l))
    ∙ sym (word_of_bits w S hw)

-- a sum of bits, each at its place, is a word of these bits
pub sum_below : (S : ℕ) (c : ℕ → ℕ) → ((s : ℕ) → s < S → c s ≤ 1) → total S (λ s. c s * 2 ^ s) < 2 ^ S
unfolding total
sum_below zero c h = omega arith
sum_below (suc S) c h = one (c S) (h S (omega arith)) (sum_below S c (λ s l. h s (omega arith)))
  where
    one : (n : ℕ) → n ≤ 1 → total S (λ s. c s * 2 ^ s) < 2 ^ S → total S (λ s. c s * 2 ^ s) + n * 2 ^ S < 2 ^ suc S
    one zero l e = omega (arith, pow-suc 2 S)
    one (suc zero) l e = omega (arith, pow-suc 2 S)
    one (suc (suc n)) l e = absurd (omega arith)

pub bit_of_sum : (S : ℕ) (c : ℕ → ℕ) → ((s : ℕ) → s < S → c s ≤ 1) → (t : ℕ) → t < S → bit (total S (λ s. c s * 2 ^ s)) t ≡ c t
unfolding total
bit_of_sum zero c h t l = absurd (not-suc-le-zero l)
bit_of_sum (suc S) c h t l =
    ⊎_elim (λ q. rw q (top (c S) (h S (omega arith)))) (λ lt. rest lt ∙ bit_of_sum S c (λ s k. h s (omega arith)) t lt) (eq-or-lt_of_le (le_of_suc-le-suc l))
  where
    below : total S (λ s. c s * 2 ^ s) < 2 ^ S
    below = sum_below S c (λ s k. h s (omega arith))

    turned : (n : ℕ) → total S (λ s. c s * 2 ^ s) + n * 2 ^ S ≡ n * 2 ^ S + total S (λ s. c s * 2 ^ s)
    turned n = add_comm (total S (λ s. c s * 2 ^ s)) (n * 2 ^ S)

    top : (n : ℕ) → n ≤ 1 → bit (total S (λ s. c s * 2 ^ s) + n * 2 ^ S) S ≡ n
    top n k = ap (λ (w : ℕ). bit w S) (turned n) ∙ bit_by_high (n * 2 ^ S + total S (λ s. c s * 2 ^ s)) S n k (high n S below)

    rest : t < S → bit (total S (λ s. c s * 2 ^ s) + c S * 2 ^ S) t ≡ bit (total S (λ s. c s * 2 ^ s)) t
    rest lt =
        ap (λ (w : ℕ). bit w t) (turned (c S))
        ∙ same_low (c S * 2 ^ S + total S (λ s. c s * 2 ^ s)) (total S (λ s. c s * 2 ^ s)) S t (low (c S) S below ∙ sym (mod-eq_of_lt below)) lt

-- ---- the count of ones is the sum of the bits
ones_of_bit : (n : ℕ) → n ≤ 1 → ones n ≡ n
unfolding ones
ones_of_bit zero h = refl
ones_of_bit (suc zero) h = refl
ones_of_bit (suc (suc n)) h = absurd (omega arith)

ones_of_top : (w k : ℕ) → ones (w / 2 ^ k % 2) ≡ bit w k
unfolding bit
ones_of_top w k = ones_of_bit (w / 2 ^ k % 2) (bit_most w k)

ones_low : (w k : ℕ) → ones (w % 2 ^ k) ≡ total k (bit w)
unfolding total
ones_low w zero = ap ones (omega arith) ∙ ones_of_bit 0 (omega arith)
ones_low w (suc k) =
    ap (λ (n : ℕ). ones (w % 2 ^ n)) (sym (one-add k))
    ∙ ap ones (mod-pow-add w 1 k)
    ∙ ones_cat k (w / 2 ^ k % 2 ^ 1) (w % 2 ^ k) (mod-lt w (pow_pos k))
    ∙ ap₂ (λ (a b : ℕ). a + b) (ones_of_top w k) (ones_low w k)
    ∙ add_comm (bit w k) (total k (bit w))

pub ones_are_bits : (w S : ℕ) → w < 2 ^ S → ones w ≡ total S (bit w)
ones_are_bits w S h = ap ones (sym (mod-eq_of_lt h)) ∙ ones_low w S
