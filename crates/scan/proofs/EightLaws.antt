-- Eight bytes as one number show a bit of the mask where one of them is above 1; words that cover a list test all of it.
use Prim.Native.Nat.{ℕ, zero, suc, ◌+◌, ◌-◌, ◌*◌, ◌≤◌, ◌<◌, max}
use mathlib.Core.Path.{◌≡◌, refl, sym, ap, ap₂, ◌∙◌}
use mathlib.Core.Bool.{Bool, true, false, ◌&&◌}
use mathlib.Core.List.{List}
use native.Mathlib.Nat.{zero-add, add-zero, add_assoc}
use native.Mathlib.Omega.{arith}
use lib.Bits.{bit_and, bit_or, and_high}
use lib.Dec.{ltb}
use lib.ListN.{get_or}
use mir.Syntax.{w8}
use mir.Val.{Fits}
use borrow.Author.Tests.{eqb-true, eq-eqb, ltb-true, ltb-false, lt-ltb}
use Rattle.model.specs.Questions.{every}
use Rattle.model.specs.Tables.{byte_below}
use Rattle.model.proofs.TestLaws.{same_test, and_both, and_assoc, and_true}
use Rattle.model.proofs.QuestionLaws.{every_at, every_all}
use Rattle.scan.specs.Word.{eight, eight_at, clear, bit_mask}
use Rattle.scan.proofs.BitLaws.{and_pairs}
use Rattle.scan.proofs.FieldLaws.{clear_or, seen_more, masked_block}

-- ---- one number
-- the lowest byte, and those above it
bits_block : (x m r : ℕ) → r < 256 → clear (m * 256 + 254) (x * 256 + r) ≡ (ltb r 2 && clear m x)
bits_block x m r l =
    let e = masked_block x m r 254 l (omega arith) refl (and_high r 7 1) in
    same_test (clear (m * 256 + 254) (x * 256 + r)) (ltb r 2 && clear m x)
    (λ t.
    let z = sym e ∙ eqb-true (bit_and (x * 256 + r) (m * 256 + 254)) 0 t in
    rw (lt-ltb r 2 (omega arith), eq-eqb (bit_and x m) 0 (omega arith)))
    (λ t.
    let b = and_both (ltb r 2) (clear m x) t in
    let lr = ltb-true r 2 b.0 in
    let zx = eqb-true (bit_and x m) 0 b.1 in
    eq-eqb (bit_and (x * 256 + r) (m * 256 + 254)) 0 (e ∙ omega arith))

eight_clear : (a b c d e f g h : ℕ) → a < 256 → b < 256 → c < 256 → d < 256 → e < 256 → f < 256 → g < 256 → h < 256
    → clear bit_mask (eight a b c d e f g h) ≡ (ltb a 2 && (ltb b 2 && (ltb c 2 && (ltb d 2 && (ltb e 2 && (ltb f 2 && (ltb g 2 && ltb h 2)))))))
eight_clear a b c d e f g h la lb lc ld le lf lg lh =
    let x1 = 0 * 256 + h in
    let x2 = x1 * 256 + g in
    let x3 = x2 * 256 + f in
    let x4 = x3 * 256 + e in
    let x5 = x4 * 256 + d in
    let x6 = x5 * 256 + c in
    let x7 = x6 * 256 + b in
    let q : eight a b c d e f g h ≡ x7 * 256 + a = omega arith in
    ap (clear bit_mask) q
    ∙ bits_block x7 71775015237779198 a la
    ∙ (λ w. ltb a 2 && bits_block x6 280371153272574 b lb w)
    ∙ (λ w. ltb a 2 && (ltb b 2 && bits_block x5 1095199817470 c lc w))
    ∙ (λ w. ltb a 2 && (ltb b 2 && (ltb c 2 && bits_block x4 4278124286 d ld w)))
    ∙ (λ w. ltb a 2 && (ltb b 2 && (ltb c 2 && (ltb d 2 && bits_block x3 16711422 e le w))))
    ∙ (λ w. ltb a 2 && (ltb b 2 && (ltb c 2 && (ltb d 2 && (ltb e 2 && bits_block x2 65278 f lf w)))))
    ∙ (λ w. ltb a 2 && (ltb b 2 && (ltb c 2 && (ltb d 2 && (ltb e 2 && (ltb f 2 && bits_block x1 254 g lg w))))))
    ∙ (λ w. ltb a 2 && (ltb b 2 && (ltb c 2 && (ltb d 2 && (ltb e 2 && (ltb f 2 && (ltb g 2 && (bits_block 0 0 h lh ∙ and_true (ltb h 2)) w)))))))

-- ---- words that cover
-- the first k, and m from a place on that is no later
pub covered : (P : ℕ → Bool) (k at m next : ℕ) → at ≤ k → max k (at + m) ≡ next → (every k P && every m (λ j. P (at + j))) ≡ every next P
covered P k at m next low e =
    same_test (every k P && every m (λ j. P (at + j))) (every next P)
    (λ t.
    let b = and_both (every k P) (every m (λ j. P (at + j))) t in
    every_all P next (λ i l. go i l b.0 b.1 (ltb i k) refl))
    (λ t.
    rw (every_all P k (λ i l. every_at P next i (omega arith) t), every_all (λ j. P (at + j)) m (λ j l. every_at P next (at + j) (omega arith) t)))
  where
    go : (i : ℕ) → i < next → every k P ≡ true → every m (λ j. P (at + j)) ≡ true → (b : Bool) → ltb i k ≡ b → P i ≡ true
    go i l first later true t = every_at P k i (ltb-true i k t) first
    go i l first later false t =
        let far = ltb-false i k t in
        let q : at + (i - at) ≡ i = omega arith in
        rw q at (every_at (λ j. P (at + j)) m (i - at) (omega arith) later)

-- m more are seen, from a place on that is no later than k
pub seen_covered : (mask : ℕ) (P : ℕ → Bool) (k at m next seen x : ℕ) → at ≤ k → max k (at + m) ≡ next
    → clear mask seen ≡ every k P → clear mask x ≡ every m (λ j. P (at + j)) → clear mask (bit_or seen x) ≡ every next P
seen_covered mask P k at m next seen x low e before ex = clear_or mask seen x ∙ ap₂ ◌&&◌ before ex ∙ covered P k at m next low e

-- the first m and the last m are all n
pub seen_ends : (mask : ℕ) (P : ℕ → Bool) (m n first last : ℕ) → m ≤ n → n ≤ m + m
    → clear mask first ≡ every m (λ j. P (0 + j)) → clear mask last ≡ every m (λ j. P (n - m + j)) → clear mask (bit_or first last) ≡ every n P
seen_ends mask P m n first last low high ef el =
    seen_covered mask P m (n - m) m n first last (omega arith) (omega arith) (ef ∙ (λ w. every m (λ j. P (zero-add j w)))) el

-- eight at a time
words : (P : ℕ → Bool) (n : ℕ) → every n (λ k. every 8 (λ j. P (k * 8 + j))) ≡ every (n * 8) P
unfolding every
words P zero = refl
words P (suc n) = ap (λ (b : Bool). b && every 8 (λ j. P (n * 8 + j))) (words P n) ∙ covered P (n * 8) (n * 8) 8 (suc n * 8) (omega arith) (omega arith)

pub both : (P Q : ℕ → Bool) (n : ℕ) → every n (λ k. P k && Q k) ≡ (every n P && every n Q)
unfolding every
both P Q zero = refl
both P Q (suc n) = ap (λ (b : Bool). b && (P n && Q n)) (both P Q n) ∙ and_pairs (every n P) (every n Q) (P n) (Q n)

-- ---- four streams of q words
module _ (P : ℕ → Bool) (q : ℕ) where
  abbrev word : ℕ → Bool
  word k = every 8 (λ j. P (k * 8 + j))

  -- the words at k of each stream
  abbrev pub in_streams : ℕ → Bool
  in_streams k = word k && word (q + k) && word (q + q + k) && word (q + q + q + k)

  pub streams_done : every q in_streams ≡ every (q * 32) P
  streams_done =
      both (λ k. word k && word (q + k) && word (q + q + k)) (λ k. word (q + q + q + k)) q
      ∙ (λ w. both (λ k. word k && word (q + k)) (λ k. word (q + q + k)) q w && every q (λ k. word (q + q + q + k)))
      ∙ (λ w. (both word (λ k. word (q + k)) q w && every q (λ k. word (q + q + k))) && every q (λ k. word (q + q + q + k)))
      ∙ (λ w. (covered word q q q (q + q) (omega arith) (omega arith) w && every q (λ k. word (q + q + k))) && every q (λ k. word (q + q + q + k)))
      ∙ (λ w. covered word (q + q) (q + q) q (q + q + q) (omega arith) (omega arith) w && every q (λ k. word (q + q + q + k)))
      ∙ covered word (q + q + q) (q + q + q) q (q + q + q + q) (omega arith) (omega arith)
      ∙ words P (q + q + q + q)
      ∙ (let e : (q + q + q + q) * 8 ≡ q * 32 = omega arith in ap (λ (n : ℕ). every n P) e)

-- ---- the bytes of a list
module _ (bytes : List ℕ) (known : (j : ℕ) → Fits w8 (get_or bytes j 0)) where
  byte : (j : ℕ) → get_or bytes j 0 < 256
  byte j = omega (arith, known j)

  pub eight_bits : (at : ℕ) {x : ℕ} → x ≡ eight_at bytes at → clear bit_mask x ≡ every 8 (λ j. byte_below 2 bytes (at + j))
  unfolding every
  eight_bits at e =
      ap (clear bit_mask) e
      ∙ eight_clear _ _ _ _ _ _ _ _ (byte at) (byte (at + 1)) (byte (at + 2)) (byte (at + 3)) (byte (at + 4)) (byte (at + 5)) (byte (at + 6)) (byte (at + 7))
      ∙ simp (and_assoc, add-zero at)

  -- two words in a row are seen
  pub sixteen_bits : (at : ℕ) {x y : ℕ} → x ≡ eight_at bytes at → y ≡ eight_at bytes (at + 8) → clear bit_mask (bit_or x y) ≡ every 16 (λ j. byte_below 2 bytes (at + j))
  sixteen_bits at {x} {y} ex ey =
      seen_covered bit_mask (λ j. byte_below 2 bytes (at + j)) 8 8 8 16 x y (omega arith) (omega arith) (eight_bits at ex)
      (eight_bits (at + 8) ey ∙ (λ w. every 8 (λ j. byte_below 2 bytes (add_assoc at 8 j w))))

  -- a word of each stream is seen
  word_bits : (k at : ℕ) {x : ℕ} → x ≡ eight_at bytes at → at ≡ k * 8 → clear bit_mask x ≡ every 8 (λ j. byte_below 2 bytes (k * 8 + j))
  word_bits k at ex q = eight_bits (k * 8) (ex ∙ ap (eight_at bytes) q)

  pub streams_more : (q i seen : ℕ) {a b c d : ℕ} → a ≡ eight_at bytes (i * 8) → b ≡ eight_at bytes (q * 8 + i * 8) → c ≡ eight_at bytes (q * 16 + i * 8) → d ≡ eight_at bytes (q * 24 + i * 8)
      → clear bit_mask seen ≡ every i (in_streams (byte_below 2 bytes) q)
      → clear bit_mask (bit_or seen (bit_or (bit_or (bit_or a b) c) d)) ≡ every (i + 1) (in_streams (byte_below 2 bytes) q)
  streams_more q i seen {a} {b} {c} {d} ea eb ec ed before =
      seen_more bit_mask (in_streams (byte_below 2 bytes) q) i (i + 1) seen (bit_or (bit_or (bit_or a b) c) d) refl before
      (clear_or bit_mask (bit_or (bit_or a b) c) d
      ∙ ap₂ ◌&&◌
      (clear_or bit_mask (bit_or a b) c
      ∙ ap₂ ◌&&◌ (clear_or bit_mask a b ∙ ap₂ ◌&&◌ (word_bits i (i * 8) ea refl) (word_bits (q + i) (q * 8 + i * 8) eb (omega arith))) (word_bits (q + q + i) (q * 16 + i * 8) ec (omega arith)))
      (word_bits (q + q + q + i) (q * 24 + i * 8) ed (omega arith)))
