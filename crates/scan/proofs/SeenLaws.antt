-- What is seen with one number more, for any form of a slot.
use Prim.Native.Nat.{ℕ, zero, suc, ◌+◌, ◌%◌, ◌≤◌, ◌<◌}
use mathlib.Core.Path.{◌≡◌, refl, sym, ap, ap₂, ◌∙◌}
use mathlib.Core.Bool.{Bool, true, false, ◌&&◌, cond}
use mathlib.Core.List.{List}
use native.Mathlib.Omega.{arith}
use lib.Bits.{bit_or}
use lib.Dec.{eqb}
use lib.ListN.{get_or}
use mir.Val.{bool_byte}
use borrow.Author.Tests.{ne_eqb}
use Rattle.std.specs.Prelude.{Option, Some, None}
use Rattle.model.specs.Questions.{every, how_many}
use Rattle.model.specs.Tables.{slots_of, empty_at}
use Rattle.model.proofs.QuestionLaws.{every_at, every_more}
use Rattle.model.proofs.EmptySlots.{at_most_all}
use Rattle.scan.specs.Word.{clear, ones}
use Rattle.scan.specs.Form.{Form, Sound, number_at, bits_good, good_at, counted_at, Tells}
use Rattle.scan.specs.declared.form.Seen.{Seen}
use Rattle.scan.proofs.BitLaws.{and_pairs}
use Rattle.scan.proofs.FieldLaws.{clear_or}

-- ---- one number more
-- shown by itself and with its room, which are kept apart
pub apart_more : (mask numbers sums x y : ℕ) → clear mask (bit_or (bit_or numbers x) (bit_or sums y)) ≡ (clear mask (bit_or numbers sums) && (clear mask x && clear mask y))
apart_more mask numbers sums x y =
    clear_or mask (bit_or numbers x) (bit_or sums y)
    ∙ ap₂ (λ (a b : Bool). a && b) (clear_or mask numbers x) (clear_or mask sums y)
    ∙ and_pairs (clear mask numbers) (clear mask x) (clear mask sums) (clear mask y)
    ∙ ap (λ (b : Bool). b && (clear mask x && clear mask y)) (sym (clear_or mask numbers sums))

-- a test as a byte
pub byte_at_most_1 : (b : Bool) → bool_byte b ≤ 1
byte_at_most_1 true = omega arith
byte_at_most_1 false = omega arith

-- what a kind adds to the count
pub one_by_kind : (k : ℕ) → get_or ones k 0 ≡ cond (eqb k 0) 1 0
one_by_kind zero = refl
one_by_kind (suc zero) = refl
one_by_kind (suc (suc zero)) = refl
one_by_kind (suc (suc (suc zero))) = refl
one_by_kind (suc (suc (suc (suc k)))) = rw (ne_eqb (suc (suc (suc (suc k)))) 0 (λ z. omega arith))

-- ---- a slot more
pub how_many_more : (P : ℕ → Bool) (n : ℕ) {count : ℕ} → count ≡ how_many n P → count + cond (P n) 1 0 ≡ how_many (n + 1) P
unfolding how_many
how_many_more P n e = let q : n + 1 ≡ suc n = omega arith in rw (e, q)

module _ (f : Form) (room pool : List ℕ) where
  -- the next slot
  pub tells_more : (n kind bits : ℕ) (before after : Seen) → Tells f room pool n before → (kind ≡ number_at f pool n % 4) × (bits ≡ f.looked (number_at f pool n))
      → (clear f.mask (bit_or after.numbers after.sums) ≡ (clear f.mask (bit_or before.numbers before.sums) && bits_good f room kind bits))
      × (after.empties ≡ before.empties + cond (eqb kind 0) 1 0) → Tells f room pool (n + 1) after
  tells_more n kind bits before after told same e = (
    e.0
        ∙ ap₂ (λ (k y : ℕ). clear f.mask (bit_or before.numbers before.sums) && bits_good f room k y) same.0 same.1
        ∙ every_more (good_at f room pool) n told.0,
    e.1 ∙ ap (λ (k : ℕ). before.empties + cond (eqb k 0) 1 0) same.0 ∙ how_many_more (counted_at f pool) n told.1,
  )

  -- no more are counted than there are
  pub tells_few : (n : ℕ) (seen : Seen) → Tells f room pool n seen → seen.empties ≤ n
  tells_few n seen told = omega (arith, told.1, at_most_all n (counted_at f pool))

-- ---- all slots
same_count : (n : ℕ) (P Q : ℕ → Bool) → ((i : ℕ) → i < n → P i ≡ Q i) → how_many n P ≡ how_many n Q
unfolding how_many
same_count zero P Q h = refl
same_count (suc n) P Q h = ap₂ (λ (k : ℕ) (b : Bool). k + cond b 1 0) (same_count n P Q (λ i l. h i (omega arith))) (h n (omega arith))

module _ (f : Form) (s g : ℕ) (room : List ℕ) (sound : Sound f s g room) (pool : List ℕ) (bytes : (j : ℕ) → get_or pool j 0 < 256) where
  abbrev slots : ℕ
  slots = slots_of f.width pool

  abbrev answer : Bool → Option ℕ
  answer good = cond good (Some (how_many slots (empty_at f.width pool))) None

  pub no_answer : slots ≡ 0 → Some 0 ≡ answer (f.all_good s g pool)
  unfolding every how_many
  no_answer z =
      let e : every slots (good_at f room pool) ≡ true = rw z in
      let none : how_many slots (empty_at f.width pool) ≡ 0 = rw z in
      ap Some (sym none) ∙ ap answer (sym e ∙ sound.tested pool bytes)

  module _ (seen : Seen) (told : Tells f room pool slots seen) {is : Bool} (e : is ≡ clear f.mask (bit_or seen.numbers seen.sums)) where
    all_told : is ≡ f.all_good s g pool
    all_told = e ∙ told.0 ∙ sound.tested pool bytes

    pub clear_answer : is ≡ true → Some seen.empties ≡ answer (f.all_good s g pool)
    clear_answer t =
        ap Some (told.1 ∙ same_count slots _ _ (λ i l. sound.counted pool bytes i (every_at (good_at f room pool) slots i l (sym (e ∙ told.0) ∙ t))))
        ∙ ap answer (sym t ∙ all_told)

    pub shown_answer : is ≡ false → None ≡ answer (f.all_good s g pool)
    shown_answer t = ap answer (sym t ∙ all_told)
