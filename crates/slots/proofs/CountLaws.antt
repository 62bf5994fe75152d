-- Counts of messages: one more slot, and how much they can be.
use Prim.Native.Nat.{ℕ, zero, suc, ◌+◌, ◌≤◌, ◌<◌}
use mathlib.Core.Path.{◌≡◌, refl, ◌∙◌}
use mathlib.Core.Bool.{false, ◌&&◌}
use native.Mathlib.Omega.{arith}
use lib.Dec.{eqb}
use Rattle.model.specs.declared.Posted.{Posted}
use Rattle.model.specs.declared.Posted.TheVariants.{Copy, Dec, IncDec, Nothing}
use Rattle.model.specs.Questions.{total}
use Rattle.model.specs.Messages.{is_inc_dec}
use Rattle.model.specs.Survey.{copies, decs, inc_decs}
use Rattle.model.proofs.TestLaws.{at_most_1}
use Rattle.model.proofs.QuestionLaws.{total_more, total_most}
use Rattle.slots.proofs.PointerLaws.{of_pointer, other_fields, no_inc_dec}
use Rattle.slots.specs.declared.count.Counts.{Counts}
use Rattle.slots.specs.FirstSlots.{weighed, plus_of, minus_of}
use Rattle.slots.specs.Counted.{counted, counts_of}

-- ---- a count, and a count of two, with one slot more
pub counted_more : (f : ℕ → ℕ) (i : ℕ) {sum w : ℕ} → sum ≡ total i f → w ≡ f i → sum + w ≡ total (i + 1) f
counted_more f i e q = omega (arith, total_more f i)

pub both_counted_more : (f g : ℕ → ℕ) (i : ℕ) {sum w : ℕ} → sum ≡ total i f + total i g → w ≡ f i + g i → sum + w ≡ total (i + 1) f + total (i + 1) g
both_counted_more f g i e q = omega (arith, total_more f i, total_more g i)

-- ---- at most one for each slot
both_at_most : (f g : ℕ → ℕ) (n : ℕ) → ((i : ℕ) → f i + g i ≤ 1) → total n f + total n g ≤ n
unfolding total
both_at_most f g zero h = omega arith
both_at_most f g (suc n) h = omega (arith, both_at_most f g n h, h n)

-- a message is not both a DEC and a COPY
plus_at_most_1 : (site owner p : ℕ) (m : Posted) → decs site owner p m + copies owner site p m ≤ 1
plus_at_most_1 site owner p (Copy a b q) = omega (arith, at_most_1 (eqb a owner && eqb b site && eqb q p))
plus_at_most_1 site owner p (Dec a b q) = omega (arith, at_most_1 (eqb a site && eqb b owner && eqb q p))
plus_at_most_1 site owner p (IncDec a b c q) = omega arith
plus_at_most_1 site owner p Nothing = omega arith

-- a message of another pointer counts nothing
no_plus : (site owner p : ℕ) (m : Posted) → of_pointer p m ≡ false → decs site owner p m + copies owner site p m ≡ 0
no_plus site owner p (Copy a b q) e = rw (other_fields (eqb a owner) (eqb b site) e)
no_plus site owner p (Dec a b q) e = rw (other_fields (eqb a site) (eqb b owner) e)
no_plus site owner p (IncDec a b c q) e = refl
no_plus site owner p Nothing e = refl

module _ (message : ℕ → Posted) (n site owner p : ℕ) where
  pub plus_at_most : weighed message n (decs site owner p) + weighed message n (copies owner site p) ≤ n
  plus_at_most = both_at_most (λ slot. decs site owner p (message slot)) (λ slot. copies owner site p (message slot)) n (λ slot. plus_at_most_1 site owner p (message slot))

  pub minus_at_most : weighed message n (inc_decs site owner p) ≤ n
  minus_at_most = total_most (λ slot. inc_decs site owner p (message slot)) n (λ slot. at_most_1 (is_inc_dec site owner p (message slot)))

-- ---- both as one value: none, one slot more, and how much they can be
module _ (message : ℕ → Posted) (site owner p : ℕ) where
  pub no_counts : record { plus = 0; minus = 0 } ≡ counts_of message 0 site owner p
  unfolding total
  no_counts = refl

  module _ (i : ℕ) {c : Counts} (e : c ≡ counts_of message i site owner p) where
    pub counts_few : i < 1024 → (c.plus < 1024) × (c.minus < 1024)
    counts_few l = rw e (omega (arith, plus_at_most message i site owner p), omega (arith, minus_at_most message i site owner p))

    -- up to the same number
    pub counts_to : (j : ℕ) → i ≡ j → c ≡ counts_of message j site owner p
    counts_to j q = rw q at e

    -- a slot's message
    pub counts_more : {m : Posted} {next : Counts} → m ≡ message i → next ≡ counted site owner p c m → next ≡ counts_of message (i + 1) site owner p
    counts_more q n =
        let more = both_counted_more (λ slot. decs site owner p (message slot)) (λ slot. copies owner site p (message slot)) i refl refl in
        let less = counted_more (λ slot. inc_decs site owner p (message slot)) i refl refl in
        n ∙ rw (e, q, more, less)

    -- a slot of another pointer
    pub counts_kept : of_pointer p (message i) ≡ false → c ≡ counts_of message (i + 1) site owner p
    counts_kept other =
        let none = no_inc_dec site owner p (message i) other in
        let more : plus_of message i site owner p ≡ plus_of message (i + 1) site owner p =
        omega (arith, total_more (λ slot. decs site owner p (message slot)) i, total_more (λ slot. copies owner site p (message slot)) i, no_plus site owner p (message i) other) in
        let less : minus_of message i site owner p ≡ minus_of message (i + 1) site owner p =
        let zero : inc_decs site owner p (message i) ≡ 0 = rw none in omega (arith, total_more (λ slot. inc_decs site owner p (message slot)) i, zero) in
        e ∙ rw (more, less)
