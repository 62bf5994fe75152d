-- Document 01, "Other edges": what every make copy gives where there is one site, no pointer or no slot; over any layout.
use Prim.Native.Nat.{ℕ, ◌≤◌, ◌<◌}
use mathlib.Core.Path.{◌≡◌, refl}
use mathlib.Core.Logic.{◌≢◌, ◌⊎◌, inl, inr}
use native.Mathlib.Decide.{dec_lt}
use native.Mathlib.Omega.{arith}
use Rattle.model.specs.declared.Call.TheVariants.{MakeCopy}
use Rattle.model.specs.Refusals.{BadName, SameSite, PoolFull}
use Rattle.model.specs.Layout.{Layout}
use Rattle.model.specs.Calls.{lent_refusal, copy_number, copied, make_copy, step}
use Rattle.model.specs.Demands.{FirstOf, NoSlotEmpty, copy_rows}
use Rattle.model.proofs.RowLaws.{given_first, passed_over}
use Rattle.model.proofs.Exactly.{number_of_unless, lent_passed, copy_exactly}

module _ {D : Type 0} (L : Layout D) where
  open L use {sites, pointers, owner, counter, cell, slots}

  -- a name that is too large
  abbrev Beyond : D → ℕ → ℕ → ℕ → Type 0
  Beyond d from to p = (sites d ≤ from) ⊎ ((sites d ≤ to) ⊎ (pointers d ≤ p))

  module _ (d : D) (good : lent_refusal L d ≡ 0) (from to p : ℕ) where
    number : ℕ
    number = (step L d (MakeCopy from to p)).answer.number

    -- its number, by the rows after 1 and 2
    by_rows : FirstOf (copy_rows L d from to p) number
    unfolding number step make_copy copied
    by_rows =
        rw (number_of_unless (copy_number L d from to p) d (copied L d from to p) refl)
        (lent_passed L d (copy_rows L d from to p) (copy_number L d from to p) good (copy_exactly L d from to p))

    named : from < sites d → to < sites d → p < pointers d → Beyond d from to p → ⊥
    named lf lt lp (inl h) = omega arith
    named lf lt lp (inr (inl h)) = omega arith
    named lf lt lp (inr (inr h)) = omega arith

    -- S = 1: every make copy gives 3 or 4.
    pub one_site_no_copy : sites d ≡ 1 → ((step L d (MakeCopy from to p)).answer.number ≡ BadName) ⊎ ((step L d (MakeCopy from to p)).answer.number ≡ SameSite)
    unfolding number
    one_site_no_copy one = go (dec_lt from 1) (dec_lt to 1) (dec_lt p (pointers d))
      where
        beyond : Beyond d from to p → number ≡ 3
        beyond why = given_first 3 (Beyond d from to p) _ number why by_rows

        within : (Beyond d from to p → ⊥) → from ≡ to → number ≡ 4
        within in_range same = given_first 4 (from ≡ to) _ number same (passed_over 3 (Beyond d from to p) _ number in_range by_rows)

        go : Dec (from < 1) → Dec (to < 1) → Dec (p < pointers d) → (number ≡ 3) ⊎ (number ≡ 4)
        go (yes a) (yes b) (yes c) = inr (within (named (omega arith) (omega arith) c) (omega arith))
        go (no a) b c = inl (beyond (inl (omega arith)))
        go (yes a) (no b) c = inl (beyond (inr (inl (omega arith))))
        go (yes a) (yes b) (no c) = inl (beyond (inr (inr (omega arith))))

    -- G = 0: every make copy gives 3.
    pub no_pointer_no_copy : pointers d ≡ 0 → (step L d (MakeCopy from to p)).answer.number ≡ BadName
    unfolding number
    no_pointer_no_copy none = given_first 3 (Beyond d from to p) _ number (inr (inr (omega arith))) by_rows

    -- No slot: an otherwise good make copy, of which no earlier reason holds, gives 7.
    pub no_slot_no_copy : slots d ≡ 0 → from < sites d → to < sites d → p < pointers d → from ≢ to → ((from ≢ owner d p) × (cell d from p ≡ 0) → ⊥) → counter d from p ≢ 65535
        → (step L d (MakeCopy from to p)).answer.number ≡ PoolFull
    unfolding number
    no_slot_no_copy none lf lt lp apart held low =
        given_first 7 (NoSlotEmpty L d) _ number (λ slot l. absurd (omega arith))
        (passed_over 6 (counter d from p ≡ 65535) _ number low
        (passed_over 5 ((from ≢ owner d p) × (cell d from p ≡ 0)) _ number held
        (passed_over 4 (from ≡ to) _ number apart
        (passed_over 3 (Beyond d from to p) _ number (named lf lt lp) by_rows))))
