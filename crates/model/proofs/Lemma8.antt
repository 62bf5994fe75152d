-- Lemma 8 on the desk, with its "minus 1": where the machine's invariant stands and no slot names a pointer, the owner's counter is the number of sites that hold it minus 1.
use Prim.Native.Nat.{ℕ, zero, suc, ◌-◌, ◌≤◌, ◌<◌}
use mathlib.Core.Path.{◌≡◌, refl, sym, ap, ◌∙◌}
use mathlib.Core.Bool.{Bool, true, false}
use native.Mathlib.Omega.{arith}
use lib.Dec.{eqb}
use borrow.Author.Tests.{eqb-true, eqb-false}
use Rattle.moreau.specs.StateSpace.{Msg, COPY, DEC, INC_DEC, INT, pointer}
use Rattle.moreau.specs.Counts.{∑, under, Weight, holders, Y}
use Rattle.moreau.specs.Claims.{NoMessage}
use Rattle.moreau.proofs.Bags.{one_elsewhere}
use Rattle.moreau.proofs.Sums.{∑_zero}
use Rattle.moreau.proofs.Totals.{total_empty}
use Rattle.model.specs.declared.Posted.{Posted}
use Rattle.model.specs.declared.Posted.TheVariants.{Copy, Dec as Decr, IncDec, Nothing}
use Rattle.model.specs.Questions.{total}
use Rattle.model.specs.Layout.{Layout}
use Rattle.model.specs.Laws.{Laws}
use Rattle.model.specs.Meaning.{meant, config_of, meaning}
use Rattle.model.specs.Demands.{names}
use Rattle.model.proofs.PoolLaws.{total_of_zeros, term_in_total}
use Rattle.model.proofs.KeptLaws.{sent, holds}
use Rattle.model.proofs.ReachedLaws.{Stands}

-- a message that does not name p means none about p
elsewhere : (p : ℕ) (x : Posted) (m : Msg) → pointer m ≡ p → names p x ≡ false → meant x m ≡ 0
unfolding meant
elsewhere p (Copy a b q) m about e = one_elsewhere (COPY a b q) m (λ z. eqb-false q p e (z ∙ about))
elsewhere p (Decr a b q) m about e = one_elsewhere (DEC a b q) m (λ z. eqb-false q p e (z ∙ about))
elsewhere p (IncDec a b c q) m about e = one_elsewhere (INC_DEC a b q c) m (λ z. eqb-false q p e (z ∙ about))
elsewhere p Nothing m about e = refl

-- the machine's sum of truth values is the sum of the cells
sum_of_cells : (n : ℕ) (f : ℕ → Bool) (g : ℕ → ℕ) → ((s : ℕ) → s < n → f s ≡ eqb (g s) 1) → ((s : ℕ) → s < n → g s ≤ 1) → ∑ n (λ s. INT (f s)) ≡ total n g
unfolding ∑ total
sum_of_cells zero f g h bits = refl
sum_of_cells (suc n) f g h bits =
    omega (arith, one (eqb (g n) 1) refl (bits n (omega arith)), ap INT (h n (omega arith)), sum_of_cells n f g (λ s l. h s (omega arith)) (λ s l. bits s (omega arith)))
  where
    one : (b : Bool) → eqb (g n) 1 ≡ b → g n ≤ 1 → INT (eqb (g n) 1) ≡ g n
    one true e l = rw e (omega (arith, eqb-true (g n) 1 e))
    one false e l = rw e (omega (arith, eqb-false (g n) 1 e))

module _ {D : Type 0} (L : Layout D) (W : Laws L) {d : D} (t : Stands L d) (p : ℕ) (lp : p < L.pointers d) where
  open L use {sites, owner, counter, cell, slots, message}

  -- the number of holders is the sum of the cells over all sites
  holders_are_cells : holders (meaning L d) p ≡ total (sites d) (λ s. cell d s p)
  unfolding config_of
  holders_are_cells = sum_of_cells (sites d) (λ s. (meaning L d).rec s p) (λ s. cell d s p) (λ s ls. holds L d s p ls lp) (λ s ls. W.cell_bit d t.good s p ls lp)

  -- The owner holds, so the sum is at least 1.
  pub some_site_holds : 1 ≤ total (sites d) (λ s. cell d s p)
  unfolding config_of
  some_site_holds =
      let own = W.owner_inside d t.good p lp in
      let home = eqb-true (cell d (owner d p) p) 1 (sym (holds L d (owner d p) p own lp) ∙ t.there.well_formed.home p lp) in
      omega (arith, home, term_in_total (sites d) (λ s. cell d s p) (owner d p) own)

  -- While no slot names the pointer the owner's counter is the sum of its cells minus 1.
  pub owner_counter_is_holders_minus_1 : ((slot : ℕ) → slot < slots d → names p (message d slot) ≡ false) → counter d (owner d p) p ≡ total (sites d) (λ s. cell d s p) - 1
  unfolding config_of
  owner_counter_is_holders_minus_1 none =
      let C = meaning L d in
      let silent : NoMessage C p = λ m about. total_of_zeros (slots d) (λ slot. meant (message d slot) m) (λ slot l. elsewhere p (message d slot) m about (none slot l)) in
      let waits : ∑ (sites d) (Y C p) ≡ 0 = ∑_zero (sites d) (Y C p) (λ s k. ∑_zero (sites d) (λ c. C.pool (INC_DEC s (owner d p) p c)) (λ c j. silent (INC_DEC s (owner d p) p c) refl)) in
      let weight = total_empty (sites d) p (under (owner d p) Weight) C.pool silent in
      omega (arith, (t.there.sound p lp).root, waits, weight, holders_are_cells, sent L d (owner d p) p (W.owner_inside d t.good p lp) lp)
