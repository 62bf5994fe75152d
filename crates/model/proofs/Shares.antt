-- Lemma 5 by the public shares: where the machine's invariant stands no share is negative, and the owner's counter is the sum of the shares of all other sites.
use Prim.Native.Nat.{ℕ, zero, suc, ◌+◌, ◌-◌, ◌≤◌, ◌<◌}
use mathlib.Core.Path.{◌≡◌, refl, sym, ap, ap₂, ◌∙◌}
use mathlib.Core.Logic.{◌≢◌}
use mathlib.Core.Bool.{cond}
use native.Mathlib.Decide.{ℕ_discrete}
use native.Mathlib.Omega.{arith}
use lib.Dec.{eqb}
use lib.IntN.{ℤ, pos, ◌+ℤ◌, ◌-ℤ◌, +ℤ-neg_ℤ_cancel, pos-+ℤ-pos}
use borrow.Author.Tests.{eq-eqb, ne_eqb, lt-ltb}
use Rattle.moreau.specs.Counts.{◌unless◌is◌, ∑, X, Y}
use Rattle.moreau.proofs.Shares.{owner_is_∑share}
use Rattle.model.specs.Layout.{Layout}
use Rattle.model.specs.Calls.{front}
use Rattle.model.specs.Laws.{Laws}
use Rattle.model.specs.Survey.{balance, sumℤ, share_number, share_plus, share_minus, share_of, shares_of_others, share}
use Rattle.model.specs.Meaning.{config_of, meaning}
use Rattle.model.proofs.KeptLaws.{sent}
use Rattle.model.proofs.ShareLaws.{plus_is_X, minus_is_Y}
use Rattle.model.proofs.ReachedLaws.{Stands}

-- a difference that does not fall below 0
whole : (plus minus : ℕ) → minus ≤ plus → balance plus minus ≡ pos (plus - minus)
unfolding balance
whole plus minus h =
    let e : plus ≡ plus - minus + minus = omega arith in
    ap (λ n. pos n -ℤ pos minus) e
    ∙ ap (λ k. k -ℤ pos minus) (sym (pos-+ℤ-pos (plus - minus) minus))
    ∙ +ℤ-neg_ℤ_cancel (pos (plus - minus)) (pos minus)

-- a sum of whole numbers that are not negative
sum_of_pos : (n : ℕ) (f : ℕ → ℤ) (g : ℕ → ℕ) → ((s : ℕ) → s < n → f s ≡ pos (g s)) → sumℤ n f ≡ pos (∑ n g)
unfolding sumℤ ∑
sum_of_pos zero f g h = refl
sum_of_pos (suc n) f g h =
    ap₂ (λ a b. a +ℤ b) (sum_of_pos n f g (λ s l. h s (omega arith))) (h n (omega arith))
    ∙ pos-+ℤ-pos (∑ n g) (g n)
    ∙ ap pos (omega arith)

module _ {D : Type 0} (L : Layout D) (W : Laws L) {d : D} (t : Stands L d) (p : ℕ) (lp : p < L.pointers d) where
  open L use {sites, owner, counter}

  -- Y is at most X, by the slots
  below : (s : ℕ) → s < sites d → s ≢ owner d p → share_minus L d s p ≤ share_plus L d s p
  unfolding config_of
  below s ls apart =
      let h = (t.there.sound p lp).share s apart in
      omega (arith, plus_is_X L W d t.good s p ls lp, minus_is_Y L W d t.good s p ls lp)

  -- No share is negative.
  pub share_is_not_negative : (s : ℕ) → s < sites d → s ≢ owner d p → share_of L d s p ≡ pos (share_plus L d s p - share_minus L d s p)
  share_is_not_negative s ls apart = whole (share_plus L d s p) (share_minus L d s p) (below s ls apart)

  -- The public question is accepted there, and answers that share.
  pub share_answer : (s : ℕ) → s < sites d → s ≢ owner d p → share L d s p ≡ record { number = 0; share = share_of L d s p }
  unfolding share share_number front
  share_answer s ls apart =
      rw (t.good, lt-ltb s (sites d) ls, lt-ltb p (L.pointers d) lp, ne_eqb s (owner d p) apart)

  -- what a site adds to the sum
  one_share : (s : ℕ) → s < sites d → cond (eqb s (owner d p)) (pos 0) (share_of L d s p) ≡ pos (X (meaning L d) p s - Y (meaning L d) p s unless s is owner d p)
  unfolding ◌unless◌is◌
  one_share s ls = go (ℕ_discrete s (owner d p))
    where
      go : Dec (s ≡ owner d p) → cond (eqb s (owner d p)) (pos 0) (share_of L d s p) ≡ pos (cond (eqb s (owner d p)) 0 (X (meaning L d) p s - Y (meaning L d) p s))
      go (yes e) = rw (eq-eqb s (owner d p) e)
      go (no apart) =
          let good = t.good in
          rw (ne_eqb s (owner d p) apart)
          (share_is_not_negative s ls apart ∙ ap pos (ap₂ (λ a b. a - b) (plus_is_X L W d good s p ls lp) (minus_is_Y L W d good s p ls lp)))

  -- The owner's counter is the sum of the shares of all other sites.
  pub owner_counter_is_shares_of_others : shares_of_others L d p ≡ pos (counter d (owner d p) p)
  unfolding shares_of_others config_of
  owner_counter_is_shares_of_others =
      sum_of_pos (sites d) (λ s. cond (eqb s (owner d p)) (pos 0) (share_of L d s p)) (λ s. X (meaning L d) p s - Y (meaning L d) p s unless s is owner d p) one_share
      ∙ ap pos (sym (owner_is_∑share (meaning L d) t.there.well_formed p lp (t.there.sound p lp)) ∙ sent L d (owner d p) p (W.owner_inside d t.good p lp) lp)
