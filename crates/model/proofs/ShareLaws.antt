-- The public share of a site, from the slots, is the machine's X less Y.
use Prim.Native.Nat.{ℕ, zero, suc, ◌+◌, ◌≤◌, ◌<◌}
use mathlib.Core.Path.{◌≡◌, refl, sym, ap, ◌∙◌}
use mathlib.Core.Bool.{Bool, ◌&&◌}
use native.Mathlib.Decide.{ℕ_discrete}
use native.Mathlib.Omega.{arith}
use lib.Dec.{eqb}
use borrow.Author.Tests.{eq-eqb, ne_eqb}
use Rattle.moreau.specs.StateSpace.{Msg, COPY, DEC, INC_DEC, INT, ⟅◌⟆}
use Rattle.moreau.specs.Counts.{∑, X, Y}
use Rattle.moreau.proofs.Bags.{one_same, one_other}
use Rattle.moreau.proofs.Sums.{∑_add, ∑_zero, ∑_pick}
use Rattle.model.specs.declared.Posted.{Posted}
use Rattle.model.specs.declared.Posted.TheVariants.{Copy, Dec as Decr, IncDec, Nothing}
use Rattle.model.specs.Refusals.{◌when◌}
use Rattle.model.specs.Questions.{total}
use Rattle.model.specs.Layout.{Layout}
use Rattle.model.specs.Calls.{lent_refusal}
use Rattle.model.specs.Laws.{Inside, Laws}
use Rattle.model.specs.Survey.{copies, decs, inc_decs, share_plus, share_minus}
use Rattle.model.specs.Meaning.{meant, config_of, meaning}
use Rattle.model.proofs.PoolLaws.{total_same}
use Rattle.model.proofs.KeptLaws.{holds}

-- ---- one message, as a bag and as a count
-- three names that are the same, or not
module _ (x y q a b p : ℕ) where
  abbrev same_names : Bool
  same_names = eqb x a && eqb y b && eqb q p

  by_names : (P : ℕ → Type 0) → (x ≡ a → y ≡ b → q ≡ p → P 1) → (((x ≡ a) × (y ≡ b) × (q ≡ p) → ⊥) → P 0) → P (1 when same_names)
  by_names P all not-all = go (ℕ_discrete x a) (ℕ_discrete y b) (ℕ_discrete q p)
    where
      go : Dec (x ≡ a) → Dec (y ≡ b) → Dec (q ≡ p) → P (1 when same_names)
      go (yes e) (yes f) (yes g) = rw (eq-eqb x a e, eq-eqb y b f, eq-eqb q p g) (all e f g)
      go (no d) _ _ = rw (ne_eqb x a d) (not-all (λ h. d h.0))
      go (yes e) (no d) _ = rw (eq-eqb x a e, ne_eqb y b d) (not-all (λ h. d h.1))
      go (yes e) (yes f) (no d) = rw (eq-eqb x a e, eq-eqb y b f, ne_eqb q p d) (not-all (λ h. d h.2))

one_copy : (x y q a b p : ℕ) → ⟅ COPY x y q ⟆ (COPY a b p) ≡ (1 when (eqb x a && eqb y b && eqb q p))
one_copy x y q a b p =
    by_names x y q a b p (λ n. ⟅ COPY x y q ⟆ (COPY a b p) ≡ n)
    (λ e f g. rw (e, f, g) (one_same (COPY a b p)))
    (λ h. one_other (COPY x y q) (COPY a b p) (λ e. h (cc, cc, cc)))

one_dec : (x y q a b p : ℕ) → ⟅ DEC x y q ⟆ (DEC a b p) ≡ (1 when (eqb x a && eqb y b && eqb q p))
one_dec x y q a b p =
    by_names x y q a b p (λ n. ⟅ DEC x y q ⟆ (DEC a b p) ≡ n)
    (λ e f g. rw (e, f, g) (one_same (DEC a b p)))
    (λ h. one_other (DEC x y q) (DEC a b p) (λ e. h (cc, cc, cc)))

-- an INC_DEC with a third site below S, over all third sites
one_inc_dec : (S x y z q a b p : ℕ) → z < S → ∑ S (λ c. ⟅ INC_DEC x y q z ⟆ (INC_DEC a b p c)) ≡ (1 when (eqb x a && eqb y b && eqb q p))
one_inc_dec S x y z q a b p lz =
    by_names x y q a b p (λ n. ∑ S (λ c. ⟅ INC_DEC x y q z ⟆ (INC_DEC a b p c)) ≡ n)
    (λ e f g.
    ∑_pick S z (λ c. ⟅ INC_DEC x y q z ⟆ (INC_DEC a b p c)) lz (λ c lc apart. one_other (INC_DEC x y q z) (INC_DEC a b p c) (λ i. apart (cc)))
    ∙ rw (e, f, g) (one_same (INC_DEC a b p z)))
    (λ h. ∑_zero S (λ c. ⟅ INC_DEC x y q z ⟆ (INC_DEC a b p c)) (λ c lc. one_other (INC_DEC x y q z) (INC_DEC a b p c) (λ e. h (cc, cc, cc))))

-- messages of different kinds
differ : (m n : Msg) → (m ≡ n → ◌≡◌ {A = ℕ} 0 1) → ⟅ m ⟆ n ≡ 0
differ m n h = one_other m n (λ e. let z = h e in omega arith)

-- ---- the bag of a slot counts as the survey counts
copy_count : (x : Posted) (a b p : ℕ) → meant x (COPY a b p) ≡ copies a b p x
unfolding meant
copy_count (Copy x y q) a b p = one_copy x y q a b p
copy_count (Decr x y q) a b p = differ (DEC x y q) (COPY a b p) (λ e. cc)
copy_count (IncDec x y z q) a b p = differ (INC_DEC x y q z) (COPY a b p) (λ e. cc)
copy_count Nothing a b p = refl

dec_count : (x : Posted) (a b p : ℕ) → meant x (DEC a b p) ≡ decs a b p x
unfolding meant
dec_count (Copy x y q) a b p = differ (COPY x y q) (DEC a b p) (λ e. cc)
dec_count (Decr x y q) a b p = one_dec x y q a b p
dec_count (IncDec x y z q) a b p = differ (INC_DEC x y q z) (DEC a b p) (λ e. cc)
dec_count Nothing a b p = refl

inc_dec_count : (S G : ℕ) (x : Posted) (a b p : ℕ) → Inside S G x → ∑ S (λ c. meant x (INC_DEC a b p c)) ≡ inc_decs a b p x
unfolding meant
inc_dec_count S G (Copy x y q) a b p w = ∑_zero S (λ c. ⟅ COPY x y q ⟆ (INC_DEC a b p c)) (λ c l. differ (COPY x y q) (INC_DEC a b p c) (λ e. cc))
inc_dec_count S G (Decr x y q) a b p w = ∑_zero S (λ c. ⟅ DEC x y q ⟆ (INC_DEC a b p c)) (λ c l. differ (DEC x y q) (INC_DEC a b p c) (λ e. cc))
inc_dec_count S G (IncDec x y z q) a b p w = one_inc_dec S x y z q a b p w.2
inc_dec_count S G Nothing a b p w = ∑_zero S (λ c. 0) (λ c l. refl)

-- a sum over sites of totals over slots is a total of sums
∑_of_totals : (S n : ℕ) (f : ℕ → ℕ → ℕ) → ∑ S (λ c. total n (λ i. f i c)) ≡ total n (λ i. ∑ S (f i))
unfolding total
∑_of_totals S zero f = ∑_zero S (λ c. 0) (λ c l. refl)
∑_of_totals S (suc n) f = ∑_add S (λ c. total n (λ i. f i c)) (f n) ∙ ap (λ (m : ℕ). m + ∑ S (f n)) (∑_of_totals S n f)

-- ---- the share
bit_int : (n : ℕ) → n ≤ 1 → INT (eqb n 1) ≡ n
bit_int n h = go (ℕ_discrete n 1)
  where
    go : Dec (n ≡ 1) → INT (eqb n 1) ≡ n
    go (yes e) = rw e
    go (no apart) = rw (ne_eqb n 1 apart) (omega arith)

module _ {D : Type 0} (L : Layout D) (W : Laws L) (d : D) (good : lent_refusal L d ≡ 0) (s p : ℕ) (ls : s < L.sites d) (lp : p < L.pointers d) where
  open L use {sites, pointers, owner, cell, slots, message}

  -- The cell, the DECs to the owner and the COPYs from it are X.
  pub plus_is_X : share_plus L d s p ≡ X (meaning L d) p s
  unfolding share_plus config_of
  plus_is_X =
      let held = ap INT (holds L d s p ls lp) ∙ bit_int (cell d s p) (W.cell_bit d good s p ls lp) in
      let o = owner d p in
      let back = total_same (slots d) (λ i. meant (message d i) (DEC s o p)) (λ i. decs s o p (message d i)) (λ i l. dec_count (message d i) s o p) in
      let out = total_same (slots d) (λ i. meant (message d i) (COPY o s p)) (λ i. copies o s p (message d i)) (λ i l. copy_count (message d i) o s p) in
      omega (arith, held, back, out)

  -- The INC_DECs to the owner are Y.
  pub minus_is_Y : share_minus L d s p ≡ Y (meaning L d) p s
  unfolding share_minus config_of
  minus_is_Y =
      let o = owner d p in
      sym (∑_of_totals (sites d) (slots d) (λ i c. meant (message d i) (INC_DEC s o p c))
      ∙ total_same (slots d) (λ i. ∑ (sites d) (λ c. meant (message d i) (INC_DEC s o p c))) (λ i. inc_decs s o p (message d i))
      (λ i l. inc_dec_count (sites d) (pointers d) (message d i) s o p (W.inside d good i l)))
