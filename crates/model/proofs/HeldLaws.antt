-- Document 01's Held is the published guard on a DEC.
use Prim.Native.Nat.{ℕ, ◌<◌}
use mathlib.Core.Path.{◌≡◌, refl, sym, ap, ◌∙◌}
use mathlib.Core.Bool.{Bool, true, false, ◌&&◌}
use native.Mathlib.Omega.{arith}
use lib.Dec.{eqb}
use borrow.Author.Tests.{eq-eqb}
use Rattle.moreau.specs.StateSpace.{Msg, COPY, DEC, INC_DEC}
use Rattle.moreau.specs.Transitions.{PaperGuard}
use Rattle.moreau.proofs.Bags.{one_same, one_other}
use Rattle.model.specs.declared.Posted.{Posted}
use Rattle.model.specs.declared.Posted.TheVariants.{Copy, Dec as Decr, IncDec, Nothing}
use Rattle.model.specs.Messages.{is_inc_dec}
use Rattle.model.specs.Layout.{Layout}
use Rattle.model.specs.Calls.{held_refusal}
use Rattle.model.specs.Meaning.{meant, config_of, meaning}
use Rattle.model.proofs.TestLaws.{true_not_false, when_not}
use Rattle.model.proofs.QuestionLaws.{some_none, some_nowhere}
use Rattle.model.proofs.PoolLaws.{total_of_zeros, term_in_total}
use Rattle.model.proofs.RowLaws.{inc_dec_is}

-- a slot without such an INC_DEC means none of them
no_such : (x : Posted) (a b p c : ℕ) → is_inc_dec a b p x ≡ false → meant x (INC_DEC a b p c) ≡ 0
unfolding meant
no_such (Copy x y q) a b p c e = one_other (COPY x y q) (INC_DEC a b p c) (λ f. let z : ◌≡◌ {A = ℕ} 0 1 = cc in omega arith)
no_such (Decr x y q) a b p c e = one_other (DEC x y q) (INC_DEC a b p c) (λ f. let z : ◌≡◌ {A = ℕ} 0 1 = cc in omega arith)
no_such (IncDec x y z q) a b p c e = one_other (INC_DEC x y q z) (INC_DEC a b p c) (λ f.
    let ex : x ≡ a = cc in
    let ey : y ≡ b = cc in
    let ep : q ≡ p = cc in
    let t : (eqb x a && eqb y b && eqb q p) ≡ true = rw (eq-eqb x a ex, eq-eqb y b ey, eq-eqb q p ep) in
    true_not_false (sym t ∙ e))
no_such Nothing a b p c e = refl

module _ {D : Type 0} (L : Layout D) where
  -- A DEC that Held lets pass passes the published guard.
  pub held_is_the_guard : (d : D) (a b p : ℕ) → held_refusal (L.slots d) (L.message d) (Decr a b p) ≡ 0 → PaperGuard (meaning L d) a b p
  unfolding config_of
  held_is_the_guard d a b p e c =
      total_of_zeros (L.slots d) (λ slot. meant (L.message d slot) (INC_DEC a b p c))
      (λ slot l. no_such (L.message d slot) a b p c (some_none (λ slot. is_inc_dec a b p (L.message d slot)) (L.slots d) slot l (when_not 8 _ e)))

  -- A DEC that passes the published guard is one that Held lets pass.
  pub the_guard_is_held : (d : D) (a b p : ℕ) → PaperGuard (meaning L d) a b p → held_refusal (L.slots d) (L.message d) (Decr a b p) ≡ 0
  unfolding config_of meant
  the_guard_is_held d a b p may = rw (some_nowhere (λ slot. is_inc_dec a b p (L.message d slot)) (L.slots d) (λ slot l. go slot l (is_inc_dec a b p (L.message d slot)) refl))
    where
      go : (slot : ℕ) → slot < L.slots d → (t : Bool) → is_inc_dec a b p (L.message d slot) ≡ t → t ≡ false
      go slot l true e =
          let c = inc_dec_is a b p (L.message d slot) e in
          let m : Msg = INC_DEC a b p c.0 in
          let here : meant (L.message d slot) m ≡ 1 = ap (λ (x : Posted). meant x m) c.1 ∙ one_same m in
          absurd (omega (arith, may c.0, term_in_total (L.slots d) (λ i. meant (L.message d i) m) slot l))
      go slot l false e = refl
