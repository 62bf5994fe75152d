-- Any two lawful layouts: desks that read the same go on reading the same, where the tests of owners and of what comes too early look at no more than what is read.
use Prim.Native.Nat.{ℕ, zero, suc, ◌<◌}
use mathlib.Core.Path.{◌≡◌, refl, sym, ap, ap₂, ◌∙◌, subst}
use mathlib.Core.Bool.{Bool, true, not, ◌||◌}
use native.Mathlib.Omega.{arith}
use lib.Dec.{eqb}
use borrow.Author.Tests.{not-false}
use Rattle.model.specs.declared.Posted.{Posted}
use Rattle.model.specs.declared.Posted.TheVariants.{Copy, Dec as Decr, IncDec, Nothing}
use Rattle.model.specs.Refusals.{◌when◌}
use Rattle.model.specs.Questions.{some}
use Rattle.model.specs.Messages.{is_nothing, is_inc_dec}
use Rattle.model.specs.Layout.{Layout}
use Rattle.model.specs.Calls.{held_refusal, lent_refusal}
use Rattle.model.specs.Laws.{Frame, frame, Inside, Reads, Laws}
use Rattle.model.proofs.TestLaws.{when_not, or_else_none}
use Rattle.model.proofs.ReadsLaws.{then_counter, then_cell, then_post}
use Rattle.model.proofs.SameAnswers.{ReadAlike, Alike, lent_alike}

-- ---- Held looks at messages alone
some_same : (n : ℕ) (P Q : ℕ → Bool) → ((i : ℕ) → i < n → P i ≡ Q i) → some n P ≡ some n Q
unfolding some
some_same zero P Q h = refl
some_same (suc n) P Q h = ap₂ (λ a b. a || b) (some_same n P Q (λ i l. h i (omega arith))) (h n (omega arith))

pub held_same : (n : ℕ) (f g : ℕ → Posted) → ((i : ℕ) → i < n → f i ≡ g i) → (m : Posted) → held_refusal n f m ≡ held_refusal n g m
held_same n f g h (Copy a b p) = refl
held_same n f g h (Decr a b p) = ap (λ (x : Bool). 9 when x) (some_same n (λ i. is_inc_dec a b p (f i)) (λ i. is_inc_dec a b p (g i)) (λ i l. ap (is_inc_dec a b p) (h i l)))
held_same n f g h (IncDec a b c p) = refl
held_same n f g h Nothing = refl

module _ {D : Type 0} (L : Layout D) where
  -- what passes 1 and 2
  both_pass : (d : D) → lent_refusal L d ≡ 0 → (L.shaped d ≡ true) × (L.sound d ≡ true)
  unfolding lent_refusal
  both_pass d e =
      let q = or_else_none (1 when not (L.shaped d)) (2 when not (L.sound d)) e in
      (not-false _ (when_not 0 _ q.0), not-false _ (when_not 1 _ q.1))

  -- memory that reads as tables reads as others that agree with them inside
  re_read : {d x : D} {counters counters' cells cells' : ℕ → ℕ → ℕ} {messages messages' : ℕ → Posted} → Reads L d x counters cells messages
      → ((s p : ℕ) → s < L.sites d → p < L.pointers d → counters s p ≡ counters' s p)
      → ((s p : ℕ) → s < L.sites d → p < L.pointers d → cells s p ≡ cells' s p)
      → ((i : ℕ) → i < L.slots d → messages i ≡ messages' i)
      → Reads L d x counters' cells' messages'
  re_read r a b c = record {
    good = r.good;
    same = r.same;
    as_counters = λ s p ls lp. r.as_counters s p ls lp ∙ a s p ls lp;
    as_cells = λ s p ls lp. r.as_cells s p ls lp ∙ b s p ls lp;
    as_messages = λ i l. r.as_messages i l ∙ c i l;
  }

module _ {D E : Type 0} (L : Layout D) (M : Layout E) where
  -- the two tests that are told by what is read
  pub record Told : Type 0 where
    pub owners_told : (d : D) (e : E) → frame L d ≡ frame M e → L.owned d ≡ M.owned e
    pub earlies_told : (d : D) (e : E) → frame L d ≡ frame M e → ((i : ℕ) → i < L.slots d → L.message d i ≡ M.message e i)
        → (i : ℕ) → i < L.slots d → L.early d i ≡ M.early e i

  module _ (U : Laws L) (W : Laws M) (told : Told) where
    -- good memory of each layout that reads as the same tables reads alike
    both_read : {d x : D} {e y : E} {counters cells : ℕ → ℕ → ℕ} {messages : ℕ → Posted} → frame L d ≡ frame M e
        → Reads L d x counters cells messages → Reads M e y counters cells messages → ReadAlike L M x y
    both_read {d} {x} {e} {y} {counters} {cells} {messages} f r t =
        let same = r.same ∙ f ∙ sym t.same in
        let a = both_pass L x r.good in
        let b = both_pass M y t.good in
        record {
          same = same;
          counters = λ s p ls lp. r.as_counters s p (site r.same ls) (pointer r.same lp) ∙ sym (t.as_counters s p (site (r.same ∙ f) ls) (pointer (r.same ∙ f) lp));
          cells = λ s p ls lp. r.as_cells s p (site r.same ls) (pointer r.same lp) ∙ sym (t.as_cells s p (site (r.same ∙ f) ls) (pointer (r.same ∙ f) lp));
          empties = λ i l. U.empties x r.good i l ∙ ap is_nothing (message i l) ∙ sym (W.empties y t.good i (slot same l));
          messages = message;
          shapes = a.0 ∙ sym b.0;
          owners = told.owners_told x y same;
          tables = a.1 ∙ sym b.1;
          earlies = told.earlies_told x y same message;
        }
      where
        site : {g : Frame} {s : ℕ} → frame L x ≡ g → s < L.sites x → s < g.sites
        site {s = s} q l = subst (λ (g : Frame). s < g.sites) q l

        pointer : {g : Frame} {p : ℕ} → frame L x ≡ g → p < L.pointers x → p < g.pointers
        pointer {p = p} q l = subst (λ (g : Frame). p < g.pointers) q l

        slot : {g : Frame} {i : ℕ} → frame L x ≡ g → i < L.slots x → i < g.slots
        slot {i = i} q l = subst (λ (g : Frame). i < g.slots) q l

        message : (i : ℕ) → i < L.slots x → L.message x i ≡ M.message y i
        message i l = r.as_messages i (slot r.same l) ∙ sym (t.as_messages i (slot (r.same ∙ f) l))

    module _ (d : D) (e : E) (a : ReadAlike L M d e) where
      -- the first desk reads as the second
      as_other : lent_refusal L d ≡ 0 → Reads L d d (M.counter e) (M.cell e) (M.message e)
      as_other good = record { good = good; same = refl; as_counters = a.counters; as_cells = a.cells; as_messages = a.messages }

      good_too : lent_refusal L d ≡ 0 → lent_refusal M e ≡ 0
      good_too good = sym (lent_alike L M d e a) ∙ good

      site : {s : ℕ} → s < L.sites d → s < M.sites e
      site {s} l = subst (λ (g : Frame). s < g.sites) a.same l

      pointer : {p : ℕ} → p < L.pointers d → p < M.pointers e
      pointer {p} l = subst (λ (g : Frame). p < g.pointers) a.same l

      slot : {i : ℕ} → i < L.slots d → i < M.slots e
      slot {i} l = subst (λ (g : Frame). i < g.slots) a.same l

      clears_alike : L.shaped d ≡ true → L.owned d ≡ true → ReadAlike L M (L.cleared d) (M.cleared e)
      clears_alike shaped owned =
          both_read a.same
          (re_read L (U.clears d shaped owned) (λ s p ls lp. refl) (λ s p ls lp i. 1 when eqb s ((a.same i).owner p)) (λ i l. refl))
          (W.clears e (sym a.shapes ∙ shaped) (sym a.owners ∙ owned))

      posts_alike : (i : ℕ) (m : Posted) → lent_refusal L d ≡ 0 → i < L.slots d → Inside (L.sites d) (L.pointers d) m → ReadAlike L M (L.post d i m) (M.post e i m)
      posts_alike i m good l w =
          both_read a.same (then_post L U (as_other good) i m l w)
          (W.posts e i m (good_too good) (slot l) (subst (λ (g : Frame). Inside g.sites g.pointers m) a.same w))

    -- Desks of two lawful layouts that read alike read alike after the same write.
    pub reading_alike : Alike L M (ReadAlike L M)
    reading_alike = record {
      reads = λ a. a;
      clears = λ {d} {e} a. clears_alike d e a;
      sets_counter = λ {d} {e} a s p n good ls lp.
          both_read a.same (then_counter L U (as_other d e a good) s p n ls lp) (W.sets_counter e s p n (good_too d e a good) (site d e a ls) (pointer d e a lp));
      sets_cell = λ {d} {e} a s p n good ls lp ln.
          both_read a.same (then_cell L U (as_other d e a good) s p n ls lp ln) (W.sets_cell e s p n (good_too d e a good) (site d e a ls) (pointer d e a lp) ln);
      posts = λ {d} {e} a. posts_alike d e a;
      handles = λ {d} {e} a i good l.
          both_read a.same (re_read L (U.handles d i good l) a.counters a.cells a.messages) (W.handles e i (good_too d e a good) (slot d e a l));
    }
