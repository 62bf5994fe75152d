-- What an accepted call says of the lent memory: no reason of its table holds.
use Prim.Native.Nat.{ℕ, suc, ◌≤◌, ◌<◌}
use mathlib.Core.Path.{◌≡◌, refl, sym, ◌∙◌}
use mathlib.Core.Logic.{◌≢◌, ◌⊎◌, inl, inr}
use mathlib.Core.Bool.{Bool, true, false}
use mathlib.Core.List.{List, ◌∷◌}
use native.Mathlib.Decide.{ℕ_discrete, dec_lt}
use native.Mathlib.Omega.{arith}
use lib.Dec.{ltb}
use borrow.Author.Tests.{le-leb, ltb-true}
use Rattle.model.specs.declared.Posted.{Posted}
use Rattle.model.specs.declared.Posted.TheVariants.{Copy, Dec as Decr, IncDec, Nothing}
use Rattle.model.specs.Refusals.{◌when◌}
use Rattle.model.specs.Messages.{is_nothing, receive_refusal}
use Rattle.model.specs.Layout.{Layout}
use Rattle.model.specs.Calls.{lent_refusal, front, lowest_empty, copy_number, receive_number, delete_number, ask_number, counter_there}
use Rattle.model.specs.Laws.{Laws}
use Rattle.model.specs.Demands.{Row, ◌because◌, FirstOf, NoSlotEmpty, LowestEmpty, lent_rows, copy_rows, delete_rows, ask_rows}
use Rattle.model.proofs.TestLaws.{true_not_false, when_not, or_else_none}
use Rattle.model.proofs.FrontLaws.{front_passed}
use Rattle.model.proofs.QuestionLaws.{lowest_has, lowest_below}
use Rattle.model.proofs.RowLaws.{none_lowest}
use Rattle.model.proofs.Exactly.{copy_exactly, delete_exactly, ask_exactly}

-- a table that gives 0: its first reason does not hold, and the rest gives 0
first_fails : (k : ℕ) (reason : Type 0) (rows : List Row) → FirstOf (suc k because reason ∷ rows) 0 → (reason → ⊥) × FirstOf rows 0
unfolding FirstOf
first_fails k reason rows (inl h) = absurd (omega (arith, h.1))
first_fails k reason rows (inr h) = (h.0, h.1)

below : {a n : ℕ} → (n ≤ a → ⊥) → a < n
below {a} {n} h = go (dec_lt a n)
  where
    go : Dec (a < n) → a < n
    go (yes l) = l
    go (no l) = absurd (h (omega arith))

-- a slot that is empty holds no message
nothing_there : (m : Posted) → is_nothing m ≡ true → m ≡ Nothing
nothing_there (Copy a b p) e = true_not_false (sym e)
nothing_there (Decr a b p) e = true_not_false (sym e)
nothing_there (IncDec a b c p) e = true_not_false (sym e)
nothing_there Nothing e = refl

module _ {D : Type 0} (L : Layout D) (W : Laws L) where
  open L use {sites, pointers, owner, counter, cell, slots, empty, message, shaped, sound, early}

  -- there is a lowest empty slot, and it holds no message
  pub record Room (d : D) : Type 0 where
    pub in_pool : lowest_empty L d < slots d
    pub is_lowest : LowestEmpty L d (lowest_empty L d)
    pub unused : message d (lowest_empty L d) ≡ Nothing

  room : (d : D) → lent_refusal L d ≡ 0 → (NoSlotEmpty L d → ⊥) → Room d
  room d good some-empty = go (dec_lt (lowest_empty L d) (slots d))
    where
      go : Dec (lowest_empty L d < slots d) → Room d
      go (yes l) =
          let there = lowest_has (empty d) 0 (slots d) (omega arith) in
          record {
            in_pool = l;
            is_lowest = record { in_pool = l; empty_there = there; none_below = λ lower ll. lowest_below (empty d) 0 (slots d) lower (omega arith) ll };
            unused = nothing_there _ (sym (W.empties d good (lowest_empty L d) l) ∙ there);
          }
      go (no l) = absurd (some-empty (none_lowest (empty d) (slots d) (le-leb (slots d) (lowest_empty L d) (omega arith))))

  -- 1 and 2 do not hold
  lent_good : (d : D) (rows : List Row) → FirstOf (lent_rows L d rows) 0 → (lent_refusal L d ≡ 0) × FirstOf rows 0
  unfolding lent_refusal
  lent_good d rows f =
      let one = first_fails 0 (shaped d ≡ false) _ f in
      let two = first_fails 1 (sound d ≡ false) _ one.1 in
      (rw (not_so (shaped d) one.0, not_so (sound d) two.0), two.1)
    where
      not_so : (b : Bool) → (b ≡ false → ⊥) → b ≡ true
      not_so true h = refl
      not_so false h = absurd (h refl)

  -- ---- make copy
  pub record Copied (d : D) (from to p : ℕ) : Type 0 where
    pub good : lent_refusal L d ≡ 0
    pub from_site : from < sites d
    pub to_site : to < sites d
    pub a_pointer : p < pointers d
    pub apart : from ≢ to
    pub access : (from ≡ owner d p) ⊎ (cell d from p ≡ 1)
    pub room : Room d

  pub copy_accepted : (d : D) (from to p : ℕ) → copy_number L d from to p ≡ 0 → Copied d from to p
  copy_accepted d from to p e =
      let f0 : FirstOf (lent_rows L d (copy_rows L d from to p)) 0 = rw e at (copy_exactly L d from to p) in
      let f1 = lent_good d (copy_rows L d from to p) f0 in
      let f3 = first_fails 2 ((sites d ≤ from) ⊎ ((sites d ≤ to) ⊎ (pointers d ≤ p))) _ f1.1 in
      let f4 = first_fails 3 (from ≡ to) _ f3.1 in
      let f5 = first_fails 4 ((from ≢ owner d p) × (cell d from p ≡ 0)) _ f4.1 in
      let f6 = first_fails 5 (counter d from p ≡ 65535) _ f5.1 in
      let f7 = first_fails 6 (NoSlotEmpty L d) _ f6.1 in
      let from_site : from < sites d = below (λ l. f3.0 (inl l)) in
      let a_pointer : p < pointers d = below (λ l. f3.0 (inr (inr l))) in
      record {
        good = f1.0;
        from_site = from_site;
        to_site = below (λ l. f3.0 (inr (inl l)));
        a_pointer = a_pointer;
        apart = f4.0;
        access = reach (W.cell_bit d f1.0 from p from_site a_pointer) f5.0 (ℕ_discrete from (owner d p));
        room = room d f1.0 f7.0;
      }
    where
      reach : cell d from p ≤ 1 → ((from ≢ owner d p) × (cell d from p ≡ 0) → ⊥) → Dec (from ≡ owner d p) → (from ≡ owner d p) ⊎ (cell d from p ≡ 1)
      reach bit h (yes q) = inl q
      reach bit h (no apart) = inr (go (ℕ_discrete (cell d from p) 0))
        where
          go : Dec (cell d from p ≡ 0) → cell d from p ≡ 1
          go (yes z) = absurd (h (apart, z))
          go (no z) = omega arith

  -- ---- delete
  pub record Deleted (d : D) (site p : ℕ) : Type 0 where
    pub good : lent_refusal L d ≡ 0
    pub a_site : site < sites d
    pub a_pointer : p < pointers d
    pub other : site ≢ owner d p
    pub held : cell d site p ≡ 1
    pub uncounted : counter d site p ≡ 0
    pub room : Room d

  pub delete_accepted : (d : D) (site p : ℕ) → delete_number L d site p ≡ 0 → Deleted d site p
  delete_accepted d site p e =
      let f0 : FirstOf (lent_rows L d (delete_rows L d site p)) 0 = rw e at (delete_exactly L d site p) in
      let f1 = lent_good d (delete_rows L d site p) f0 in
      let f3 = first_fails 2 ((sites d ≤ site) ⊎ (pointers d ≤ p)) _ f1.1 in
      let f11 = first_fails 10 (site ≡ owner d p) _ f3.1 in
      let f5 = first_fails 4 (cell d site p ≡ 0) _ f11.1 in
      let f12 = first_fails 11 (counter d site p ≢ 0) _ f5.1 in
      let f7 = first_fails 6 (NoSlotEmpty L d) _ f12.1 in
      let a_site : site < sites d = below (λ l. f3.0 (inl l)) in
      let a_pointer : p < pointers d = below (λ l. f3.0 (inr l)) in
      record {
        good = f1.0;
        a_site = a_site;
        a_pointer = a_pointer;
        other = f11.0;
        held = one (W.cell_bit d f1.0 site p a_site a_pointer) f5.0;
        uncounted = none f12.0;
        room = room d f1.0 f7.0;
      }
    where
      one : cell d site p ≤ 1 → cell d site p ≢ 0 → cell d site p ≡ 1
      one bit h = omega arith

      none : (counter d site p ≢ 0 → ⊥) → counter d site p ≡ 0
      none h = go (ℕ_discrete (counter d site p) 0)
        where
          go : Dec (counter d site p ≡ 0) → counter d site p ≡ 0
          go (yes z) = z
          go (no z) = absurd (h z)

  -- ---- receive
  pub record Received (d : D) (slot : ℕ) : Type 0 where
    pub good : lent_refusal L d ≡ 0
    pub in_pool : slot < slots d
    pub used : is_nothing (message d slot) ≡ false
    pub in_time : early d slot ≡ 0
    pub own : receive_refusal (message d slot) (counter_there L d slot) ≡ 0

  pub receive_accepted : (d : D) (slot : ℕ) → receive_number L d slot ≡ 0 → Received d slot
  unfolding receive_number
  receive_accepted d slot e =
      let a = or_else_none (front L d (ltb slot (slots d))) _ e in
      let b = front_passed L d (ltb slot (slots d)) a.0 in
      let c = or_else_none (8 when empty d slot) _ a.1 in
      let f = or_else_none (early d slot) (receive_refusal (message d slot) (counter_there L d slot)) c.1 in
      let in_pool : slot < slots d = ltb-true _ _ b.1 in
      record {
        good = b.0;
        in_pool = in_pool;
        used = sym (W.empties d b.0 slot in_pool) ∙ when_not 7 _ c.0;
        in_time = f.0;
        own = f.1;
      }

  -- ---- ask
  pub record Asked (d : D) (site p : ℕ) : Type 0 where
    pub a_pointer : p < pointers d
    pub at_owner : site ≡ owner d p

  pub ask_accepted : (d : D) (site p : ℕ) → ask_number L d site p ≡ 0 → Asked d site p
  ask_accepted d site p e =
      let f0 : FirstOf (lent_rows L d (ask_rows L d site p)) 0 = rw e at (ask_exactly L d site p) in
      let f1 = lent_good d (ask_rows L d site p) f0 in
      let f3 = first_fails 2 ((sites d ≤ site) ⊎ (pointers d ≤ p)) _ f1.1 in
      let f13 = first_fails 12 (site ≢ owner d p) _ f3.1 in
      record { a_pointer = below (λ l. f3.0 (inr l)); at_owner = same (ℕ_discrete site (owner d p)) f13.0 }
    where
      same : Dec (site ≡ owner d p) → (site ≢ owner d p → ⊥) → site ≡ owner d p
      same (yes q) h = q
      same (no apart) h = absurd (h apart)
