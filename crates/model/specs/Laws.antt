-- What a layout must keep: a written part reads back, and every other part reads as before.
use Rattle.std.specs.Prelude.{ℕ, ◌≤◌, ◌<◌, ◌≡◌, true, cond, eqb}
use Rattle.moreau.specs.Transformers.{assign}
use Rattle.model.specs.declared.Posted.{Posted}
use Rattle.model.specs.declared.Posted.TheVariants.{Copy, Dec, IncDec, Nothing}
use Rattle.model.specs.Refusals.{◌when◌}
use Rattle.model.specs.Messages.{is_nothing}
use Rattle.model.specs.Layout.{Layout}
use Rattle.model.specs.Calls.{lent_refusal}

-- what no call and no opening changes
pub record Frame : Type 0 where
  pub sites : ℕ
  pub pointers : ℕ
  pub slots : ℕ
  pub owner : ℕ → ℕ

-- a pool with m in slot i
unfoldable pub with_slot : (ℕ → Posted) → ℕ → Posted → ℕ → Posted
with_slot pool i m j = cond (eqb j i) m (pool j)

-- sites are below S, pointers below G
abbrev pub Inside : ℕ → ℕ → Posted → Type 0
Inside S G (Copy from to p) = (from < S) × (to < S) × (p < G)
Inside S G (Dec from to p) = (from < S) × (to < S) × (p < G)
Inside S G (IncDec from to third p) = (from < S) × (to < S) × (third < S) × (p < G)
Inside S G Nothing = Unit {0}

module _ {D : Type 0} (L : Layout D) where
  open L use {sites, pointers, owner, counter, cell, slots, empty, message, shaped, owned, cleared, set_counter, set_cell, post, handled}

  abbrev pub frame : D → Frame
  frame d = record { sites = sites d; pointers = pointers d; slots = slots d; owner = owner d }

  -- e passes 1 and 2, has d's frame, and reads as these counters, cells and messages
  pub record Reads (d e : D) (counters cells : ℕ → ℕ → ℕ) (messages : ℕ → Posted) : Type 0 where
    pub good : lent_refusal L e ≡ 0
    pub same : frame e ≡ frame d
    pub as_counters : (s p : ℕ) → s < sites d → p < pointers d → counter e s p ≡ counters s p
    pub as_cells : (s p : ℕ) → s < sites d → p < pointers d → cell e s p ≡ cells s p
    pub as_messages : (i : ℕ) → i < slots d → message e i ≡ messages i

  pub record Laws : Type 0 where
    -- what lent memory that passes 1 and 2 holds
    pub some_site : (d : D) → lent_refusal L d ≡ 0 → (1 ≤ sites d) × (sites d ≤ 64)
    pub few_slots : (d : D) → lent_refusal L d ≡ 0 → slots d ≤ 1024
    pub owner_inside : (d : D) → lent_refusal L d ≡ 0 → (p : ℕ) → p < pointers d → owner d p < sites d
    pub cell_bit : (d : D) → lent_refusal L d ≡ 0 → (s p : ℕ) → s < sites d → p < pointers d → cell d s p ≤ 1
    pub inside : (d : D) → lent_refusal L d ≡ 0 → (i : ℕ) → i < slots d → Inside (sites d) (pointers d) (message d i)
    pub empties : (d : D) → lent_refusal L d ≡ 0 → (i : ℕ) → i < slots d → empty d i ≡ is_nothing (message d i)
    -- the five writes
    pub clears : (d : D) → shaped d ≡ true → owned d ≡ true
        → Reads d (cleared d) (λ s p. 0) (λ s p. 1 when eqb s (owner d p)) (λ i. Nothing)
    pub sets_counter : (d : D) (s p n : ℕ) → lent_refusal L d ≡ 0 → s < sites d → p < pointers d
        → Reads d (set_counter d s p n) (assign (counter d) s p n) (cell d) (message d)
    pub sets_cell : (d : D) (s p n : ℕ) → lent_refusal L d ≡ 0 → s < sites d → p < pointers d → n ≤ 1
        → Reads d (set_cell d s p n) (counter d) (assign (cell d) s p n) (message d)
    pub posts : (d : D) (i : ℕ) (m : Posted) → lent_refusal L d ≡ 0 → i < slots d → Inside (sites d) (pointers d) m
        → Reads d (post d i m) (counter d) (cell d) (with_slot (message d) i m)
    pub handles : (d : D) (i : ℕ) → lent_refusal L d ≡ 0 → i < slots d
        → Reads d (handled d i) (counter d) (cell d) (message d)
