-- What lent memory means: a configuration of the published machine, over any layout.
use Rattle.std.specs.Prelude.{ℕ, ◌&&◌, cond, ltb, eqb}
use Rattle.moreau.specs.StateSpace.{Msg, COPY, DEC, INC_DEC, BagOf, ∅, ⟅◌⟆, Config}
use Rattle.model.specs.declared.Posted.{Posted}
use Rattle.model.specs.declared.Posted.TheVariants.{Copy, Dec, IncDec, Nothing}
use Rattle.model.specs.Questions.{total}
use Rattle.model.specs.Layout.{Layout}

-- the bag of one slot: its message, or nothing
unfoldable pub meant : Posted → BagOf Msg
meant (Copy from to p) = ⟅ COPY from to p ⟆
meant (Dec from to p) = ⟅ DEC from to p ⟆
meant (IncDec from to third p) = ⟅ INC_DEC from to p third ⟆
meant Nothing = ∅

-- a table of S sites and G pointers; outside it stands what the initial configuration has there
unfoldable pub within : {A : Type 0} → ℕ → ℕ → (ℕ → ℕ → A) → (ℕ → ℕ → A) → ℕ → ℕ → A
within S G table outside s p = cond (ltb s S && ltb p G) (table s p) (outside s p)

-- counters, receive cells and n slots as a configuration
unfoldable pub config_of : ℕ → ℕ → (ℕ → ℕ) → ℕ → (ℕ → ℕ → ℕ) → (ℕ → ℕ → ℕ) → (ℕ → Posted) → Config
config_of S G owner n counters cells messages =
    record {
      sites = S;
      pointers = G;
      owner = owner;
      send = within S G counters (λ s p. 0);
      rec = within S G (λ s p. eqb (cells s p) 1) (λ s p. eqb (owner p) s);
      pool = λ m. total n (λ slot. meant (messages slot) m);
    }

abbrev pub meaning : {D : Type 0} → Layout D → D → Config
meaning L d = config_of (L.sites d) (L.pointers d) (L.owner d) (L.slots d) (L.counter d) (L.cell d) (L.message d)
