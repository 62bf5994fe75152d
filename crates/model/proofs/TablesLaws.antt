-- 1 and 2 of a desk, part by part: of its tables, then of its slots; whatever the receive table and the pool.
use Prim.Native.Nat.{ℕ, ◌≤◌}
use mathlib.Core.Path.{◌≡◌, refl, sym, ◌∙◌}
use mathlib.Core.Bool.{Bool, true, false, ◌&&◌, not}
use lib.ListN.{length}
use borrow.Author.Tests.{not-false}
use Rattle.model.specs.Refusals.{BadShape, BadTable, ◌when◌, ◌or_else◌}
use Rattle.model.specs.Calls.{lent_refusal}
use Rattle.model.specs.InWords.{Sized}
use Rattle.model.specs.Tables.{Lent, all_below}
use Rattle.model.specs.Parts.{ReceiveTable, Pool, desk_of}
use Rattle.model.proofs.TestLaws.{when_not, or_else_none, number_first}
use Rattle.model.proofs.ShapeLaws.{sized}
use Rattle.model.proofs.PartLaws.{fitting}

module _ {R Q : Type 0} (T : ReceiveTable R) (P : Pool Q) where
  -- 1, 2 of all that is lent but the slots
  abbrev pub tables_refusal : Lent R Q → ℕ
  tables_refusal d = BadShape when not ((desk_of T P).shaped d) or_else BadTable when not (all_below d.S d.owners && T.bits d.S d.receive)

  module _ (d : Lent R Q) where
    abbrev slots_good : Bool
    slots_good = P.slots_good d.S (length d.owners) d.pool

    pub slots_last : lent_refusal (desk_of T P) d ≡ tables_refusal d or_else BadTable when not slots_good
    unfolding lent_refusal
    slots_last = go ((desk_of T P).shaped d) (all_below d.S d.owners && T.bits d.S d.receive) slots_good
      where
        go : (a b c : Bool) → BadShape when not a or_else BadTable when not (b && c) ≡ (BadShape when not a or_else BadTable when not b) or_else BadTable when not c
        go true true c = refl
        go true false c = refl
        go false b c = refl

    -- a good shape has good sizes
    pub shape_sizes : (desk_of T P).shaped d ≡ true → Sized d.S (length d.owners)
    shape_sizes e = sized d.S (length d.owners) (fitting T P d e).sizes

    module _ {n : ℕ} (e : n ≡ tables_refusal d) where
      -- a number that the tables give is the desk's
      pub tables_refused : (n ≡ 0 → ⊥) → n ≡ lent_refusal (desk_of T P) d
      tables_refused given = number_first n (tables_refusal d) (BadTable when not slots_good) given e ∙ sym slots_last

      -- where they give none the slots decide
      pub slots_decide : n ≡ 0 → {good : Bool} → good ≡ slots_good → lent_refusal (desk_of T P) d ≡ BadTable when not good
      slots_decide z {good} q = slots_last ∙ rw (sym e ∙ z, q)

      -- and the sizes are those of a desk
      pub few_of_each : n ≡ 0 → (d.S ≤ 64) × (length d.owners ≤ 256)
      few_of_each z =
          let shape = when_not 0 (not ((desk_of T P).shaped d)) (or_else_none (BadShape when not ((desk_of T P).shaped d)) _ (sym e ∙ z)).0 in
          let h = shape_sizes (not-false ((desk_of T P).shaped d) shape) in
          (h.few_sites, h.few_pointers)
