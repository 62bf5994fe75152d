-- An accepted make copy is MAKE_COPY of the published machine, and an accepted delete is DELETE.
use Prim.Native.Nat.{ℕ, ◌+◌, ◌<◌}
use mathlib.Core.Path.{◌≡◌, refl, sym, ap, ◌∙◌}
use mathlib.Core.Logic.{◌≢◌, ◌⊎◌, inl, inr}
use mathlib.Core.Bool.{true, false}
use borrow.Author.Tests.{eq-eqb}
use Rattle.moreau.specs.StateSpace.{COPY, DEC}
use Rattle.moreau.specs.Transformers.{send_T◌≔◌, rec_T◌≔◌, post, DELETE}
use Rattle.model.specs.declared.Posted.{Posted}
use Rattle.model.specs.declared.Posted.TheVariants.{Copy, Dec as Decr}
use Rattle.model.specs.Layout.{Layout}
use Rattle.model.specs.Calls.{lowest_empty, copy_number, copied, delete_number, deleted}
use Rattle.model.specs.Laws.{Laws}
use Rattle.model.specs.Meaning.{config_of, meaning}
use Rattle.model.specs.Demands.{MakesCopy, Deletes}
use Rattle.model.proofs.MeaningLaws.{posted, taken, counter_and_slot_mean, cell_and_slot_mean}
use Rattle.model.proofs.KeptLaws.{Kept, kept_by, sent, holds}
use Rattle.model.proofs.Accepted.{copy_accepted, delete_accepted}
use Rattle.model.proofs.ReadsLaws.{copied_reads, deleted_reads}

module _ {D : Type 0} (L : Layout D) (W : Laws L) where
  open L use {sites, pointers, owner, counter, cell, set_counter, set_cell}

  -- ---- make copy
  pub copy_is_MAKE_COPY : (d : D) (from to p : ℕ) → copy_number L d from to p ≡ 0 → MakesCopy L d (copied L d from to p).desk from to p × Kept L d (copied L d from to p).desk
  unfolding config_of
  copy_is_MAKE_COPY d from to p e =
      let c = copy_accepted L W d from to p e in
      let m : Posted = Copy from to p in
      let n = counter d from p + 1 in
      let r = copied_reads L W d from to p c in (
        record {
          in_range = (c.from_site, c.to_site, c.a_pointer);
          may = record { apart = c.apart; access = access c.from_site c.a_pointer c.access };
          after =
              counter_and_slot_mean L d (copied L d from to p).desk from p c.from_site c.a_pointer (lowest_empty L d) c.room.in_pool m n r
              ∙ ap (λ (x : Posted). posted m (taken x ((send_T (from, p) ≔ n) (meaning L d)))) c.room.unused
              ∙ ap (λ (v : ℕ). post (COPY from to p) ((send_T (from, p) ≔ v + 1) (meaning L d))) (sym (sent L d from p c.from_site c.a_pointer));
        },
        kept_by L r,
      )
    where
      access : from < sites d → p < pointers d → (from ≡ owner d p) ⊎ (cell d from p ≡ 1) → (from ≡ (meaning L d).owner p) ⊎ ((meaning L d).rec from p ≡ true)
      access ls lp (inl q) = inl q
      access ls lp (inr q) = inr (holds L d from p ls lp ∙ eq-eqb _ _ q)

  -- ---- delete
  pub delete_is_DELETE : (d : D) (site p : ℕ) → delete_number L d site p ≡ 0 → Deletes L d (deleted L d site p).desk site p × Kept L d (deleted L d site p).desk
  unfolding config_of
  delete_is_DELETE d site p e =
      let c = delete_accepted L W d site p e in
      let m : Posted = Decr site (owner d p) p in
      let r = deleted_reads L W d site p c in (
        record {
          in_range = (c.a_site, c.a_pointer);
          may = record {
            unsent = sent L d site p c.a_site c.a_pointer ∙ c.uncounted;
            held = holds L d site p c.a_site c.a_pointer ∙ eq-eqb _ _ c.held;
            other = other c.other;
          };
          after =
              cell_and_slot_mean L d (deleted L d site p).desk site p c.a_site c.a_pointer (lowest_empty L d) c.room.in_pool m 0 r
              ∙ ap (λ (x : Posted). posted m (taken x ((rec_T (site, p) ≔ false) (meaning L d)))) c.room.unused
              ∙ same_owner;
        },
        kept_by L r,
      )
    where
      other : site ≢ owner d p → (meaning L d).owner p ≢ site
      other apart q = apart (sym q)

      same_owner : post (DEC site (owner d p) p) ((rec_T (site, p) ≔ false) (meaning L d)) ≡ DELETE site p (meaning L d)
      same_owner = refl
