-- No two outcomes meet the promise of the opening or of a call, over every receive table: one answer, and one state of all that it may write.
use Rattle.std.specs.Prelude.{ℕ, ◌≡◌, List, Result}
use mathlib.Core.Path.{ap}
use Rattle.model.specs.Answers.{Outcome}
use Rattle.model.specs.Calls.{open_desk as open_of, make_copy as make_copy_of, receive as receive_of, delete as delete_of}
use Rattle.model.specs.Flat.{held_slots}
use Rattle.model.specs.Parts.{ReceiveTable, desk_of}
use Rattle.model.specs.Tables.{Lent, lent}
use Rattle.rules.specs.declared.answer.Accepted.{Accepted}
use Rattle.rules.specs.declared.refusal.Refusal.{Refusal}
use Rattle.rules.specs.Turned.{told}
use Rattle.rules.proofs.OneAnswer.{one_call}

-- where a desk is lent: the result, and the three parts that a call may write
pub each_part : {R : Type 0} {r q : Result Accepted Refusal} {d e : Lent R (List ℕ)} {v : Outcome (Lent R (List ℕ))}
    → record { answer = told r; desk = d } ≡ v → record { answer = told q; desk = e } ≡ v → (r ≡ q) × (d.send ≡ e.send) × (d.receive ≡ e.receive) × (d.pool ≡ e.pool)
each_part {R} e f =
    let same = one_call e f in
    let desk = same.1 in
    (same.0, ap (λ (d : Lent R (List ℕ)). d.send) desk, ap (λ (d : Lent R (List ℕ)). d.receive) desk, ap (λ (d : Lent R (List ℕ)). d.pool) desk)

module _ {R : Type 0} (table : ReceiveTable R) (s : ℕ) (owners send : List ℕ) (receive : R) (pool : List ℕ) where
  -- what `opening::open_desk` promises
  abbrev pub OpeningPromise : Result Accepted Refusal → List ℕ → R → List ℕ → Type 0
  OpeningPromise r send' receive' pool' = record { answer = told r; desk = lent s owners send' receive' pool' }
      ≡ open_of (desk_of table held_slots) (lent s owners send receive pool)

  pub no_two_openings : {r q : Result Accepted Refusal} {send' send'' : List ℕ} {receive' receive'' : R} {pool' pool'' : List ℕ}
      → OpeningPromise r send' receive' pool' → OpeningPromise q send'' receive'' pool'' → (r ≡ q) × (send' ≡ send'') × (receive' ≡ receive'') × (pool' ≡ pool'')
  no_two_openings e f = each_part e f

  module _ (from to pointer : ℕ) where
    -- what `copy::make_copy` promises
    abbrev pub CopyPromise : Result Accepted Refusal → List ℕ → List ℕ → Type 0
    CopyPromise r send' pool' = record { answer = told r; desk = lent s owners send' receive pool' }
        ≡ make_copy_of (desk_of table held_slots) (lent s owners send receive pool) from to pointer

    pub no_two_copies : {r q : Result Accepted Refusal} {send' send'' pool' pool'' : List ℕ}
        → CopyPromise r send' pool' → CopyPromise q send'' pool'' → (r ≡ q) × (send' ≡ send'') × (pool' ≡ pool'')
    no_two_copies e f = let same = each_part e f in (same.0, same.1, same.3)

  module _ (slot : ℕ) where
    -- what `receive::receive` promises
    abbrev pub ReceivePromise : Result Accepted Refusal → List ℕ → R → List ℕ → Type 0
    ReceivePromise r send' receive' pool' = record { answer = told r; desk = lent s owners send' receive' pool' }
        ≡ receive_of (desk_of table held_slots) (lent s owners send receive pool) slot

    pub no_two_receives : {r q : Result Accepted Refusal} {send' send'' : List ℕ} {receive' receive'' : R} {pool' pool'' : List ℕ}
        → ReceivePromise r send' receive' pool' → ReceivePromise q send'' receive'' pool'' → (r ≡ q) × (send' ≡ send'') × (receive' ≡ receive'') × (pool' ≡ pool'')
    no_two_receives e f = each_part e f

  module _ (site pointer : ℕ) where
    -- what `delete::delete` promises
    abbrev pub DeletePromise : Result Accepted Refusal → R → List ℕ → Type 0
    DeletePromise r receive' pool' = record { answer = told r; desk = lent s owners send receive' pool' }
        ≡ delete_of (desk_of table held_slots) (lent s owners send receive pool) site pointer

    pub no_two_deletes : {r q : Result Accepted Refusal} {receive' receive'' : R} {pool' pool'' : List ℕ}
        → DeletePromise r receive' pool' → DeletePromise q receive'' pool'' → (r ≡ q) × (receive' ≡ receive'') × (pool' ≡ pool'')
    no_two_deletes e f = let same = each_part e f in (same.0, same.2, same.3)
