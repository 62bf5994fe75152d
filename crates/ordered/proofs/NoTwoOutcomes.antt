-- No two outcomes meet the promise of the opening or of a call: one answer, and one state of all that it may write.
use Rattle.std.specs.Prelude.{ℕ, ◌≡◌, List, Result}
use mathlib.Core.Path.{ap}
use Rattle.model.specs.Answers.{Outcome}
use Rattle.model.specs.Calls.{open_desk as open_of, make_copy as make_copy_of, receive as receive_of, delete as delete_of}
use Rattle.in_order.specs.Ordered.{OrderedDesk, lent_in_order, ordered}
use Rattle.rules.specs.declared.answer.Accepted.{Accepted}
use Rattle.rules.specs.declared.refusal.Refusal.{Refusal}
use Rattle.rules.specs.Turned.{told}
use Rattle.rules.proofs.OneAnswer.{one_call}

-- where an in-order desk is lent: the result, and the five parts that a call may write
pub each_part : {r q : Result Accepted Refusal} {d e : OrderedDesk} {v : Outcome OrderedDesk} → record { answer = told r; desk = d } ≡ v → record { answer = told q; desk = e } ≡ v
    → (r ≡ q) × (d.send ≡ e.send) × (d.receive ≡ e.receive) × (d.pool.bytes ≡ e.pool.bytes) × (d.pool.to_post ≡ e.pool.to_post) × (d.pool.to_receive ≡ e.pool.to_receive)
each_part e f =
    let same = one_call e f in
    let desk = same.1 in (
      same.0,
      ap (λ (d : OrderedDesk). d.send) desk,
      ap (λ (d : OrderedDesk). d.receive) desk,
      ap (λ (d : OrderedDesk). d.pool.bytes) desk,
      ap (λ (d : OrderedDesk). d.pool.to_post) desk,
      ap (λ (d : OrderedDesk). d.pool.to_receive) desk,
    )

module _ (s : ℕ) (owners send receive pool posts takes : List ℕ) where
  -- what `opening::open_desk` promises
  abbrev pub OpeningPromise : Result Accepted Refusal → List ℕ → List ℕ → List ℕ → List ℕ → List ℕ → Type 0
  OpeningPromise r send' receive' pool' posts' takes' = record { answer = told r; desk = lent_in_order s owners send' receive' pool' posts' takes' }
      ≡ open_of ordered (lent_in_order s owners send receive pool posts takes)

  pub no_two_openings : {r q : Result Accepted Refusal} {send' send'' receive' receive'' pool' pool'' posts' posts'' takes' takes'' : List ℕ}
      → OpeningPromise r send' receive' pool' posts' takes' → OpeningPromise q send'' receive'' pool'' posts'' takes''
      → (r ≡ q) × (send' ≡ send'') × (receive' ≡ receive'') × (pool' ≡ pool'') × (posts' ≡ posts'') × (takes' ≡ takes'')
  no_two_openings e f = each_part e f

  module _ (from to pointer : ℕ) where
    -- what `copy::make_copy` promises
    abbrev pub CopyPromise : Result Accepted Refusal → List ℕ → List ℕ → List ℕ → Type 0
    CopyPromise r send' pool' posts' = record { answer = told r; desk = lent_in_order s owners send' receive pool' posts' takes }
        ≡ make_copy_of ordered (lent_in_order s owners send receive pool posts takes) from to pointer

    pub no_two_copies : {r q : Result Accepted Refusal} {send' send'' pool' pool'' posts' posts'' : List ℕ}
        → CopyPromise r send' pool' posts' → CopyPromise q send'' pool'' posts'' → (r ≡ q) × (send' ≡ send'') × (pool' ≡ pool'') × (posts' ≡ posts'')
    no_two_copies e f = let same = each_part e f in (same.0, same.1, same.3, same.4)

  module _ (slot : ℕ) where
    -- what `receive::receive` promises
    abbrev pub ReceivePromise : Result Accepted Refusal → List ℕ → List ℕ → List ℕ → List ℕ → List ℕ → Type 0
    ReceivePromise r send' receive' pool' posts' takes' = record { answer = told r; desk = lent_in_order s owners send' receive' pool' posts' takes' }
        ≡ receive_of ordered (lent_in_order s owners send receive pool posts takes) slot

    pub no_two_receives : {r q : Result Accepted Refusal} {send' send'' receive' receive'' pool' pool'' posts' posts'' takes' takes'' : List ℕ}
        → ReceivePromise r send' receive' pool' posts' takes' → ReceivePromise q send'' receive'' pool'' posts'' takes''
        → (r ≡ q) × (send' ≡ send'') × (receive' ≡ receive'') × (pool' ≡ pool'') × (posts' ≡ posts'') × (takes' ≡ takes'')
    no_two_receives e f = each_part e f

  module _ (site pointer : ℕ) where
    -- what `delete::delete` promises
    abbrev pub DeletePromise : Result Accepted Refusal → List ℕ → List ℕ → List ℕ → Type 0
    DeletePromise r receive' pool' posts' = record { answer = told r; desk = lent_in_order s owners send receive' pool' posts' takes }
        ≡ delete_of ordered (lent_in_order s owners send receive pool posts takes) site pointer

    pub no_two_deletes : {r q : Result Accepted Refusal} {receive' receive'' pool' pool'' posts' posts'' : List ℕ}
        → DeletePromise r receive' pool' posts' → DeletePromise q receive'' pool'' posts'' → (r ≡ q) × (receive' ≡ receive'') × (pool' ≡ pool'') × (posts' ≡ posts'')
    no_two_deletes e f = let same = each_part e f in (same.0, same.2, same.3, same.4)
