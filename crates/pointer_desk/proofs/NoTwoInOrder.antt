-- No two outcomes meet the promise of an export of the in-order desk: what C is given, and all lent memory as the call leaves it.
use Prim.Native.Nat.{ℕ}
use mathlib.Core.Path.{◌≡◌}
use mathlib.Core.List.{List}
use Rattle.model.specs.Calls.{open_desk, make_copy, receive as receive_of, delete as delete_of, ask as ask_of}
use Rattle.model.specs.Survey.{share as share_of}
use Rattle.in_order.specs.Ordered.{OrderedDesk, lent_in_order, ordered}
use Rattle.pointer_desk.specs.declared.answer.DeskOrderedAnswer.{DeskOrderedAnswer}
use Rattle.pointer_desk.specs.declared.counts.DeskShare.{DeskShare}
use Rattle.pointer_desk.specs.Boundary.{Given, given_in_order, flat_share, Sheet, sheet_given}
use Rattle.model.proofs.OneOutcome.{one_outcome, one_answer}

-- of what a host is given: the answer, and the five parts that a call may write
one_given : {o o' v : Given DeskOrderedAnswer OrderedDesk} → o ≡ v → o' ≡ v
    → (o.answer ≡ o'.answer) × (o.desk.send ≡ o'.desk.send) × (o.desk.receive ≡ o'.desk.receive)
    × (o.desk.pool.bytes ≡ o'.desk.pool.bytes) × (o.desk.pool.to_post ≡ o'.desk.pool.to_post) × (o.desk.pool.to_receive ≡ o'.desk.pool.to_receive)
one_given e f = (
  one_outcome (λ o. o.answer) e f,
  one_outcome (λ o. o.desk.send) e f,
  one_outcome (λ o. o.desk.receive) e f,
  one_outcome (λ o. o.desk.pool.bytes) e f,
  one_outcome (λ o. o.desk.pool.to_post) e f,
  one_outcome (λ o. o.desk.pool.to_receive) e f,
)

module _ (sites : ℕ) (owners send receive pool posts takes : List ℕ) where
  -- what `ordered_calls::desk_ordered_open` promises
  abbrev pub OpeningPromise : DeskOrderedAnswer → List ℕ → List ℕ → List ℕ → List ℕ → List ℕ → Type 0
  OpeningPromise r send' receive' pool' posts' takes' = record { answer = r; desk = lent_in_order sites owners send' receive' pool' posts' takes' } ≡ given_in_order (open_desk ordered (lent_in_order sites owners send receive pool posts takes))

  pub no_two_openings : {r q : DeskOrderedAnswer} {send' send'' receive' receive'' pool' pool'' posts' posts'' takes' takes'' : List ℕ} → OpeningPromise r send' receive' pool' posts' takes' → OpeningPromise q send'' receive'' pool'' posts'' takes'' → (r ≡ q) × (send' ≡ send'') × (receive' ≡ receive'') × (pool' ≡ pool'') × (posts' ≡ posts'') × (takes' ≡ takes'')
  no_two_openings e f = let same = one_given e f in (same.0, same.1, same.2, same.3, same.4, same.5)

  module _ (from to pointer : ℕ) where
    -- what `ordered_calls::desk_ordered_make_copy` promises
    abbrev pub CopyPromise : DeskOrderedAnswer → List ℕ → List ℕ → List ℕ → Type 0
    CopyPromise r send' pool' posts' = record { answer = r; desk = lent_in_order sites owners send' receive pool' posts' takes } ≡ given_in_order (make_copy ordered (lent_in_order sites owners send receive pool posts takes) from to pointer)

    pub no_two_copies : {r q : DeskOrderedAnswer} {send' send'' pool' pool'' posts' posts'' : List ℕ} → CopyPromise r send' pool' posts' → CopyPromise q send'' pool'' posts'' → (r ≡ q) × (send' ≡ send'') × (pool' ≡ pool'') × (posts' ≡ posts'')
    no_two_copies e f = let same = one_given e f in (same.0, same.1, same.3, same.4)

  module _ (slot : ℕ) where
    -- what `ordered_calls::desk_ordered_receive` promises
    abbrev pub ReceivePromise : DeskOrderedAnswer → List ℕ → List ℕ → List ℕ → List ℕ → List ℕ → Type 0
    ReceivePromise r send' receive' pool' posts' takes' = record { answer = r; desk = lent_in_order sites owners send' receive' pool' posts' takes' } ≡ given_in_order (receive_of ordered (lent_in_order sites owners send receive pool posts takes) slot)

    pub no_two_receives : {r q : DeskOrderedAnswer} {send' send'' receive' receive'' pool' pool'' posts' posts'' takes' takes'' : List ℕ} → ReceivePromise r send' receive' pool' posts' takes' → ReceivePromise q send'' receive'' pool'' posts'' takes'' → (r ≡ q) × (send' ≡ send'') × (receive' ≡ receive'') × (pool' ≡ pool'') × (posts' ≡ posts'') × (takes' ≡ takes'')
    no_two_receives e f = let same = one_given e f in (same.0, same.1, same.2, same.3, same.4, same.5)

  module _ (site pointer : ℕ) where
    -- what `ordered_calls::desk_ordered_delete` promises
    abbrev pub DeletePromise : DeskOrderedAnswer → List ℕ → List ℕ → List ℕ → Type 0
    DeletePromise r receive' pool' posts' = record { answer = r; desk = lent_in_order sites owners send receive' pool' posts' takes } ≡ given_in_order (delete_of ordered (lent_in_order sites owners send receive pool posts takes) site pointer)

    pub no_two_deletes : {r q : DeskOrderedAnswer} {receive' receive'' pool' pool'' posts' posts'' : List ℕ} → DeletePromise r receive' pool' posts' → DeletePromise q receive'' pool'' posts'' → (r ≡ q) × (receive' ≡ receive'') × (pool' ≡ pool'') × (posts' ≡ posts'')
    no_two_deletes e f = let same = one_given e f in (same.0, same.2, same.3, same.4)

    -- what `ordered_calls::desk_ordered_ask` promises
    abbrev pub AskPromise : DeskOrderedAnswer → Type 0
    AskPromise r = record { answer = r; desk = lent_in_order sites owners send receive pool posts takes } ≡ given_in_order (ask_of ordered (lent_in_order sites owners send receive pool posts takes) site pointer)

    pub no_two_asks : {r q : DeskOrderedAnswer} → AskPromise r → AskPromise q → r ≡ q
    no_two_asks e f = (one_given e f).0

    -- what `ordered_counts::desk_ordered_share` promises
    abbrev pub SharePromise : DeskShare → Type 0
    SharePromise r = r ≡ flat_share (share_of ordered (lent_in_order sites owners send receive pool posts takes) site pointer)

    pub no_two_shares : {r q : DeskShare} → SharePromise r → SharePromise q → r ≡ q
    no_two_shares e f = one_answer e f

  module _ (pointer : ℕ) (sheet : List ℕ) where
    -- what `ordered_counts::desk_ordered_sheet` promises
    abbrev pub SheetPromise : ℕ → List ℕ → Type 0
    SheetPromise r sheet' = record { number = r; counts = sheet' } ≡ sheet_given ordered (lent_in_order sites owners send receive pool posts takes) pointer sheet

    pub no_two_sheets : {r q : ℕ} {sheet' sheet'' : List ℕ} → SheetPromise r sheet' → SheetPromise q sheet'' → (r ≡ q) × (sheet' ≡ sheet'')
    no_two_sheets e f = (one_outcome (λ (o : Sheet). o.number) e f, one_outcome (λ (o : Sheet). o.counts) e f)
