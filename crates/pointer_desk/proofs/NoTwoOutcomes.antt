-- No two outcomes meet the promise of an export: what C is given, and all lent memory as the call leaves it.
use Prim.Native.Nat.{ℕ}
use mathlib.Core.Path.{◌≡◌}
use mathlib.Core.List.{List}
use Rattle.model.specs.Calls.{open_desk, make_copy, receive as receive_of, delete as delete_of, ask as ask_of}
use Rattle.model.specs.Survey.{share as share_of}
use Rattle.model.specs.Tables.{Desk, lent}
use Rattle.model.specs.Flat.{flat}
use Rattle.book.specs.Book.{check_answer, search_answer}
use Rattle.runner.specs.Run.{Written, run as run_of}
use Rattle.pointer_desk.specs.declared.answer.DeskAnswer.{DeskAnswer}
use Rattle.pointer_desk.specs.declared.counts.DeskShare.{DeskShare}
use Rattle.pointer_desk.specs.declared.addresses.DeskPart.{DeskPart}
use Rattle.pointer_desk.specs.declared.line.DeskLine.{DeskLine}
use Rattle.pointer_desk.specs.Boundary.{Given, given, flat_answer, flat_share, Sheet, sheet_given, part_given, line_written, line_given}
use Rattle.model.proofs.OneOutcome.{one_outcome, one_answer}

-- of what a host is given on a desk: the answer, and the three parts that a call may write
one_given_desk : {o o' v : Given DeskAnswer Desk} → o ≡ v → o' ≡ v
    → (o.answer ≡ o'.answer) × (o.desk.send ≡ o'.desk.send) × (o.desk.receive ≡ o'.desk.receive) × (o.desk.pool ≡ o'.desk.pool)
one_given_desk e f =
    (one_outcome (λ o. o.answer) e f, one_outcome (λ o. o.desk.send) e f, one_outcome (λ o. o.desk.receive) e f, one_outcome (λ o. o.desk.pool) e f)

-- ---- the desk
module _ (sites : ℕ) (owners send receive pool : List ℕ) where
  -- what `machine::desk_open` promises
  abbrev pub OpeningPromise : DeskAnswer → List ℕ → List ℕ → List ℕ → Type 0
  OpeningPromise r send' receive' pool' = record { answer = r; desk = lent sites owners send' receive' pool' } ≡ given (open_desk flat (lent sites owners send receive pool))

  pub no_two_openings : {r q : DeskAnswer} {send' send'' receive' receive'' pool' pool'' : List ℕ}
      → OpeningPromise r send' receive' pool' → OpeningPromise q send'' receive'' pool'' → (r ≡ q) × (send' ≡ send'') × (receive' ≡ receive'') × (pool' ≡ pool'')
  no_two_openings e f = one_given_desk e f

  module _ (from to pointer : ℕ) where
    -- what `machine::desk_make_copy` promises
    abbrev pub CopyPromise : DeskAnswer → List ℕ → List ℕ → Type 0
    CopyPromise r send' pool' = record { answer = r; desk = lent sites owners send' receive pool' } ≡ given (make_copy flat (lent sites owners send receive pool) from to pointer)

    pub no_two_copies : {r q : DeskAnswer} {send' send'' pool' pool'' : List ℕ} → CopyPromise r send' pool' → CopyPromise q send'' pool'' → (r ≡ q) × (send' ≡ send'') × (pool' ≡ pool'')
    no_two_copies e f = let same = one_given_desk e f in (same.0, same.1, same.3)

  module _ (slot : ℕ) where
    -- what `machine::desk_receive` promises
    abbrev pub ReceivePromise : DeskAnswer → List ℕ → List ℕ → List ℕ → Type 0
    ReceivePromise r send' receive' pool' = record { answer = r; desk = lent sites owners send' receive' pool' } ≡ given (receive_of flat (lent sites owners send receive pool) slot)

    pub no_two_receives : {r q : DeskAnswer} {send' send'' receive' receive'' pool' pool'' : List ℕ}
        → ReceivePromise r send' receive' pool' → ReceivePromise q send'' receive'' pool'' → (r ≡ q) × (send' ≡ send'') × (receive' ≡ receive'') × (pool' ≡ pool'')
    no_two_receives e f = one_given_desk e f

  module _ (site pointer : ℕ) where
    -- what `machine::desk_delete` promises
    abbrev pub DeletePromise : DeskAnswer → List ℕ → List ℕ → Type 0
    DeletePromise r receive' pool' = record { answer = r; desk = lent sites owners send receive' pool' } ≡ given (delete_of flat (lent sites owners send receive pool) site pointer)

    pub no_two_deletes : {r q : DeskAnswer} {receive' receive'' pool' pool'' : List ℕ} → DeletePromise r receive' pool' → DeletePromise q receive'' pool'' → (r ≡ q) × (receive' ≡ receive'') × (pool' ≡ pool'')
    no_two_deletes e f = let same = one_given_desk e f in (same.0, same.2, same.3)

    -- what `machine::desk_ask` promises
    abbrev pub AskPromise : DeskAnswer → Type 0
    AskPromise r = record { answer = r; desk = lent sites owners send receive pool } ≡ given (ask_of flat (lent sites owners send receive pool) site pointer)

    pub no_two_asks : {r q : DeskAnswer} → AskPromise r → AskPromise q → r ≡ q
    no_two_asks e f = (one_given_desk e f).0

    -- what `counts::desk_share` promises
    abbrev pub SharePromise : DeskShare → Type 0
    SharePromise r = r ≡ flat_share (share_of flat (lent sites owners send receive pool) site pointer)

    pub no_two_shares : {r q : DeskShare} → SharePromise r → SharePromise q → r ≡ q
    no_two_shares e f = one_answer e f

  module _ (pointer : ℕ) (sheet : List ℕ) where
    -- what `counts::desk_sheet` promises
    abbrev pub SheetPromise : ℕ → List ℕ → Type 0
    SheetPromise r sheet' = record { number = r; counts = sheet' } ≡ sheet_given flat (lent sites owners send receive pool) pointer sheet

    pub no_two_sheets : {r q : ℕ} {sheet' sheet'' : List ℕ} → SheetPromise r sheet' → SheetPromise q sheet'' → (r ≡ q) × (sheet' ≡ sheet'')
    no_two_sheets e f = (one_outcome (λ (o : Sheet). o.number) e f, one_outcome (λ (o : Sheet). o.counts) e f)

-- ---- the address book
module _ (sites : ℕ) (owners book : List ℕ) where
  -- what `addresses::desk_book_address` promises
  abbrev pub AddressPromise : ℕ → DeskPart → Type 0
  AddressPromise pointer r = r ≡ part_given sites owners book pointer

  pub no_two_addresses : (pointer : ℕ) {r q : DeskPart} → AddressPromise pointer r → AddressPromise pointer q → r ≡ q
  no_two_addresses pointer e f = one_answer e f

  -- what `addresses::desk_book_check` promises
  abbrev pub CheckPromise : DeskAnswer → Type 0
  CheckPromise r = r ≡ flat_answer (check_answer sites owners book)

  pub no_two_checks : {r q : DeskAnswer} → CheckPromise r → CheckPromise q → r ≡ q
  no_two_checks e f = one_answer e f

  -- what `addresses::desk_book_search` promises
  abbrev pub SearchPromise : ℕ → List ℕ → DeskAnswer → Type 0
  SearchPromise owner address r = r ≡ flat_answer (search_answer sites owners book owner address)

  pub no_two_searches : (owner : ℕ) (address : List ℕ) {r q : DeskAnswer} → SearchPromise owner address r → SearchPromise owner address q → r ≡ q
  no_two_searches owner address e f = one_answer e f

-- ---- lines, and the program
module _ (text : List ℕ) where
  -- what `line::desk_line_write` promises
  abbrev pub WritePromise : ℕ → ℕ → ℕ → ℕ → DeskAnswer → List ℕ → Type 0
  WritePromise code a b c r text' = record { answer = r; desk = text' } ≡ given (line_written text code a b c)

  pub no_two_writes : (code a b c : ℕ) {r q : DeskAnswer} {text' text'' : List ℕ} → WritePromise code a b c r text' → WritePromise code a b c q text'' → (r ≡ q) × (text' ≡ text'')
  no_two_writes code a b c e f = (one_outcome (λ (o : Given DeskAnswer (List ℕ)). o.answer) e f, one_outcome (λ (o : Given DeskAnswer (List ℕ)). o.desk) e f)

  -- what `line::desk_line_read` promises
  abbrev pub ReadPromise : ℕ → DeskLine → Type 0
  ReadPromise at r = r ≡ line_given text at

  pub no_two_reads : (at : ℕ) {r q : DeskLine} → ReadPromise at r → ReadPromise at q → r ≡ q
  no_two_reads at e f = one_answer e f

module _ (input output : List ℕ) where
  -- what `program::desk_run` promises
  abbrev pub RunPromise : ℕ → List ℕ → Type 0
  RunPromise r output' = record { output = output'; count = r } ≡ run_of input output

  pub no_two_runs : {r q : ℕ} {output' output'' : List ℕ} → RunPromise r output' → RunPromise q output'' → (r ≡ q) × (output' ≡ output'')
  no_two_runs e f = (one_outcome (λ (w : Written). w.count) e f, one_outcome (λ (w : Written). w.output) e f)
