-- No two answers meet the promise of a test or of a question, and no two that of what a call decides: over every receive table and every pool.
use Rattle.std.specs.Prelude.{ℕ, Bool, ◌≡◌, ◌+◌, List, length, Result, Ok, Err, IfOk, ℤ, ⊤}
use Rattle.std.specs.Result.{result_map_both}
use mathlib.Core.Path.{sym, ap, ◌∙◌}
use Rattle.model.specs.Calls.{lent_refusal, open_refusal, front as front_of, empty_slots, lowest_empty, ask as ask_of, copy_number, copied, delete_number, deleted, counter_there, cell_there, receive_number, received}
use Rattle.model.specs.Answers.{Outcome}
use Rattle.model.specs.Laws.{Inside}
use Rattle.model.specs.Messages.{receiver as receiver_of, pointer_of as named_by, counter_after, cell_after}
use Rattle.model.specs.Parts.{ReceiveTable, Pool, desk_of}
use Rattle.model.specs.Survey.{Share, share as share_of, sheet_number, sheet as sheet_of}
use Rattle.model.specs.Tables.{Lent, place}
use Rattle.model.proofs.OneOutcome.{one_answer}
use Rattle.rules.specs.declared.answer.Accepted.{Accepted}
use Rattle.rules.specs.declared.refusal.Refusal.{Refusal}
use Rattle.rules.specs.Turned.{number_in, told}
use Rattle.rules.proofs.OneAnswer.{same_refusal, same_result, same_test, one_call}
use Rattle.rules.proofs.TurnedLaws.{number_given}
use Rattle.word_cells.specs.WordCells.{WordDesk, count_holders as count_of}
use Rattle.lent.specs.declared.change.Change.{Change}
use Rattle.lent.specs.Desks.{share_told, rows_told, Passed, Openable, Placed, counter_written, cell_written, all_written}

-- no two results tell one share
same_share : (r q : Result ℤ Refusal) → share_told r ≡ share_told q → r ≡ q
same_share (Ok n) (Ok m) e = ap (λ (t : Share). Ok t.share) e
same_share (Ok n) (Err q) e = absurd (number_given q (sym (ap (λ (t : Share). t.number) e)))
same_share (Err r) (Ok m) e = absurd (number_given r (ap (λ (t : Share). t.number) e))
same_share (Err r) (Err q) e = ap Err (same_refusal r q (ap (λ (t : Share). t.number) e))

-- refused alike, or one is written
pub same_written : {D : Type 0} (written : Change → D) (n : ℕ) (o : D) (r q : Result Change Refusal) → number_in r ≡ n → number_in q ≡ n
    → IfOk r (λ c. written c ≡ o) → IfOk q (λ c. written c ≡ o) → result_map_both written (λ refusal. refusal) r ≡ result_map_both written (λ refusal. refusal) q
same_written written n o (Ok c) (Ok b) k m e f = ap Ok (one_answer e f)
same_written written n o (Ok c) (Err q) k m e f = absurd (number_given q (m ∙ sym k))
same_written written n o (Err r) (Ok b) k m e f = absurd (number_given r (k ∙ sym m))
same_written written n o (Err r) (Err q) k m e f = ap Err (same_refusal r q (k ∙ sym m))

-- refused alike, or one change: its answer by what is told, and each other field
abbrev Named : ℕ → ℕ → ℕ → Change → Type 0
Named site pointer at c = (c.site ≡ site) × (c.pointer ≡ pointer) × (c.at ≡ at)

abbrev Valued : ℕ → ℕ → ℕ → Change → Type 0
Valued counter cell slot c = (c.counter ≡ counter) × (c.cell ≡ cell) × (c.slot ≡ slot)

same_change : {D : Type 0} (desk : Change → D) {n : ℕ} (site pointer at counter cell slot : ℕ) (o : Outcome D) (r q : Result Change Refusal) → number_in r ≡ n → number_in q ≡ n
    → IfOk r (Named site pointer at) → IfOk q (Named site pointer at) → IfOk r (Valued counter cell slot) → IfOk q (Valued counter cell slot)
    → IfOk r (λ c. record { answer = told (Ok c.answer); desk = desk c } ≡ o) → IfOk q (λ c. record { answer = told (Ok c.answer); desk = desk c } ≡ o) → r ≡ q
same_change {D} desk site pointer at counter cell slot o (Ok c) (Ok b) k m nc nb vc vb e f =
    let answer : Outcome D → Accepted = λ x. record { value = x.answer.value; empty = x.answer.empty; posted = x.answer.posted } in
    let same : (c.site ≡ b.site) × (c.pointer ≡ b.pointer) × (c.at ≡ b.at) × (c.counter ≡ b.counter) × (c.cell ≡ b.cell) × (c.slot ≡ b.slot) =
    (one_answer nc.0 nb.0, one_answer nc.1 nb.1, one_answer nc.2 nb.2, one_answer vc.0 vb.0, one_answer vc.1 vb.1, one_answer vc.2 vb.2) in
    let told_alike : c.answer ≡ b.answer = ap answer (one_answer e f) in
    λ w. Ok (record { site = same.0 w; pointer = same.1 w; at = same.2 w; counter = same.3 w; cell = same.4 w; slot = same.5 w; answer = told_alike w })
same_change desk site pointer at counter cell slot o (Ok c) (Err q) k m nc nb vc vb e f = absurd (number_given q (m ∙ sym k))
same_change desk site pointer at counter cell slot o (Err r) (Ok b) k m nc nb vc vb e f = absurd (number_given r (k ∙ sym m))
same_change desk site pointer at counter cell slot o (Err r) (Err q) k m nc nb vc vb e f = ap Err (same_refusal r q (k ∙ sym m))

module _ {R Q : Type 0} (table : ReceiveTable R) (pool : Pool Q) (self : Lent R Q) where
  -- ---- the tests
  -- what `desk::refusal` promises
  abbrev pub RefusalPromise : Result ⊤ Refusal → Type 0
  RefusalPromise r = number_in r ≡ lent_refusal (desk_of table pool) self

  pub no_two_refusals : {r q : Result ⊤ Refusal} → RefusalPromise r → RefusalPromise q → r ≡ q
  no_two_refusals {r} {q} e f = same_test r q (one_answer e f)

  -- what `opening::opening` promises
  abbrev pub OpeningPromise : Result ⊤ Refusal → Type 0
  OpeningPromise r = (number_in r ≡ open_refusal (desk_of table pool) self) × IfOk r (λ _. Openable table pool self)

  pub no_two_openings : {r q : Result ⊤ Refusal} → OpeningPromise r → OpeningPromise q → r ≡ q
  no_two_openings {r} {q} e f = same_test r q (one_answer e.0 f.0)

  module _ (named : Bool) where
    -- what `desk::front` promises
    abbrev pub FrontPromise : Result ⊤ Refusal → Type 0
    FrontPromise r = (number_in r ≡ front_of (desk_of table pool) self named) × IfOk r (λ _. Passed table pool self named)

    pub no_two_fronts : {r q : Result ⊤ Refusal} → FrontPromise r → FrontPromise q → r ≡ q
    no_two_fronts {r} {q} e f = same_test r q (one_answer e.0 f.0)

    -- what `desk::counted_front` promises
    abbrev pub CountedFrontPromise : Result ℕ Refusal → Type 0
    CountedFrontPromise r = (number_in r ≡ front_of (desk_of table pool) self named)
        × IfOk r (λ n. n ≡ empty_slots (desk_of table pool) self)
        × IfOk r (λ _. Passed table pool self named)

    pub no_two_counted_fronts : (r q : Result ℕ Refusal) → CountedFrontPromise r → CountedFrontPromise q → r ≡ q
    no_two_counted_fronts (Ok n) (Ok m) e f = ap Ok (one_answer e.1 f.1)
    no_two_counted_fronts (Ok n) (Err q) e f = absurd (number_given q (one_answer f.0 e.0))
    no_two_counted_fronts (Err r) (Ok m) e f = absurd (number_given r (one_answer e.0 f.0))
    no_two_counted_fronts (Err r) (Err q) e f = ap Err (same_refusal r q (one_answer e.0 f.0))

  -- ---- the questions
  module _ (site pointer : ℕ) where
    -- what `ask::ask` promises
    abbrev pub AskPromise : Result Accepted Refusal → Type 0
    AskPromise r = record { answer = told r; desk = self } ≡ ask_of (desk_of table pool) self site pointer

    pub no_two_asks : {r q : Result Accepted Refusal} → AskPromise r → AskPromise q → r ≡ q
    no_two_asks e f = (one_call e f).0

    -- what `share::share` promises
    abbrev pub SharePromise : Result ℤ Refusal → Type 0
    SharePromise r = share_told r ≡ share_of (desk_of table pool) self site pointer

    pub no_two_shares : {r q : Result ℤ Refusal} → SharePromise r → SharePromise q → r ≡ q
    no_two_shares {r} {q} e f = same_share r q (one_answer e f)

  module _ (pointer : ℕ) where
    -- what `sheet::sheet` promises
    abbrev pub SheetPromise : Result (List (List ℕ)) Refusal → Type 0
    SheetPromise r = (number_in r ≡ sheet_number (desk_of table pool) self pointer) × (rows_told r ≡ sheet_of (desk_of table pool) self pointer)

    pub no_two_sheets : {r q : Result (List (List ℕ)) Refusal} → SheetPromise r → SheetPromise q → r ≡ q
    no_two_sheets {r} {q} e f = same_result r q (one_answer e.0 f.0) (λ a b g h. let same = one_answer e.1 f.1 in rw (g, h) at same)

    -- nor has a refused sheet two numbers
    pub no_two_sheet_numbers : (r q : Result (List (List ℕ)) Refusal) → number_in r ≡ sheet_number (desk_of table pool) self pointer → number_in q ≡ sheet_number (desk_of table pool) self pointer → number_in r ≡ number_in q
    no_two_sheet_numbers r q e f = one_answer e f

  -- ---- what a call decides: refused alike, or one change
  module _ (from to pointer : ℕ) where
    -- what `copy::copy` promises
    abbrev pub CopyPromise : Result Change Refusal → Type 0
    CopyPromise r = (number_in r ≡ copy_number (desk_of table pool) self from to pointer)
        × IfOk r (Placed table pool self)
        × IfOk r (λ c. (c.site ≡ from) × (c.pointer ≡ pointer) × (c.at ≡ place (length self.owners) from pointer))
        × IfOk r (λ c. (c.counter ≡ (desk_of table pool).counter self from pointer + 1) × (c.cell ≡ (desk_of table pool).cell self from pointer) × (c.slot ≡ lowest_empty (desk_of table pool) self))
        × IfOk r (λ c. counter_written table pool self c ≡ copied (desk_of table pool) self from to pointer)

    pub no_two_copies : (r q : Result Change Refusal) → CopyPromise r → CopyPromise q → r ≡ q
    no_two_copies r q e f =
        let L = desk_of table pool in
        same_change (λ c. (counter_written table pool self c).desk) from pointer (place (length self.owners) from pointer) (L.counter self from pointer + 1) (L.cell self from pointer) (lowest_empty L self)
        (copied L self from to pointer) r q e.0 f.0 e.2 f.2 e.3 f.3 e.4 f.4

    -- the number, and what is answered and written: where no more is known of two results, these are the same
    abbrev pub CopyWritten : Result Change Refusal → Type 0
    CopyWritten r = (number_in r ≡ copy_number (desk_of table pool) self from to pointer) × IfOk r (λ c. counter_written table pool self c ≡ copied (desk_of table pool) self from to pointer)

    pub no_two_copies_written : (r q : Result Change Refusal) → CopyWritten r → CopyWritten q
        → result_map_both (counter_written table pool self) (λ refusal. refusal) r ≡ result_map_both (counter_written table pool self) (λ refusal. refusal) q
    no_two_copies_written r q e f = same_written (counter_written table pool self) (copy_number (desk_of table pool) self from to pointer) (copied (desk_of table pool) self from to pointer) r q e.0 f.0 e.1 f.1

  module _ (site pointer : ℕ) where
    -- what `delete::delete` promises
    abbrev pub DeletePromise : Result Change Refusal → Type 0
    DeletePromise r = (number_in r ≡ delete_number (desk_of table pool) self site pointer)
        × IfOk r (Placed table pool self)
        × IfOk r (λ c. (c.site ≡ site) × (c.pointer ≡ pointer) × (c.at ≡ place (length self.owners) site pointer))
        × IfOk r (λ c. (c.counter ≡ (desk_of table pool).counter self site pointer) × (c.cell ≡ 0) × (c.slot ≡ lowest_empty (desk_of table pool) self))
        × IfOk r (λ c. cell_written table pool self c ≡ deleted (desk_of table pool) self site pointer)

    pub no_two_deletes : (r q : Result Change Refusal) → DeletePromise r → DeletePromise q → r ≡ q
    no_two_deletes r q e f =
        let L = desk_of table pool in
        same_change (λ c. (cell_written table pool self c).desk) site pointer (place (length self.owners) site pointer) (L.counter self site pointer) 0 (lowest_empty L self)
        (deleted L self site pointer) r q e.0 f.0 e.2 f.2 e.3 f.3 e.4 f.4

    -- the number, and what is answered and written: where no more is known of two results, these are the same
    abbrev pub DeleteWritten : Result Change Refusal → Type 0
    DeleteWritten r = (number_in r ≡ delete_number (desk_of table pool) self site pointer) × IfOk r (λ c. cell_written table pool self c ≡ deleted (desk_of table pool) self site pointer)

    pub no_two_deletes_written : (r q : Result Change Refusal) → DeleteWritten r → DeleteWritten q
        → result_map_both (cell_written table pool self) (λ refusal. refusal) r ≡ result_map_both (cell_written table pool self) (λ refusal. refusal) q
    no_two_deletes_written r q e f = same_written (cell_written table pool self) (delete_number (desk_of table pool) self site pointer) (deleted (desk_of table pool) self site pointer) r q e.0 f.0 e.1 f.1

  module _ (slot : ℕ) where
    -- what `receive::receive` promises
    abbrev pub ReceivePromise : Result Change Refusal → Type 0
    ReceivePromise r = (number_in r ≡ receive_number (desk_of table pool) self slot)
        × IfOk r (Placed table pool self)
        × IfOk r (λ c. Inside self.S (length self.owners) (pool.message self.pool c.slot))
        × IfOk r (λ c. (c.site ≡ receiver_of (pool.message self.pool slot)) × (c.pointer ≡ named_by (pool.message self.pool slot)) × (c.at ≡ place (length self.owners) (receiver_of (pool.message self.pool slot)) (named_by (pool.message self.pool slot))))
        × IfOk r (λ c. (c.counter ≡ counter_after (pool.message self.pool slot) (counter_there (desk_of table pool) self slot)) × (c.cell ≡ cell_after (pool.message self.pool slot) (cell_there (desk_of table pool) self slot)) × (c.slot ≡ slot))
        × IfOk r (λ c. all_written table pool self c ≡ received (desk_of table pool) self slot)

    pub no_two_receives : (r q : Result Change Refusal) → ReceivePromise r → ReceivePromise q → r ≡ q
    no_two_receives r q e f =
        let L = desk_of table pool in
        let m = pool.message self.pool slot in
        same_change (λ c. (all_written table pool self c).desk) (receiver_of m) (named_by m) (place (length self.owners) (receiver_of m) (named_by m)) (counter_after m (counter_there L self slot)) (cell_after m (cell_there L self slot)) slot
        (received L self slot) r q e.0 f.0 e.3 f.3 e.4 f.4 e.5 f.5

    -- the number, and what is answered and written: where no more is known of two results, these are the same
    abbrev pub ReceiveWritten : Result Change Refusal → Type 0
    ReceiveWritten r = (number_in r ≡ receive_number (desk_of table pool) self slot) × IfOk r (λ c. all_written table pool self c ≡ received (desk_of table pool) self slot)

    pub no_two_receives_written : (r q : Result Change Refusal) → ReceiveWritten r → ReceiveWritten q
        → result_map_both (all_written table pool self) (λ refusal. refusal) r ≡ result_map_both (all_written table pool self) (λ refusal. refusal) q
    no_two_receives_written r q e f = same_written (all_written table pool self) (receive_number (desk_of table pool) self slot) (received (desk_of table pool) self slot) r q e.0 f.0 e.1 f.1

-- ---- the count of holders, of a desk on words
module _ (self : WordDesk) (pointer : ℕ) where
  -- what `holders::count_holders` promises
  abbrev pub CountPromise : Result Accepted Refusal → Type 0
  CountPromise r = record { answer = told r; desk = self } ≡ count_of self pointer

  pub no_two_counts : {r q : Result Accepted Refusal} → CountPromise r → CountPromise q → r ≡ q
  no_two_counts e f = (one_call e f).0
