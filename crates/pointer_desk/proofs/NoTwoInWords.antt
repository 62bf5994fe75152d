-- No two outcomes meet the promise of an export of the desk on words: what C is given, and all lent memory as the call leaves it.
use Prim.Native.Nat.{ℕ}
use mathlib.Core.Path.{◌≡◌}
use mathlib.Core.List.{List}
use Rattle.model.specs.Calls.{open_desk, make_copy, receive as receive_of, delete as delete_of, ask as ask_of}
use Rattle.model.specs.Survey.{share as share_of}
use Rattle.word_cells.specs.WordCells.{WordDesk, lent_in_words, words as words_of, count_holders, pack as pack_of, unpack as unpack_of}
use Rattle.pointer_desk.specs.declared.answer.DeskAnswer.{DeskAnswer}
use Rattle.pointer_desk.specs.declared.counts.DeskShare.{DeskShare}
use Rattle.pointer_desk.specs.Boundary.{Given, given, flat_share, Sheet, numbered, sheet_given}
use Rattle.model.proofs.OneOutcome.{one_outcome, one_answer}

-- of what a host is given: the answer, and the three parts that a call may write
one_given : {o o' v : Given DeskAnswer WordDesk} → o ≡ v → o' ≡ v
    → (o.answer ≡ o'.answer) × (o.desk.send ≡ o'.desk.send) × (o.desk.receive ≡ o'.desk.receive) × (o.desk.pool ≡ o'.desk.pool)
one_given e f =
    (one_outcome (λ o. o.answer) e f, one_outcome (λ o. o.desk.send) e f, one_outcome (λ o. o.desk.receive) e f, one_outcome (λ o. o.desk.pool) e f)

-- of a number and a list
one_numbered : {o o' v : Sheet} → o ≡ v → o' ≡ v → (o.number ≡ o'.number) × (o.counts ≡ o'.counts)
one_numbered e f = (one_outcome (λ o. o.number) e f, one_outcome (λ o. o.counts) e f)

module _ (sites : ℕ) (owners send words pool : List ℕ) where
  -- what `word_calls::desk_words_open` promises
  abbrev pub OpeningPromise : DeskAnswer → List ℕ → List ℕ → List ℕ → Type 0
  OpeningPromise r send' words' pool' = record { answer = r; desk = lent_in_words sites owners send' words' pool' } ≡ given (open_desk words_of (lent_in_words sites owners send words pool))

  pub no_two_openings : {r q : DeskAnswer} {send' send'' words' words'' pool' pool'' : List ℕ} → OpeningPromise r send' words' pool' → OpeningPromise q send'' words'' pool'' → (r ≡ q) × (send' ≡ send'') × (words' ≡ words'') × (pool' ≡ pool'')
  no_two_openings e f = let same = one_given e f in (same.0, same.1, same.2, same.3)

  module _ (from to pointer : ℕ) where
    -- what `word_calls::desk_words_make_copy` promises
    abbrev pub CopyPromise : DeskAnswer → List ℕ → List ℕ → Type 0
    CopyPromise r send' pool' = record { answer = r; desk = lent_in_words sites owners send' words pool' } ≡ given (make_copy words_of (lent_in_words sites owners send words pool) from to pointer)

    pub no_two_copies : {r q : DeskAnswer} {send' send'' pool' pool'' : List ℕ} → CopyPromise r send' pool' → CopyPromise q send'' pool'' → (r ≡ q) × (send' ≡ send'') × (pool' ≡ pool'')
    no_two_copies e f = let same = one_given e f in (same.0, same.1, same.3)

  module _ (slot : ℕ) where
    -- what `word_calls::desk_words_receive` promises
    abbrev pub ReceivePromise : DeskAnswer → List ℕ → List ℕ → List ℕ → Type 0
    ReceivePromise r send' words' pool' = record { answer = r; desk = lent_in_words sites owners send' words' pool' } ≡ given (receive_of words_of (lent_in_words sites owners send words pool) slot)

    pub no_two_receives : {r q : DeskAnswer} {send' send'' words' words'' pool' pool'' : List ℕ} → ReceivePromise r send' words' pool' → ReceivePromise q send'' words'' pool'' → (r ≡ q) × (send' ≡ send'') × (words' ≡ words'') × (pool' ≡ pool'')
    no_two_receives e f = let same = one_given e f in (same.0, same.1, same.2, same.3)

  module _ (site pointer : ℕ) where
    -- what `word_calls::desk_words_delete` promises
    abbrev pub DeletePromise : DeskAnswer → List ℕ → List ℕ → Type 0
    DeletePromise r words' pool' = record { answer = r; desk = lent_in_words sites owners send words' pool' } ≡ given (delete_of words_of (lent_in_words sites owners send words pool) site pointer)

    pub no_two_deletes : {r q : DeskAnswer} {words' words'' pool' pool'' : List ℕ} → DeletePromise r words' pool' → DeletePromise q words'' pool'' → (r ≡ q) × (words' ≡ words'') × (pool' ≡ pool'')
    no_two_deletes e f = let same = one_given e f in (same.0, same.2, same.3)

    -- what `word_calls::desk_words_ask` promises
    abbrev pub AskPromise : DeskAnswer → Type 0
    AskPromise r = record { answer = r; desk = lent_in_words sites owners send words pool } ≡ given (ask_of words_of (lent_in_words sites owners send words pool) site pointer)

    pub no_two_asks : {r q : DeskAnswer} → AskPromise r → AskPromise q → r ≡ q
    no_two_asks e f = (one_given e f).0

    -- what `word_counts::desk_words_share` promises
    abbrev pub SharePromise : DeskShare → Type 0
    SharePromise r = r ≡ flat_share (share_of words_of (lent_in_words sites owners send words pool) site pointer)

    pub no_two_shares : {r q : DeskShare} → SharePromise r → SharePromise q → r ≡ q
    no_two_shares e f = one_answer e f

  module _ (pointer : ℕ) where
    -- what `word_calls::desk_words_count` promises
    abbrev pub CountPromise : DeskAnswer → Type 0
    CountPromise r = record { answer = r; desk = lent_in_words sites owners send words pool } ≡ given (count_holders (lent_in_words sites owners send words pool) pointer)

    pub no_two_counts : {r q : DeskAnswer} → CountPromise r → CountPromise q → r ≡ q
    no_two_counts e f = (one_given e f).0

  module _ (pointer : ℕ) (sheet : List ℕ) where
    -- what `word_counts::desk_words_sheet` promises
    abbrev pub SheetPromise : ℕ → List ℕ → Type 0
    SheetPromise r sheet' = record { number = r; counts = sheet' } ≡ sheet_given words_of (lent_in_words sites owners send words pool) pointer sheet

    pub no_two_sheets : {r q : ℕ} {sheet' sheet'' : List ℕ} → SheetPromise r sheet' → SheetPromise q sheet'' → (r ≡ q) × (sheet' ≡ sheet'')
    no_two_sheets e f = one_numbered e f

-- ---- byte cells as words, and back
module _ (sites : ℕ) (receive words : List ℕ) where
  -- what `packing::desk_words_pack` promises
  abbrev pub PackPromise : ℕ → List ℕ → Type 0
  PackPromise r words' = record { number = r; counts = words' } ≡ numbered (pack_of sites receive words)

  pub no_two_packs : {r q : ℕ} {words' words'' : List ℕ} → PackPromise r words' → PackPromise q words'' → (r ≡ q) × (words' ≡ words'')
  no_two_packs e f = one_numbered e f

  -- what `packing::desk_words_unpack` promises
  abbrev pub UnpackPromise : ℕ → List ℕ → Type 0
  UnpackPromise r receive' = record { number = r; counts = receive' } ≡ numbered (unpack_of sites words receive)

  pub no_two_unpacks : {r q : ℕ} {receive' receive'' : List ℕ} → UnpackPromise r receive' → UnpackPromise q receive'' → (r ≡ q) × (receive' ≡ receive'')
  no_two_unpacks e f = one_numbered e f
