-- No two outcomes meet a promise of these functions: one answer, and one state of all that it may write.
use Rattle.std.specs.Prelude.{ℕ, ◌≡◌, List, Result}
use Rattle.rules.specs.declared.answer.Accepted.{Accepted}
use Rattle.rules.specs.declared.refusal.Refusal.{Refusal}
use Rattle.rules.specs.Turned.{told}
use Rattle.rules.proofs.OneAnswer.{one_call}
use Rattle.word_cells.specs.WordCells.{pack as pack_of, unpack as unpack_of}

module _ (sites : ℕ) (cells words : List ℕ) where
  -- what `pack::pack` promises
  abbrev pub PackPromise : Result Accepted Refusal → List ℕ → Type 0
  PackPromise r words' = record { answer = told r; desk = words' } ≡ pack_of sites cells words

  pub no_two_packs : {r q : Result Accepted Refusal} {words' words'' : List ℕ} → PackPromise r words' → PackPromise q words'' → (r ≡ q) × (words' ≡ words'')
  no_two_packs e f = one_call e f

  -- what `unpack::unpack` promises
  abbrev pub UnpackPromise : Result Accepted Refusal → List ℕ → Type 0
  UnpackPromise r cells' = record { answer = told r; desk = cells' } ≡ unpack_of sites words cells

  pub no_two_unpacks : {r q : Result Accepted Refusal} {cells' cells'' : List ℕ} → UnpackPromise r cells' → UnpackPromise q cells'' → (r ≡ q) × (cells' ≡ cells'')
  no_two_unpacks e f = one_call e f
