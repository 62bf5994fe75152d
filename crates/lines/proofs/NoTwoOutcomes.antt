-- No two outcomes meet the promise of the writer of a line, or of a reader.
use Rattle.std.proofs.Common.{◌≡◌, ℕ, List, Option, Some, None, Result, refl, sym, ap, ◌∙◌}
use Rattle.std.specs.Option.{option_map}
use Rattle.std.specs.Iterator.{YieldsFirstRef}
use denote.Ref.{Bor}
use Rattle.model.specs.declared.Call.{Call}
use Rattle.model.specs.Lines.{write_call}
use Rattle.model.proofs.OneOutcome.{one_answer, one_answer_one_memory}
use Rattle.rules.specs.declared.refusal.Refusal.{Refusal}
use Rattle.rules.specs.declared.answer.Accepted.{Accepted}
use Rattle.rules.specs.Turned.{told}
use Rattle.rules.proofs.OneAnswer.{same_told}
use Rattle.lines.specs.declared.reader.Reader.{Reader}
use Rattle.lines.specs.Reading.{started, moved_on, lines_left, GivesRead}
use Rattle.lines.specs.Said.{next_of}
use Rattle.lines.proofs.OneAnswer.{same_next}

-- ---- the writer
module _ (text : List ℕ) (call : Call) where
  -- what `write::write_call` promises
  abbrev pub WritePromise : Result Accepted Refusal → List ℕ → Type 0
  WritePromise r text' = record { answer = told r; desk = text' } ≡ write_call text call

  pub no_two_writes : {r q : Result Accepted Refusal} {text' text'' : List ℕ} → WritePromise r text' → WritePromise q text'' → (r ≡ q) × (text' ≡ text'')
  no_two_writes {r} {q} e f = let same = one_answer_one_memory e f in (same_told r q same.0, same.1)

-- ---- a reader: what is lent to it is handed on, the text itself
module _ (text : Bor (List ℕ)) where
  -- what `reader::new` promises
  abbrev pub NewPromise : Reader → Type 0
  NewPromise r = r ≡ started text

  pub no_two_new : {r q : Reader} → NewPromise r → NewPromise q → r ≡ q
  no_two_new e f = one_answer e f

module _ (self : Reader) where
  -- what `reader::next` promises, of what it answers and of where it stands then
  abbrev pub NextPromise : Option (Result Call Refusal) → Reader → Type 0
  NextPromise r self' = GivesRead self r self'

  pub no_two_next : {r q : Option (Result Call Refusal)} {self' self'' : Reader} → NextPromise r self' → NextPromise q self'' → (r ≡ q) × (self' ≡ self'')
  no_two_next {r} {q} {self'} {self''} e f =
      let moved = one_answer e.moved f.moved in
      let said = e.said ∙ sym f.said ∙ ap (λ (at : ℕ). next_of q at) (ap (λ (reader : Reader). reader.at) (sym moved)) in
      (same_next r q self'.at said, moved)

  -- what `reader::line` promises, of the characters that it hands out and of where it stands then
  abbrev pub LinePromise : Option (Bor (List ℕ)) → Reader → Type 0
  LinePromise r self' = YieldsFirstRef lines_left self r self' × (self' ≡ moved_on self)

  pub no_two_lines : (r q : Option (Bor (List ℕ))) {self' self'' : Reader} → LinePromise r self' → LinePromise q self''
      → (option_map (λ (line : Bor (List ℕ)). line.now) r ≡ option_map (λ (line : Bor (List ℕ)). line.now) q) × (self' ≡ self'')
  no_two_lines (Some a) (Some b) e f = let same : a.now ≡ b.now = cc in (ap Some same, one_answer e.1 f.1)
  no_two_lines (Some a) None e f = cc
  no_two_lines None (Some b) e f = cc
  no_two_lines None None e f = (refl, one_answer e.1 f.1)
