-- Document 01, "Lines": a reader stands over the lent text and knows how far it has come.
use Rattle.std.specs.Prelude.{ℕ, zero, suc, ◌≡◌, List, [], ◌∷◌, Option, Result, MatchOption, drop}
use Rattle.std.specs.Borrow.{Bor}
use Rattle.model.specs.declared.Call.{Call}
use Rattle.model.specs.Lines.{Next}
use Rattle.model.specs.Lines.{lines_of, read_line, next_at}
use Rattle.rules.specs.declared.refusal.Refusal.{Refusal}
use Rattle.lines.specs.declared.reader.Reader.{Reader}
use Rattle.lines.specs.Said.{read_of, next_of}
use Rattle.model.specs.Places.{moved_to}

-- at the start of a text
abbrev pub started : Bor (List ℕ) → Reader
started text = record { text = text; at = 0 }

-- what it answers
abbrev pub answer_of : Reader → Next
answer_of r = next_at r.text.now r.at

-- over the same text, where its answer leaves it
abbrev pub moved_on : Reader → Reader
moved_on r = record { text = r.text; at = moved_to r.at (answer_of r) }

-- moved n times from the start
unfoldable pub reader_after : Bor (List ℕ) → ℕ → Reader
reader_after text zero = started text
reader_after text (suc n) = moved_on (reader_after text n)

-- the lines that are left to it
abbrev pub lines_left : Reader → List (List ℕ)
lines_left r = lines_of (drop r.at r.text.now)

-- a call of `next`: it answers what the first of them says and is moved on; at the end it stays
pub record GivesRead (old : Reader) (read : Option (Result Call Refusal)) (new : Reader) : Type 0 where
  pub said : next_of read new.at ≡ answer_of old
  pub moved : new ≡ moved_on old
  pub line : MatchOption read (lines_left old ≡ []) (λ r. (line : List ℕ) × (lines_left old ≡ line ∷ lines_left new) × (read_of r ≡ read_line line))
