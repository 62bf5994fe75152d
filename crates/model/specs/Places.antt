-- Document 01, "Lines": the places that a reader comes to, from the start of a text.
use Rattle.std.specs.Prelude.{ℕ, zero, suc, ◌≤◌, ◌<◌, ◌≡◌, List, [], length, get_or}
use Rattle.model.specs.Lines.{Next}
use Rattle.model.specs.Lines.{Line, Ended}
use Rattle.model.specs.Questions.{up_to}
use Rattle.model.specs.Lines.{read_line, lines_of, line_at, next_at}

-- where an answer leaves the reader: past the line; at the end it stays
abbrev pub moved_to : ℕ → Next → ℕ
moved_to at (Line read past) = past
moved_to at Ended = at

-- where it stands after n answers
unfoldable pub place_after : List ℕ → ℕ → ℕ
place_after text zero = 0
place_after text (suc n) = moved_to (place_after text n) (next_at text (place_after text n))

-- the lines that start where it stands for its first n answers
abbrev pub visited : List ℕ → ℕ → List (List ℕ)
visited text n = up_to n (λ k. line_at text (place_after text k))

-- reading line after line visits each line of the text once, in order, and ends
pub record EachLineOnce (text : List ℕ) : Type 0 where
  -- it visits the lines of the text, in their order, one a step
  pub all : visited text (length (lines_of text)) ≡ lines_of text
  -- it answers what each of them says
  pub said : (k : ℕ) → k < length (lines_of text) → next_at text (place_after text k) ≡ Line (read_line (get_or (lines_of text) k [])) (place_after text (suc k))
  -- each step leaves it past where it stood, and within the text
  pub onward : (k : ℕ) → k < length (lines_of text) → (place_after text k < place_after text (suc k)) × (place_after text (suc k) ≤ length text)
  -- then it has ended, and stays
  pub ended : (k : ℕ) → length (lines_of text) ≤ k → (next_at text (place_after text k) ≡ Ended) × (place_after text (suc k) ≡ place_after text k)
  -- after no more steps than the text has characters
  pub few : length (lines_of text) ≤ length text
