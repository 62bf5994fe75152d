-- Document 01, "Lines": the transcript of an input, at the start of a lent output.
use Rattle.std.specs.Prelude.{ℕ, cond, List, [], ltb, length}
use Rattle.std.proofs.lemmas.List.Edits.{sets}
use Rattle.model.specs.Transcript.{transcript}

-- what a run leaves: the lent output, and how many bytes it wrote
pub record Written : Type 0 where
  pub output : List ℕ
  pub count : ℕ

-- a text at the start of a lent output; what stands past it stays as it was
abbrev pub written : List ℕ → List ℕ → Written
written output text = record { output = sets output 0 text; count = length text }

-- enough for every input: 8,192 lines of 17 characters
abbrev pub room : ℕ
room = 139264

-- an output that is shorter gets nothing
unfoldable pub run : List ℕ → List ℕ → Written
run input output = written output (cond (ltb (length output) room) [] (transcript input))
