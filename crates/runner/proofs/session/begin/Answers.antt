-- `begin` meets its promise: the first line opens, or is turned down.
use Rattle.std.proofs.Common.{◌≡◌, List, ◌∷◌, ◌∙◌, refl, sym, ap, Err, ℕ, arith}
use Rattle.model.specs.Lines.{lines_of}
use Rattle.model.specs.Transcript.{session}
use Rattle.lines.specs.Reading.{lines_left}
use Rattle.runner.specs.Run.{written}
use Rattle.runner.proofs.OpeningLaws.{opens, turned_down}
use Rattle.runner.proofs.BegunLaws.{stops, lines_fit}
use Rattle.runner.proofs.session.begin.Goals as goal

pub session-requires : goal.session-requires
session-requires c =
    let lines : lines_of c.args.input.now ≡ c.in-Some.line.now ∷ lines_left c.line.new.self = sym (ap lines_left c.new-reader.ensures) ∙ c.in-Some.ensures.line in
    (opens c.in-Some.line.now c.in-Ok.asked (sym c.read_opening-opening.ensures ∙ c.in-Ok.is), omega (arith, lines_fit _ _ _ lines c.requires.0, c.requires.1))

pub returns-in_default-opening : goal.returns-in_default-opening
unfolding session
returns-in_default-opening c =
    let lines : lines_of c.args.input.now ≡ c.in-Some.line.now ∷ lines_left c.line.new.self = sym (ap lines_left c.new-reader.ensures) ∙ c.in-Some.ensures.line in
    let refusal = c.unwrap_err.result in
    let down = turned_down c.in-Some.line.now refusal (sym c.read_opening-opening.ensures ∙ c.unwrap_err.ensures) in
    stops (Err refusal) down.0 (lines_left c.line.new.self) c.args.output.now refusal refl down.1 c.put_answer.ensures
    ∙ ap (λ (l : List (List ℕ)). written c.args.output.now (session l)) (sym lines)
