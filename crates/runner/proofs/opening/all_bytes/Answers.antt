-- `all_bytes` meets its promise: it asks of each number of the range.
use Rattle.std.proofs.Common.{◌/◌, length, ◌∙◌, refl, arith, rules, tests}
use Rattle.std.proofs.lemmas.Iterator.{YieldsList-from_range}
use Rattle.std.proofs.lemmas.Iterator.Search.{all_from_yields_List}
use Rattle.model.specs.Lines.{is_byte}
use Rattle.runner.proofs.OpeningLaws.{every_of_range}
use Rattle.runner.proofs.opening.all_bytes.Goals as goal

pub returns : goal.returns
returns c =
    let line = c.args.line.now in
    let n = length line / 2 in
    all_from_yields_List (is_byte line) _ _ _ c.all.ensures.ran (YieldsList-from_range 0 n n refl (omega arith)) (λ x b q k. search (rules, tests))
    ∙ every_of_range (is_byte line) n
