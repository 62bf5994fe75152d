-- `session` meets its promise: over the parts that the line asks for it opens, and stops or goes on.
use Rattle.std.proofs.Common.{◌∙◌}
use Rattle.lines.specs.Reading.{lines_left}
use Rattle.runner.proofs.OpeningLaws.{opens_parts}
use Rattle.runner.proofs.BegunLaws.{stops, goes_on_lem}
use Rattle.runner.proofs.session.session.Goals as goal

pub returns-in-Ok : goal.returns-in-Ok
returns-in-Ok c =
    let a = c.args in
    let opened = c.open-opened.ensures ∙ opens_parts a.line.now _ a.asked.s a.asked.slots c.requires.0 c.fill_owners.ensures in
    goes_on_lem c.open-opened.result _ (lines_left a.rest) a.output.now c.in-Ok.field-0 c.in-Ok.is opened c.put_answer.ensures c.answer_lines.ensures.text c.answer_lines.ensures.count

pub returns-in-Err : goal.returns-in-Err
returns-in-Err c =
    let a = c.args in
    let opened = c.open-opened.ensures ∙ opens_parts a.line.now _ a.asked.s a.asked.slots c.requires.0 c.fill_owners.ensures in
    stops c.open-opened.result _ (lines_left a.rest) a.output.now c.in-Err.field-0 c.in-Err.is opened c.put_answer.ensures
