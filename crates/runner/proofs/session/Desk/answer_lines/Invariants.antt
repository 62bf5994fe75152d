-- Of the lines that are left, the answer lines, written where the next one goes, give what all give.
use Rattle.std.proofs.Common.{◌≡◌, ◌+◌, ◌*◌, length}
use Rattle.std.proofs.lemmas.List.Edits.{sets}
use Rattle.model.specs.Transcript.{answers}
use Rattle.lines.specs.Reading.{lines_left}
use Rattle.runner.proofs.session.Desk.answer_lines.Given as goal

abbrev pub invariant-loop-read : goal.invariant-loop-read
invariant-loop-read l =
    record {
      can : (goal.iterator-loop-read).can_next l.read-iterator;
      ends : (goal.iterator-loop-read).is_finite l.read-iterator;
      place : l.end + length (lines_left l.read-iterator) * 17 ≡ 17 + length (lines_left l.reader) * 17;
      rest : sets l.output l.end (answers l.self (lines_left l.read-iterator)) ≡ sets l.initial.output 17 (answers l.initial.self (lines_left l.reader));
    }
