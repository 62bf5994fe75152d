-- The bits go in by themselves and with their room; the kind is counted.
use Prim.Native.Nat.{ℕ, ◌+◌, ◌%◌}
use mathlib.Core.Path.{ap, ◌∙◌}
use mathlib.Core.List.{List}
use lib.ListN.{get_or}
use Rattle.scan.proofs.SeenLaws.{apart_more, one_by_kind}
use Rattle.scan.proofs.form.with_number.Goals as goal

pub returns : goal.returns
returns g c =
    let seen = c.args.seen in
    let x = c.args.x in
    let kind = x.whole % 4 in (
      apart_more g.F.SlotForm.form.mask seen.numbers seen.sums x.looked (x.looked + get_or c.args.kinds.now.room kind 0),
      ap (λ (l : List ℕ). seen.empties + get_or l kind 0) c.args.kinds.now.counts ∙ ap (λ (n : ℕ). seen.empties + n) (one_by_kind kind),
    )
