-- What stands above seven bytes is not looked at.
use Prim.Native.Nat.{ℕ, ◌%◌, ◌<◌}
use mathlib.Core.Path.{◌≡◌, sym, ap, ◌∙◌}
use native.Mathlib.Omega.{arith}
use lib.ListN.{get_or}
use Rattle.wide.proofs.WideLaws.{seven_at, cut_at, alone_at}
use Rattle.wide.proofs.word.SevenSlotForm.alone.Goals as goal

pub returns : goal.returns
returns c =
    let pool = c.args.pool.now in
    let byte : (j : ℕ) → get_or pool j 0 < 256 = λ j. omega (arith, c.type_inv.pool j) in
    let e : c.from_le_bytes.result ≡ seven_at pool byte c.args.slot = omega (arith, c.from_le_bytes.ensures) in
    let kept = alone_at pool byte c.args.slot e in
    record {
      whole = c.number_of.ensures.0 ∙ e ∙ sym (cut_at pool byte c.args.slot);
      shown = (ap (λ (x : ℕ). x % 4) c.number_of.ensures.0 ∙ kept.0, c.number_of.ensures.1 ∙ kept.1);
    }
