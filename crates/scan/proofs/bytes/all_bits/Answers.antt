-- Words at both ends, or streams of words and words at the end, cover all bytes.
use Prim.Native.Nat.{◌+◌, ◌-◌, ◌*◌, ◌/◌, max}
use mathlib.Core.Path.{refl, ◌∙◌}
use native.Mathlib.Omega.{arith}
use lib.Bits.{bit_or}
use lib.ListN.{length}
use Rattle.model.specs.Tables.{byte_below, all_below}
use Rattle.scan.specs.Word.{bit_mask}
use Rattle.scan.proofs.EightLaws.{seen_covered, seen_ends, eight_bits}
use Rattle.scan.proofs.bytes.all_bits.Goals as goal

pub returns-then-n-lt16 : goal.returns-then-n-lt16
unfolding all_below
returns-then-n-lt16 c =
    let bytes = c.args.bytes.now in
    let n = length bytes in
    c.only_bits.ensures
    ∙ seen_ends bit_mask (byte_below 2 bytes) 8 n c.eight_at.result c.eight_at-then-n-lt16.result (omega arith) (omega arith)
    (eight_bits bytes c.type_inv.bytes 0 c.eight_at.ensures) (eight_bits bytes c.type_inv.bytes (n - 8) c.eight_at-then-n-lt16.ensures)

pub returns-then-n-lt32 : goal.returns-then-n-lt32
unfolding all_below
returns-then-n-lt32 c =
    c.only_bits-then-n-lt32.ensures
    ∙ seen_ends bit_mask (byte_below 2 c.args.bytes.now) 16 (length c.args.bytes.now) c.sixteen_shown.result c.sixteen_shown-then-n-lt32.result (omega arith) (omega arith)
    c.sixteen_shown.ensures c.sixteen_shown-then-n-lt32.ensures

pub returns : goal.returns
unfolding all_below
returns c =
    let bytes = c.args.bytes.now in
    let n = length bytes in
    let k = n / 32 * 32 in
    let next = max k (n - 32 + 16) in
    let most = seen_covered bit_mask (byte_below 2 bytes) k (n - 32) 16 next c.streams_shown.result c.sixteen_shown-2.result (omega arith) refl
    c.streams_shown.ensures c.sixteen_shown-2.ensures in
    c.only_bits-2.ensures
    ∙ seen_covered bit_mask (byte_below 2 bytes) next (n - 16) 16 n (bit_or c.streams_shown.result c.sixteen_shown-2.result) c.sixteen_shown-3.result (omega arith) (omega arith) most c.sixteen_shown-3.ensures
