-- Two words in a row.
use Rattle.scan.proofs.EightLaws.{sixteen_bits}
use Rattle.scan.proofs.bytes.sixteen_shown.Goals as goal

pub returns : goal.returns
returns c = sixteen_bits c.args.bytes.now c.type_inv.bytes c.args.at c.eight_at.ensures c.eight_at-2.ensures
