-- A word for each pointer, and owners that are bits of a word.
use borrow.Author.Tests.{eqb-true}
use Rattle.lent.proofs.WordLaws.{owners_below_64}
use Rattle.lent.proofs.cells.U64Cell.open.Goals as goal

pub owner_bits-requires : goal.owner_bits-requires
owner_bits-requires c = (eqb-true _ _ c.requires.2, owners_below_64 c.args.s _ c.requires.0 c.requires.3)
