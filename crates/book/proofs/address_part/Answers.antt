-- `address_part`: after a refusal the part from the book's start to its start.
use Rattle.book.specs.Part.{seen}
use Rattle.book.proofs.AddressLaws.{part_refused}
use Rattle.book.proofs.address_part.Goals as goal

pub returns-in-Err : goal.returns-in-Err
returns-in-Err c = part_refused _ _ _ (seen c.args.book) c.in-Err.field-0 c.in-Err.ensures.number
