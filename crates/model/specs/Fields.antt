-- Document 01, "The calls": a call's sites and pointers are bytes, its slots 16-bit numbers.
use Rattle.std.specs.Prelude.{◌<◌}
use Rattle.model.specs.declared.Call.{Call}
use Rattle.model.specs.declared.Call.TheVariants.{MakeCopy, Receive, Delete, Ask}

-- each field fits its type, as that of a call in code does
abbrev pub FieldsFit : Call → Type 0
FieldsFit (MakeCopy from to p) = (from < 256) × (to < 256) × (p < 256)
FieldsFit (Receive slot) = slot < 65536
FieldsFit (Delete site p) = (site < 256) × (p < 256)
FieldsFit (Ask site p) = (site < 256) × (p < 256)
