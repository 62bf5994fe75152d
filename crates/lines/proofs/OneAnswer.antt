-- No two reads of a line say the same.
use Rattle.std.proofs.Common.{◌≡◌, ℕ, Option, Some, None, Result, Ok, Err, refl, ap}
use Rattle.model.specs.declared.Call.{Call}
use Rattle.rules.specs.declared.refusal.Refusal.{Refusal}
use Rattle.rules.specs.Turned.{number_of}
use Rattle.rules.proofs.OneAnswer.{same_refusal}
use Rattle.lines.specs.Said.{read_of, next_of}

pub same_read : (r q : Result Call Refusal) → read_of r ≡ read_of q → r ≡ q
same_read (Ok a) (Ok b) e = cc
same_read (Ok a) (Err q) e = cc
same_read (Err r) (Ok b) e = cc
same_read (Err r) (Err q) e = let n : number_of r ≡ number_of q = cc in ap Err (same_refusal r q n)

pub same_next : (r q : Option (Result Call Refusal)) (at : ℕ) → next_of r at ≡ next_of q at → r ≡ q
same_next (Some a) (Some b) at e = let f : read_of a ≡ read_of b = cc in ap Some (same_read a b f)
same_next (Some a) None at e = cc
same_next None (Some b) at e = cc
same_next None None at e = refl
