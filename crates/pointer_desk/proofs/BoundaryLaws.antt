-- An answer in a form of C, beside the lent memory.
use mathlib.Core.Path.{◌≡◌, ap}
use Rattle.model.specs.Answers.{Answer, Outcome}
use Rattle.pointer_desk.specs.Boundary.{given_as}

-- the call's equation, in a form of C
pub in_c : {A D : Type 0} (form : Answer → A) {a : Answer} {r : A} {d : D} {o : Outcome D} → r ≡ form a → record { answer = a; desk = d } ≡ o → record { answer = r; desk = d } ≡ given_as form o
in_c {A} {D} form {a} {r} {d} {o} e f = rw e (ap (given_as form) f)
