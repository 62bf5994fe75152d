-- An answer by its number and its value.
use Prim.Native.Nat.{ℕ, zero, suc}
use mathlib.Core.Path.{◌≡◌, refl, ap}
use mathlib.Core.List.{List}
use native.Mathlib.Omega.{arith}
use Rattle.model.specs.declared.Posted.TheVariants.{Nothing}
use Rattle.model.specs.Answers.{Answer}
use Rattle.std.specs.Prelude.{Ok, Err}
use Rattle.rules.specs.declared.refusal.Refusal.{Refusal}
use Rattle.rules.specs.declared.answer.Accepted.{Accepted}
use Rattle.rules.specs.Turned.{number_of, told}
use Rattle.rules.proofs.TurnedLaws.{number_given}
use Rattle.model.specs.Answers.{accepted, refused}
use Rattle.book.specs.Book.{answered, check_number, check_answer, search_number, search_answer}

pub refused_answer : (n number value : ℕ) {r : Answer} → (n ≡ 0 → ⊥) → n ≡ number → r ≡ refused n → r ≡ answered number value
refused_answer zero number value given e q = absurd (given refl)
refused_answer (suc n) number value given e q = rw (← e) q

pub accepted_answer : (number value : ℕ) {found : ℕ} {r : Answer} → 0 ≡ number → found ≡ value → r ≡ accepted found Nothing → r ≡ answered number value
accepted_answer number value e f q = rw (← e, ← f) q

-- at each place where the code returns: a number that is given, or none
pub told_refused : (refusal : Refusal) (number value : ℕ) → number_of refusal ≡ number → told (Err refusal) ≡ answered number value
told_refused refusal number value e = refused_answer (number_of refusal) number value (number_given refusal) e refl

pub told_accepted : (accepted_value : Accepted) (number value : ℕ) → told (Ok accepted_value) ≡ accepted value Nothing → 0 ≡ number → told (Ok accepted_value) ≡ answered number value
told_accepted accepted_value number value q e = accepted_answer number value e refl q

pub ruleset telling = (told_refused, told_accepted)

-- what it says of them
pub answered_accepted : (n value found : ℕ) → answered n value ≡ accepted found Nothing → (n ≡ 0) × (value ≡ found)
answered_accepted zero value found e = (refl, ap (λ (a : Answer). a.value) e)
answered_accepted (suc n) value found e = let q : suc n ≡ 0 = ap (λ (a : Answer). a.number) e in absurd (omega arith)

pub answered_number : (n value : ℕ) → (answered n value).number ≡ n
answered_number zero value = refl
answered_number (suc n) value = refl

-- No answer of the book tells a count of empty slots (Document 02, One).
answered_tells_nothing : (n value : ℕ) → (answered n value).empty ≡ 0
answered_tells_nothing zero value = refl
answered_tells_nothing (suc n) value = refl

pub check_tells_nothing : (s : ℕ) (owners book : List ℕ) → (check_answer s owners book).empty ≡ 0
unfolding check_answer
check_tells_nothing s owners book = answered_tells_nothing (check_number s owners book) 0

pub search_tells_nothing : (s : ℕ) (owners book : List ℕ) (owner : ℕ) (wanted : List ℕ) → (search_answer s owners book owner wanted).empty ≡ 0
unfolding search_answer
search_tells_nothing s owners book owner wanted = answered_tells_nothing (search_number s owners book owner wanted) _
