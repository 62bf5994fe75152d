-- What is answered is known by what it tells: no two refusals have one number, so no two results tell the same.
use Rattle.std.proofs.Common.{◌≡◌, ℕ, List, [], ◌∷◌, Result, Ok, Err, refl, sym, ap, ◌∙◌}
use Rattle.std.specs.Prelude.{◌-◌, get_or, ⊤}
use Rattle.model.specs.Answers.{Answer, Outcome}
use Rattle.rules.specs.declared.refusal.Refusal.{Refusal}
use Rattle.rules.specs.declared.refusal.Refusal.TheVariants as name
use Rattle.rules.specs.declared.answer.Accepted.{Accepted}
use Rattle.rules.specs.Turned.{number_of, number_in, told}
use Rattle.rules.proofs.TurnedLaws.{number_given}

-- ---- a number is one refusal's
refusals : List Refusal
refusals =
    name.BadShape ∷ name.BadTable ∷ name.BadName ∷ name.SameSite ∷ name.NotHeld ∷ name.CounterFull ∷ name.PoolFull
    ∷ name.EmptySlot ∷ name.Held ∷ name.CounterZero ∷ name.IsOwner ∷ name.StillCounted ∷ name.NotOwner ∷ name.BadLine
    ∷ name.UnknownCode ∷ name.PrivateCode ∷ name.TooLong ∷ name.BadBook ∷ name.Twins ∷ name.NotListed ∷ name.OutOfOrder ∷ []

refusal_at : ℕ → Refusal
refusal_at number = get_or refusals (number - 1) name.BadShape

known_by_number : (refusal : Refusal) → refusal_at (number_of refusal) ≡ refusal
unfolding refusal_at refusals
known_by_number name.BadShape = refl
known_by_number name.BadTable = refl
known_by_number name.BadName = refl
known_by_number name.SameSite = refl
known_by_number name.NotHeld = refl
known_by_number name.CounterFull = refl
known_by_number name.PoolFull = refl
known_by_number name.EmptySlot = refl
known_by_number name.Held = refl
known_by_number name.CounterZero = refl
known_by_number name.IsOwner = refl
known_by_number name.StillCounted = refl
known_by_number name.NotOwner = refl
known_by_number name.BadLine = refl
known_by_number name.UnknownCode = refl
known_by_number name.PrivateCode = refl
known_by_number name.TooLong = refl
known_by_number name.BadBook = refl
known_by_number name.Twins = refl
known_by_number name.NotListed = refl
known_by_number name.OutOfOrder = refl

pub same_refusal : (r q : Refusal) → number_of r ≡ number_of q → r ≡ q
same_refusal r q e = sym (known_by_number r) ∙ ap refusal_at e ∙ known_by_number q

-- ---- of two results with one number: refused alike, or accepted both
pub same_result : {A : Type 0} (r q : Result A Refusal) → number_in r ≡ number_in q → ((a b : A) → r ≡ Ok a → q ≡ Ok b → a ≡ b) → r ≡ q
same_result (Ok a) (Ok b) e same = ap Ok (same a b refl refl)
same_result (Ok a) (Err q) e same = absurd (number_given q (sym e))
same_result (Err r) (Ok b) e same = absurd (number_given r e)
same_result (Err r) (Err q) e same = ap Err (same_refusal r q e)

-- of a test, which hands nothing on
pub same_test : (r q : Result ⊤ Refusal) → number_in r ≡ number_in q → r ≡ q
same_test r q e = same_result r q e (λ a b f g. refl)

-- ---- what is told is one result
pub same_told : (r q : Result Accepted Refusal) → told r ≡ told q → r ≡ q
same_told (Ok a) (Ok b) e = let accepted : Answer → Accepted = λ t. record { value = t.value; empty = t.empty; posted = t.posted } in ap Ok (ap accepted e)
same_told (Ok a) (Err q) e = absurd (number_given q (sym (ap (λ (t : Answer). t.number) e)))
same_told (Err r) (Ok b) e = absurd (number_given r (ap (λ (t : Answer). t.number) e))
same_told (Err r) (Err q) e = ap Err (same_refusal r q (ap (λ (t : Answer). t.number) e))

-- where a desk is lent: the result, and the desk as the call leaves it
pub one_call : {D : Type 0} {r q : Result Accepted Refusal} {d e : D} {v : Outcome D} → record { answer = told r; desk = d } ≡ v → record { answer = told q; desk = e } ≡ v → (r ≡ q) × (d ≡ e)
one_call {D} {r} {q} e f = let same = e ∙ sym f in (same_told r q (ap (λ (o : Outcome D). o.answer) same), ap (λ (o : Outcome D). o.desk) same)
