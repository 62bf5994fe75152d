-- No two outcomes meet one promise: what is equal to one value is one, and so is each part of it.
use mathlib.Core.Path.{◌≡◌, sym, ap, ◌∙◌}
use Rattle.model.specs.Answers.{Outcome}
use Rattle.model.specs.Tables.{Desk}

-- a promise has the form: the outcome ≡ a value of what went in; whatever part of the outcome is looked at, any two that meet it have the same
pub one_outcome : {W X : Type 0} (part : W → X) {o o' v : W} → o ≡ v → o' ≡ v → part o ≡ part o'
one_outcome part e f = ap part (e ∙ sym f)

-- where nothing is written, the outcome is the answer
pub one_answer : {W : Type 0} {r r' v : W} → r ≡ v → r' ≡ v → r ≡ r'
one_answer e f = one_outcome (λ r. r) e f

-- where memory is lent: the answer, and that memory as the call leaves it
pub one_answer_one_memory : {D : Type 0} {o o' v : Outcome D} → o ≡ v → o' ≡ v → (o.answer ≡ o'.answer) × (o.desk ≡ o'.desk)
one_answer_one_memory e f = (one_outcome (λ o. o.answer) e f, one_outcome (λ o. o.desk) e f)

-- where a desk is lent: the answer, and the three parts that a call may write
pub one_answer_one_desk : {o o' v : Outcome Desk} → o ≡ v → o' ≡ v
    → (o.answer ≡ o'.answer) × (o.desk.send ≡ o'.desk.send) × (o.desk.receive ≡ o'.desk.receive) × (o.desk.pool ≡ o'.desk.pool)
one_answer_one_desk e f =
    (one_outcome (λ o. o.answer) e f, one_outcome (λ o. o.desk.send) e f, one_outcome (λ o. o.desk.receive) e f, one_outcome (λ o. o.desk.pool) e f)
