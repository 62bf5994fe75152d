-- Where a `Refusal` stands for a refusal, what is said by numbers of any kind is what is said of refusals by name.
use Rattle.std.proofs.Common.{◌≡◌, ℕ, Result, refl}
use Rattle.model.specs.Answers.{refused}
use Rattle.rules.specs.declared.refusal.Refusal.{Refusal}
use Rattle.rules.specs.declared.answer.Accepted.{Accepted}
use Rattle.rules.specs.declared.effect.Becomes.{Becomes}
use Rattle.rules.specs.Turned.{number_of, number_in, number_by, effect_in, effect_by, told, told_by}

pub number_by_name : {A : Type 0} (r : Result A Refusal) → number_by number_of r ≡ number_in r
number_by_name r = refl

pub effect_by_name : (counter cell : ℕ) (r : Result Becomes Refusal) → effect_by number_of counter cell r ≡ effect_in counter cell r
effect_by_name counter cell r = refl

pub told_by_name : (r : Result Accepted Refusal) → told_by (λ refusal. refused (number_of refusal)) r ≡ told r
told_by_name r = refl
