-- No two results meet the promise of a test, or of what a receive decides, whatever stands for a refusal there.
use Rattle.std.proofs.Common.{◌≡◌, ℕ, Bool, sym, ap}
use Rattle.std.specs.Prelude.{Result, Ok, Err, IfErr, cond, ⊤}
use Rattle.std.specs.Result.{result_map_both}
use Rattle.model.specs.declared.Posted.{Posted}
use Rattle.model.specs.Refusals.{◌when◌}
use Rattle.model.specs.Messages.{Effect, decided}
use Rattle.model.proofs.OneOutcome.{one_answer}
use Rattle.rules.specs.declared.effect.Becomes.{Becomes}
use Rattle.rules.specs.Turned.{Numbering, number_by, effect_by}

-- one effect: refused with one number, which is not 0, or the same is left
same_effect : {E : Type 0} (number : Numbering E) (counter cell : ℕ) (r q : Result Becomes E) → effect_by number counter cell r ≡ effect_by number counter cell q
    → IfErr r (λ refusal. ¬ number refusal ≡ 0) → IfErr q (λ refusal. ¬ number refusal ≡ 0) → result_map_both (λ e. e) number r ≡ result_map_both (λ e. e) number q
same_effect number counter cell (Ok a) (Ok b) e m k = let left : Effect → Becomes = λ t. record { counter = t.counter; cell = t.cell; posted = t.posted } in ap Ok (ap left e)
same_effect number counter cell (Ok a) (Err q) e m k = absurd (k (sym (ap (λ (t : Effect). t.number) e)))
same_effect number counter cell (Err r) (Ok b) e m k = absurd (m (ap (λ (t : Effect). t.number) e))
same_effect number counter cell (Err r) (Err q) e m k = ap Err (ap (λ (t : Effect). t.number) e)

module _ {E : Type 0} (number : Numbering E) where
  module _ (refusal : E) (test : Bool) where
    -- what `refusal::when` promises
    abbrev pub WhenPromise : Result ⊤ E → Type 0
    WhenPromise r = (number_by number r ≡ number refusal when test) × (r ≡ cond test (Err refusal) (Ok tt))

    pub no_two_tests : {r q : Result ⊤ E} → WhenPromise r → WhenPromise q → r ≡ q
    no_two_tests e f = one_answer e.1 f.1

  module _ (m : Posted) (owner cell counter : ℕ) (early : Result ⊤ E) where
    -- what `effect::decide` promises, of a refusal by its number
    abbrev pub DecidePromise : Result Becomes E → Type 0
    DecidePromise r = (effect_by number counter cell r ≡ decided m owner cell counter (number_by number early)) × IfErr r (λ refusal. ¬ number refusal ≡ 0)

    pub no_two_decided : (r q : Result Becomes E) → DecidePromise r → DecidePromise q → result_map_both (λ e. e) number r ≡ result_map_both (λ e. e) number q
    no_two_decided r q e f = same_effect number counter cell r q (one_answer e.0 f.0) e.1 f.1
