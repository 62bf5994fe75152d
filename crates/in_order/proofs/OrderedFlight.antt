-- The messages in flight of a pair carry the numbers from its next to receive up to its next to post, each once.
use Prim.Native.Nat.{ℕ, ◌+◌, ◌-◌, ◌%◌, ◌≤◌, ◌<◌}
use mathlib.Core.Path.{◌≡◌, refl, sym, ap, ap₂, ◌∙◌}
use mathlib.Core.Logic.{◌≢◌}
use mathlib.Core.Bool.{false}
use native.Mathlib.Decide.{ℕ_discrete, dec_lt}
use native.Mathlib.Omega.{arith}
use borrow.Author.Tests.{eq-eqb}
use Rattle.moreau.specs.Counts.{◌if◌is◌}
use Rattle.moreau.proofs.Sums.{if_same, if_other, if_le}
use Rattle.model.specs.declared.Posted.{Posted}
use Rattle.model.specs.declared.Posted.TheVariants.{Copy, Dec as Decr, IncDec, Nothing}
use Rattle.model.specs.Messages.{is_nothing}
use Rattle.model.specs.Questions.{total}
use Rattle.model.specs.Calls.{lent_refusal}
use Rattle.model.specs.Survey.{in_flight}
use Rattle.model.proofs.PoolLaws.{total_same, total_has}
use Rattle.model.proofs.QuestionLaws.{total_most}
use Rattle.in_order.specs.Ordered.{OrderedDesk, ordered}
use Rattle.in_order.specs.InOrder.{number_of, next_to_post, next_to_receive, next_for, on_link}
use Rattle.in_order.proofs.StampLaws.{from_on, from_off, one_turn}
use Rattle.in_order.proofs.LinkLaws.{on_link_most, ends}
use Rattle.in_order.proofs.Channels.{between}
use Rattle.in_order.proofs.OrderedLaws.{ordered_laws}
use Rattle.in_order.proofs.OrderedHistory.{InOrder}
use Rattle.in_order.proofs.OrderedRows.{passes_at_next, next_passes}

pub used_on_link : (a b : ℕ) (m : Posted) → 0 < on_link a b m → is_nothing m ≡ false
used_on_link a b (Copy x y p) on = refl
used_on_link a b (Decr x y p) on = refl
used_on_link a b (IncDec x y z p) on = refl
used_on_link a b Nothing on = absurd (omega arith)

if_there : (w s k : ℕ) → 0 < (w if s is k) → (s ≡ k) × (0 < w)
if_there w s k h = go (ℕ_discrete s k)
  where
    go : Dec (s ≡ k) → (s ≡ k) × (0 < w)
    go (yes e) = (e, omega (arith, if_le w s k))
    go (no d) = absurd (omega (arith, if_other w s k d))

module _ (d : OrderedDesk) (o : InOrder d) (good : lent_refusal ordered d ≡ 0) (a b : ℕ) (la : a < d.S) (lb : b < d.S) where
  -- the messages of the pair, and its next number to receive
  abbrev on : ℕ → ℕ
  on i = on_link a b (ordered.message d i)

  abbrev start : ℕ
  start = next_to_receive d a b

  -- how many messages of the pair are in flight
  abbrev many : ℕ
  many = in_flight ordered d (on_link a b)

  pub few : many ≤ 1024
  few = omega (arith, total_most on (ordered.slots d) (λ i. on_link_most a b (ordered.message d i)), ordered_laws.few_slots d good)

  -- The next number to post is as many on from the next to receive.
  pub numbers_end : next_to_post d a b ≡ (start + many) % 65536
  numbers_end = omega (arith, o.posts a b la lb, o.takes a b la lb, o.channels.many a b)

  -- a message of the pair by its stamp
  by_stamp : (j : ℕ) → j < many → (i : ℕ) → i < ordered.slots d
      → (on i if number_of d i is (start + j) % 65536)
      ≡ (on i if o.history.stamp i is o.history.taken a b + j)
  by_stamp j lj i li = go (dec_lt 0 (on i)) (ℕ_discrete (o.history.stamp i) (o.history.taken a b + j))
    where
      number : 0 < on i → number_of d i ≡ o.history.stamp i % 65536
      number there = o.stamps i li (used_on_link a b (ordered.message d i) there)

      go : Dec (0 < on i) → Dec (o.history.stamp i ≡ o.history.taken a b + j)
          → (on i if number_of d i is (start + j) % 65536) ≡ (on i if o.history.stamp i is o.history.taken a b + j)
      go (no z) _ = omega (arith, if_le (on i) (number_of d i) ((start + j) % 65536), if_le (on i) (o.history.stamp i) (o.history.taken a b + j))
      go (yes there) (yes e) =
          let n : number_of d i ≡ (start + j) % 65536 = omega (arith, number there, o.takes a b la lb, e) in
          rw (n, e) (if_same (on i) _ ∙ sym (if_same (on i) _))
      go (yes there) (no apart) =
          let r = between o.channels a b i li there in
          let n : number_of d i ≢ (start + j) % 65536 = λ q. apart (one_turn (o.history.taken a b) (o.history.stamp i) (o.history.taken a b + j)
          r.0 (omega (arith, r.1, o.channels.many a b, few)) (omega arith) (omega (arith, lj, few)) (omega (arith, number there, o.takes a b la lb, q))) in
          if_other (on i) _ _ n ∙ sym (if_other (on i) _ _ apart)

  -- Each of the numbers from the next to receive on, as many as there are messages, is carried by one message of the pair.
  pub each_number_once : (j : ℕ) → j < many → total (ordered.slots d) (λ i. on i if number_of d i is (start + j) % 65536) ≡ 1
  each_number_once j lj = omega (
    arith,
    total_same (ordered.slots d) (λ i. on i if number_of d i is (start + j) % 65536)
        (λ i. on i if o.history.stamp i is o.history.taken a b + j) (by_stamp j lj),
    o.channels.once a b (o.history.taken a b + j),
    o.channels.many a b,
    from_on (o.history.taken a b) (o.history.taken a b + j) (omega arith),
    from_off (o.history.sent a b) (o.history.taken a b + j) (omega (arith, lj, o.channels.many a b)),
  )

  -- Every message of the pair carries one of them.
  pub every_number_there : (i : ℕ) → i < ordered.slots d → 0 < on i
      → (j : ℕ) × (j < many) × (number_of d i ≡ (start + j) % 65536)
  every_number_there i li there =
      let r = between o.channels a b i li there in
      (o.history.stamp i - o.history.taken a b, omega (arith, r.0, r.1, o.channels.many a b), omega (arith, r.0, o.stamps i li (used_on_link a b (ordered.message d i) there), o.takes a b la lb))

  -- the slot that carries the next number passes
  pub one_passes : 0 < many → (slot : ℕ) × (slot < ordered.slots d) × (0 < on slot) × (ordered.early d slot ≡ 0)
  one_passes some =
      let r = total_has (ordered.slots d) (λ i. on i if number_of d i is (start + 0) % 65536) (omega (arith, each_number_once 0 some)) in
      let t = if_there (on r.0) (number_of d r.0) ((start + 0) % 65536) r.2 in
      let q = ends a b (ordered.message d r.0) t.1 in
      let n : number_of d r.0 ≡ start = omega (arith, t.0, o.takes a b la lb) in
      (r.0, r.1, t.1, rw (eq-eqb (number_of d r.0) (next_for d r.0) (n ∙ sym (ap₂ (next_to_receive d) q.0 q.1))))

  -- one message of the pair passes, and no other
  pub just_one_passes : 0 < many → total (ordered.slots d) (λ i. on i if ordered.early d i is 0) ≡ 1
  just_one_passes some =
      total_same (ordered.slots d) (λ i. on i if ordered.early d i is 0)
      (λ i. on i if number_of d i is (start + 0) % 65536) (λ i li. by_test i (dec_lt 0 (on i)))
      ∙ each_number_once 0 some
    where
      by_test : (i : ℕ) → Dec (0 < on i)
          → (on i if ordered.early d i is 0) ≡ (on i if number_of d i is (start + 0) % 65536)
      by_test i (no z) = omega (arith, if_le (on i) (ordered.early d i) 0, if_le (on i) (number_of d i) ((start + 0) % 65536))
      by_test i (yes there) = go (ℕ_discrete (number_of d i) (next_for d i))
        where
          next : next_for d i ≡ (start + 0) % 65536
          next = let q = ends a b (ordered.message d i) there in ap₂ (next_to_receive d) q.0 q.1 ∙ omega (arith, o.takes a b la lb)

          go : Dec (number_of d i ≡ next_for d i)
              → (on i if ordered.early d i is 0) ≡ (on i if number_of d i is (start + 0) % 65536)
          go (yes e) = ap (λ (k : ℕ). on i if k is 0) (next_passes d i e) ∙ if_same _ 0 ∙ sym (ap (λ (k : ℕ). on i if k is (start + 0) % 65536) (e ∙ next) ∙ if_same _ _)
          go (no apart) = if_other _ (ordered.early d i) 0 (λ z. apart (passes_at_next d i z)) ∙ sym (if_other _ _ _ (λ z. apart (z ∙ sym next)))
