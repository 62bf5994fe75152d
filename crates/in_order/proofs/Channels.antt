-- Links that keep their order: ghost numbers that never wrap, and what one message for another in a slot does to them.
use Prim.Native.Nat.{ℕ, suc, ◌+◌, ◌%◌, ◌≤◌, ◌<◌}
use mathlib.Core.Path.{◌≡◌, refl, sym, ap, ap₂, ◌∙◌, subst}
use mathlib.Core.Logic.{◌≢◌}
use mathlib.Core.Bool.{cond}
use native.Mathlib.Decide.{ℕ_discrete, dec_lt}
use native.Mathlib.Omega.{arith}
use lib.Dec.{eqb}
use borrow.Author.Tests.{eq-eqb, ne_eqb}
use Rattle.moreau.specs.Counts.{◌if◌is◌}
use Rattle.moreau.proofs.Sums.{if_same, if_other, if_le}
use Rattle.model.specs.declared.Posted.{Posted}
use Rattle.model.specs.Messages.{sender, receiver}
use Rattle.model.specs.Questions.{total}
use Rattle.model.specs.Laws.{with_slot}
use Rattle.model.specs.Survey.{copies, decs, inc_decs}
use Rattle.model.proofs.PlaceLaws.{changed_slot, other_slot}
use Rattle.model.proofs.PoolLaws.{total_of_zeros, term_in_total, total_changed, total_le, total_add}
use Rattle.model.proofs.QuestionLaws.{total_most}
use Rattle.in_order.specs.InOrder.{on_link}
use Rattle.in_order.proofs.StampLaws.{from, from_on, from_off, from_most, advance, late, late_on, late_off, late_le, one_turn, if_moved}
use Rattle.in_order.proofs.LinkLaws.{on_link_most, ends, counted_on_link, Balanced}

-- how many messages of each pair were ever posted and received, and the number of each slot's message, none of them wrapped
pub record History : Type 0 where
  pub sent : ℕ → ℕ → ℕ
  pub taken : ℕ → ℕ → ℕ
  pub stamp : ℕ → ℕ

-- m for x in slot i: x is received, m is posted
abbrev pub onward : History → ℕ → Posted → Posted → History
onward h i x m = record {
  sent = λ a b. h.sent a b + on_link a b m;
  taken = λ a b. h.taken a b + on_link a b x;
  stamp = λ j. cond (eqb j i) (h.sent (sender m) (receiver m)) (h.stamp j);
}

pub record Channels (n : ℕ) (messages : ℕ → Posted) (h : History) : Type 0 where
  -- each number from taken up to sent is carried by one message of the pair, and no other number by any
  pub once : (a b k : ℕ) → total n (λ i. on_link a b (messages i) if h.stamp i is k) + from (h.sent a b) k ≡ from (h.taken a b) k
  pub many : (a b : ℕ) → h.taken a b + total n (λ i. on_link a b (messages i)) ≡ h.sent a b

-- INC_DECs and DECs from a to o for p that are stamped t or later; COPYs from o to a for p, of any stamp
abbrev pub waiting : ℕ → (ℕ → Posted) → History → ℕ → ℕ → ℕ → ℕ → ℕ
waiting n messages h a o p t = total n (λ j. late t (h.stamp j) (inc_decs a o p (messages j)))

abbrev pub falling : ℕ → (ℕ → Posted) → History → ℕ → ℕ → ℕ → ℕ → ℕ
falling n messages h a o p t = total n (λ j. late t (h.stamp j) (decs a o p (messages j)))

abbrev pub coming : ℕ → (ℕ → Posted) → ℕ → ℕ → ℕ → ℕ
coming n messages a o p = total n (λ j. copies o a p (messages j))

-- the INC_DECs stamped t or later are covered
abbrev pub Tail : ℕ → (ℕ → Posted) → History → ℕ → ℕ → ℕ → ℕ → ℕ → Type 0
Tail n messages h cell a o p t = waiting n messages h a o p t ≤ cell + coming n messages a o p + falling n messages h a o p t

module _ {n : ℕ} {messages : ℕ → Posted} {h : History} (c : Channels n messages h) where
  pub between : (a b j : ℕ) → j < n → 0 < on_link a b (messages j) → (h.taken a b ≤ h.stamp j) × (h.stamp j < h.sent a b)
  between a b j lj on = (low (dec_lt (h.stamp j) (h.taken a b)), high (dec_lt (h.stamp j) (h.sent a b)))
    where
      here : 0 < total n (λ i. on_link a b (messages i) if h.stamp i is h.stamp j)
      here = omega (arith, on, term_in_total n (λ i. on_link a b (messages i) if h.stamp i is h.stamp j) j lj, if_same (on_link a b (messages j)) (h.stamp j))

      low : Dec (h.stamp j < h.taken a b) → h.taken a b ≤ h.stamp j
      low (yes l) = absurd (omega (arith, here, c.once a b (h.stamp j), from_off (h.taken a b) (h.stamp j) l))
      low (no l) = omega arith

      high : Dec (h.stamp j < h.sent a b) → h.stamp j < h.sent a b
      high (yes l) = l
      high (no l) = absurd (omega (arith, here, c.once a b (h.stamp j), from_on (h.sent a b) (h.stamp j) (omega arith), from_most (h.taken a b) (h.stamp j)))

  -- The message that carries its pair's next number, by the remainders, is the oldest of its pair.
  pub oldest_by_number : n ≤ 1024 → (a b j : ℕ) → j < n → 0 < on_link a b (messages j) → h.stamp j % 65536 ≡ h.taken a b % 65536 → h.stamp j ≡ h.taken a b
  oldest_by_number few a b j lj on e =
      let r = between a b j lj on in
      let near : h.stamp j < h.taken a b + 65536 = omega (arith, r.1, c.many a b, total_most (λ i. on_link a b (messages i)) n (λ i. on_link_most a b (messages i))) in
      one_turn (h.taken a b) (h.stamp j) (h.taken a b) r.0 near (omega arith) (omega arith) e

  -- ---- room for a DEC that is the oldest of its pair
  module _ (cell a o p : ℕ) (tails : (t : ℕ) → Tail n messages h cell a o p t) (i : ℕ) (li : i < n) (first : h.stamp i ≡ h.taken a o) (one : decs a o p (messages i) ≡ 1) where
    abbrev first_number : ℕ
    first_number = h.taken a o

    abbrev wait : ℕ → ℕ
    wait j = inc_decs a o p (messages j)

    abbrev dec : ℕ → ℕ
    dec j = decs a o p (messages j)

    abbrev wait_at : ℕ → ℕ
    wait_at j = wait j if h.stamp j is first_number

    abbrev dec_at : ℕ → ℕ
    dec_at j = dec j if h.stamp j is first_number

    -- no INC_DEC shares its stamp
    alone : total n wait_at ≡ 0
    alone = omega (
      arith,
      total_le n (λ j. wait_at j + dec_at j) (λ j. on_link a o (messages j) if h.stamp j is first_number) (λ j lj. pointwise j (ℕ_discrete (h.stamp j) first_number)),
      total_add n wait_at dec_at,
      term_in_total n dec_at i li,
      ap (λ (k : ℕ). dec i if k is first_number) first,
      if_same (dec i) first_number,
      one,
      c.once a o first_number,
      from_on first_number first_number (omega arith),
    )
      where
        pointwise : (j : ℕ) → Dec (h.stamp j ≡ first_number) → wait_at j + dec_at j ≤ (on_link a o (messages j) if h.stamp j is first_number)
        pointwise j (yes e) = rw e (omega (arith, if_same (wait j) first_number, if_same (dec j) first_number, if_same (on_link a o (messages j)) first_number, counted_on_link a o p (messages j)))
        pointwise j (no d) = omega (arith, if_other (wait j) (h.stamp j) first_number d, if_other (dec j) (h.stamp j) first_number d)

    pub room : (t : ℕ) → t ≤ first_number
        → waiting n messages h a o p t + 1
        ≤ cell + coming n messages a o p + falling n messages h a o p t
    room t lt = omega (
      arith,
      tails (suc first_number),
      alone,
      total_le n (λ j. late t (h.stamp j) (wait j)) (λ j. late (suc first_number) (h.stamp j) (wait j) + wait_at j) (λ j lj. waits j lj (dec_lt 0 (wait j))),
      total_add n (λ j. late (suc first_number) (h.stamp j) (wait j)) wait_at,
      total_le n (λ j. late (suc first_number) (h.stamp j) (dec j) + dec_at j) (λ j. late t (h.stamp j) (dec j)) (λ j lj. falls j (dec_lt first_number (h.stamp j)) (ℕ_discrete (h.stamp j) first_number)),
      total_add n (λ j. late (suc first_number) (h.stamp j) (dec j)) dec_at,
      term_in_total n dec_at i li,
      ap (λ (k : ℕ). dec i if k is first_number) first,
      if_same (dec i) first_number,
      one,
    )
      where
        waits : (j : ℕ) → j < n → Dec (0 < wait j)
            → late t (h.stamp j) (wait j) ≤ late (suc first_number) (h.stamp j) (wait j) + wait_at j
        waits j lj (no z) = omega (arith, late_le t (h.stamp j) (wait j))
        waits j lj (yes on) = go (ℕ_discrete (h.stamp j) first_number)
          where
            go : Dec (h.stamp j ≡ first_number) → late t (h.stamp j) (wait j) ≤ late (suc first_number) (h.stamp j) (wait j) + wait_at j
            go (yes e) = omega (arith, late_le t (h.stamp j) (wait j), ap (λ (k : ℕ). wait j if k is first_number) e, if_same (wait j) first_number)
            go (no d) = omega (
              arith,
              late_le t (h.stamp j) (wait j),
              late_on (suc first_number) (h.stamp j) (wait j) (omega (arith, d, (between a o j lj (omega (arith, on, counted_on_link a o p (messages j)))).0)),
            )

        falls : (j : ℕ) → Dec (first_number < h.stamp j) → Dec (h.stamp j ≡ first_number)
            → late (suc first_number) (h.stamp j) (dec j) + dec_at j ≤ late t (h.stamp j) (dec j)
        falls j (yes l) _ = omega (arith, late_le (suc first_number) (h.stamp j) (dec j), late_on t (h.stamp j) (dec j) (omega arith), if_other (dec j) (h.stamp j) first_number (omega arith))
        falls j (no l) (yes e) = omega (arith, late_off (suc first_number) (h.stamp j) (dec j) (omega arith), late_on t (h.stamp j) (dec j) (omega arith), if_le (dec j) (h.stamp j) first_number)
        falls j (no l) (no d) = omega (arith, late_off (suc first_number) (h.stamp j) (dec j) (omega arith), if_other (dec j) (h.stamp j) first_number d)

-- ---- m for the message of slot i, which was the oldest of its pair if it was one
module _ {n : ℕ} {f g : ℕ → Posted} {h : History} (c : Channels n f h) (i : ℕ) (li : i < n) (m : Posted)
    (changed : (j : ℕ) → j < n → g j ≡ with_slot f i m j) (oldest : (a b : ℕ) → 0 < on_link a b (f i) → h.stamp i ≡ h.taken a b) where
  abbrev e : History
  e = onward h i (f i) m

  -- totals of weights of a stamp and a message
  exchanged : (w : ℕ → Posted → ℕ) → total n (λ j. w (e.stamp j) (g j)) + w (h.stamp i) (f i) ≡ total n (λ j. w (h.stamp j) (f j)) + w (h.sent (sender m) (receiver m)) m
  exchanged w =
      total_changed n (λ j. w (h.stamp j) (f j)) (λ j. w (e.stamp j) (g j)) i li (λ j lj apart. ap₂ w (stamp_there j apart) (changed j lj ∙ other_slot f i m j apart))
      ∙ ap (λ (k : ℕ). total n (λ j. w (h.stamp j) (f j)) + k) (ap₂ w stamp_here (changed i li ∙ changed_slot f i m))
    where
      stamp_here : e.stamp i ≡ h.sent (sender m) (receiver m)
      stamp_here = rw (eq-eqb i i refl)

      stamp_there : (j : ℕ) → j ≢ i → e.stamp j ≡ h.stamp j
      stamp_there j apart = rw (ne_eqb j i apart)

  pub still : Channels n g e
  still = record {
    once = λ a b k. omega (
      arith,
      c.once a b k,
      exchanged (λ s x. on_link a b x if s is k),
      if_moved (on_link a b (f i)) (h.stamp i) (h.taken a b) k (oldest a b),
      if_moved (on_link a b m) (h.sent (sender m) (receiver m)) (h.sent a b) k (λ on. let q = ends a b m on in ap₂ h.sent q.0 q.1),
      advance (h.taken a b) (on_link a b (f i)) k (on_link_most a b (f i)),
      advance (h.sent a b) (on_link a b m) k (on_link_most a b m),
    );
    many = λ a b. omega (arith, c.many a b, exchanged (λ s x. on_link a b x));
  }

  -- the tails of a pointer, where the balance is kept
  module _ (cell cell' a o p : ℕ) (tails : (t : ℕ) → Tail n f h cell a o p t) (balanced : Balanced a o p cell cell' (f i) m) (t : ℕ) where
    -- a DEC that goes leaves room
    spare : waiting n f h a o p t + late t (h.stamp i) (decs a o p (f i))
        ≤ cell + coming n f a o p + falling n f h a o p t
    spare = go (dec_lt 0 (decs a o p (f i))) (dec_lt (h.stamp i) t)
      where
        go : Dec (0 < decs a o p (f i)) → Dec (h.stamp i < t)
            → waiting n f h a o p t + late t (h.stamp i) (decs a o p (f i))
            ≤ cell + coming n f a o p + falling n f h a o p t
        go (no z) _ = omega (arith, tails t, late_le t (h.stamp i) (decs a o p (f i)))
        go (yes on) (yes l) = omega (arith, tails t, late_off t (h.stamp i) (decs a o p (f i)) l)
        go (yes on) (no l) =
            let on_it : 0 < on_link a o (f i) = omega (arith, on, counted_on_link a o p (f i)) in
            let one : decs a o p (f i) ≡ 1 = omega (arith, on, counted_on_link a o p (f i), on_link_most a o (f i)) in
            let first = oldest a o on_it in
            omega (arith, room c cell a o p tails i li first one t (omega (arith, first)), late_le t (h.stamp i) (decs a o p (f i)), one)

    pub tail_still : Tail n g e cell' a o p t
    tail_still = go (dec_lt (h.sent a o) t)
      where
        stamped : (w : ℕ) → w ≤ on_link a o m → t ≤ h.sent a o → late t (h.sent (sender m) (receiver m)) w ≡ w
        stamped w l lt = pick (dec_lt 0 w)
          where
            pick : Dec (0 < w) → late t (h.sent (sender m) (receiver m)) w ≡ w
            pick (yes on) = let q = ends a o m (omega arith) in late_on t (h.sent (sender m) (receiver m)) w (subst (λ (s : ℕ). t ≤ s) (sym (ap₂ h.sent q.0 q.1)) lt)
            pick (no z) = omega (arith, late_le t (h.sent (sender m) (receiver m)) w)

        none : h.sent a o < t → (j : ℕ) → j < n → Dec (0 < inc_decs a o p (g j)) → late t (e.stamp j) (inc_decs a o p (g j)) ≡ 0
        none lt j lj (no z) = omega (arith, late_le t (e.stamp j) (inc_decs a o p (g j)))
        none lt j lj (yes on) = late_off t (e.stamp j) (inc_decs a o p (g j)) (omega (arith, (between still a o j lj (omega (arith, on, counted_on_link a o p (g j)))).1, on_link_most a o m))

        go : Dec (h.sent a o < t) → Tail n g e cell' a o p t
        go (yes l) = omega (arith, total_of_zeros n (λ j. late t (e.stamp j) (inc_decs a o p (g j))) (λ j lj. none l j lj (dec_lt 0 (inc_decs a o p (g j)))))
        go (no l) = omega (
          arith,
          spare,
          balanced,
          exchanged (λ s x. late t s (inc_decs a o p x)),
          exchanged (λ s x. late t s (decs a o p x)),
          exchanged (λ s x. copies o a p x),
          stamped (inc_decs a o p m) (omega (arith, counted_on_link a o p m)) (omega arith),
          stamped (decs a o p m) (omega (arith, counted_on_link a o p m)) (omega arith),
        )
