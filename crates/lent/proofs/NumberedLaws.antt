-- A message in a good slot of the in-order desk names a pair of sites that has a next number.
use Rattle.std.specs.Prelude.{ℕ, List, ◌≡◌, ◌<◌, ◌*◌, true, false, eqb, length}
use mathlib.Core.Path.{sym, ◌∙◌}
use borrow.Author.Tests.{eqb-true}
use Rattle.model.specs.declared.Posted.{Posted}
use Rattle.model.specs.Messages.{is_nothing, sender, receiver}
use Rattle.model.specs.Laws.{Inside}
use Rattle.model.specs.Tables.{place, message_at}
use Rattle.model.specs.Flat.{byte_cells}
use Rattle.model.proofs.TestLaws.{and_both}
use Rattle.in_order.specs.Ordered.{NumberedPool, numbered_pool, in_order_slots, OrderedDesk, lent_in_order}
use Rattle.lent.specs.declared.change.Change.{Change}
use Rattle.lent.specs.Desks.{Placed}
use Rattle.in_order.proofs.OrderedLaws.{in_order_slots_lem}
use Rattle.in_order.proofs.PairLaws.{pair_inside}

-- a message in range names a pair
pub posts_pair : (s g : ℕ) (q : NumberedPool) (m : Posted) → in_order_slots.fits s q ≡ true → Inside s g m → is_nothing m ≡ false → place s (sender m) (receiver m) < length q.to_post
posts_pair s g q m fit inside used =
    let both = (and_both _ (eqb (length q.to_receive) (s * s)) fit).0 in
    rw (eqb-true _ _ (and_both _ (eqb (length q.to_post) (s * s)) both).1) (pair_inside s g m used inside)

pub takes_pair : (s g : ℕ) (q : NumberedPool) (m : Posted) → in_order_slots.fits s q ≡ true → Inside s g m → is_nothing m ≡ false → place s (sender m) (receiver m) < length q.to_receive
takes_pair s g q m fit inside used = rw (eqb-true _ _ (and_both _ (eqb (length q.to_receive) (s * s)) fit).1) (pair_inside s g m used inside)

-- and so does that of a good slot
pub due_inside : (s g : ℕ) (q : NumberedPool) (slot : ℕ) → in_order_slots.fits s q ≡ true → in_order_slots.slots_good s g q ≡ true → slot < in_order_slots.slots q → in_order_slots.empty q slot ≡ false
    → place s (sender (in_order_slots.message q slot)) (receiver (in_order_slots.message q slot)) < length q.to_receive
due_inside s g q slot fit good l used =
    takes_pair s g q (in_order_slots.message q slot) fit (in_order_slots_lem.inside s g q good slot l) (sym (in_order_slots_lem.empties s g q good slot l) ∙ used)

-- ---- of a desk that is lent in these parts
module _ {s : ℕ} {owners send receive pool posts takes : List ℕ} {d : OrderedDesk} (e : d ≡ lent_in_order s owners send receive pool posts takes) where
  -- what a change posts
  pub posted_pair : {c : Change} → Placed byte_cells in_order_slots d c → is_nothing c.answer.posted ≡ false → place s (sender c.answer.posted) (receiver c.answer.posted) < length posts
  posted_pair {c} k =
      let f = k.pool_fits in
      let i = k.inside in
      posts_pair s (length owners) (numbered_pool pool posts takes) c.answer.posted (rw e at f) (rw e at i)

  -- what it handles
  pub handled_pair : {c : Change} → Placed byte_cells in_order_slots d c → Inside d.S (length d.owners) (in_order_slots.message d.pool c.slot)
      → is_nothing (message_at 7 pool c.slot) ≡ false → place s (sender (message_at 7 pool c.slot)) (receiver (message_at 7 pool c.slot)) < length takes
  handled_pair {c} k i =
      let f = k.pool_fits in
      takes_pair s (length owners) (numbered_pool pool posts takes) (message_at 7 pool c.slot) (rw e at f) (rw e at i)
