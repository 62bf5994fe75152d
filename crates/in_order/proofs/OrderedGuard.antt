-- In order, a DEC that 21 lets pass passes the weak guard: so the machine's invariant stands on every reached desk.
use Prim.Native.Nat.{ℕ, ◌≤◌, ◌<◌}
use mathlib.Core.Path.{◌≡◌, refl, ap, ◌∙◌, subst}
use mathlib.Core.Logic.{◌≢◌}
use native.Mathlib.Omega.{arith}
use lib.ListN.{length}
use Rattle.moreau.specs.StateSpace.{DEC}
use Rattle.moreau.specs.Transitions.{WeakGuard}
use Rattle.moreau.proofs.Reached.{standing_lasts}
use Rattle.model.specs.declared.Posted.{Posted}
use Rattle.model.specs.declared.Posted.TheVariants.{Dec as Decr}
use Rattle.model.specs.Messages.{is_nothing}
use Rattle.model.specs.Questions.{total}
use Rattle.model.specs.Calls.{lent_refusal}
use Rattle.model.specs.Survey.{decs, inc_decs, share_plus, share_minus}
use Rattle.model.specs.Meaning.{meant, config_of}
use Rattle.model.specs.Demands.{Reached}
use Rattle.model.proofs.ShareLaws.{plus_is_X, minus_is_Y}
use Rattle.model.proofs.ReceiveTransition.{in_the_pool}
use Rattle.model.proofs.ReachedLaws.{Stands, GuardedAt, reached_means}
use Rattle.in_order.specs.Ordered.{OrderedDesk, ordered}
use Rattle.model.proofs.PoolLaws.{total_le}
use Rattle.in_order.proofs.StampLaws.{late, late_on, late_le}
use Rattle.in_order.proofs.LinkLaws.{all_three, counted_on_link}
use Rattle.in_order.proofs.Channels.{room}
use Rattle.in_order.proofs.OrderedLaws.{ordered_laws}
use Rattle.in_order.proofs.OrderedHistory.{InOrder, oldest_passes, in_order_lem}

-- of all messages, from stamp 0 on
all_late : (n : ℕ) (stamp w : ℕ → ℕ) → (total n w ≤ total n (λ i. late 0 (stamp i) (w i))) × (total n (λ i. late 0 (stamp i) (w i)) ≤ total n w)
all_late n stamp w = (
  total_le n w (λ i. late 0 (stamp i) (w i)) (λ i l. omega (arith, late_on 0 (stamp i) (w i) (omega arith))),
  total_le n (λ i. late 0 (stamp i) (w i)) w (λ i l. late_le 0 (stamp i) (w i)),
)

-- a DEC to the owner that 21 lets pass finds a share above 0
share_above : (d : OrderedDesk) → InOrder d → lent_refusal ordered d ≡ 0 → (slot a p : ℕ) → slot < ordered.slots d → a < d.S → p < length d.owners → a ≢ ordered.owner d p
    → ordered.message d slot ≡ Decr a (ordered.owner d p) p → ordered.early d slot ≡ 0 → share_minus ordered d a p < share_plus ordered d a p
unfolding share_plus share_minus
share_above d i good slot a p l la lp apart m in_time =
    let o = ordered.owner d p in
    let n = ordered.slots d in
    let f : ℕ → Posted = ordered.message d in
    let one : decs a o p (f slot) ≡ 1 = ap (decs a o p) m ∙ all_three a o p a o p refl refl refl in
    let first = oldest_passes d i good slot l (ap is_nothing m) in_time a o (omega (arith, one, counted_on_link a o p (f slot))) in
    omega (
      arith,
      room i.channels (ordered.cell d a p) a o p (i.tails a p la lp apart) slot l first one 0 (omega arith),
      (all_late n i.history.stamp (λ j. inc_decs a o p (f j))).0,
      (all_late n i.history.stamp (λ j. decs a o p (f j))).1,
    )

-- A DEC that 21 lets pass passes the weak guard.
pub guarded : (d : OrderedDesk) → Reached ordered d → Stands ordered d → (slot : ℕ) → GuardedAt ordered WeakGuard d slot
unfolding config_of meant
guarded d r s slot a b p l m in_time own =
    let shape = s.there.well_formed.shape (DEC a b p) (in_the_pool ordered ordered_laws d slot (DEC a b p) l (ap meant m)) in
    let lp : p < length d.owners = shape.0 in
    let la : a < d.S = shape.1 in
    omega (
      arith,
      share_above d (in_order_lem r) s.good slot a p l la lp (subst (λ o. a ≢ o) own shape.3) (subst (λ o. ordered.message d slot ≡ Decr a o p) own m) in_time,
      plus_is_X ordered ordered_laws d s.good a p la lp,
      minus_is_Y ordered ordered_laws d s.good a p la lp,
    )

-- On every reached desk the machine's invariant stands.
pub stands : {d : OrderedDesk} → Reached ordered d → Stands ordered d
stands = reached_means ordered ordered_laws standing_lasts guarded
