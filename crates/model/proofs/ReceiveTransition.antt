-- An accepted receive is RECEIVE of the published machine.
use Prim.Native.Nat.{ℕ, ◌+◌, ◌-◌, ◌<◌}
use mathlib.Core.Path.{◌≡◌, refl, sym, ap, ◌∙◌}
use mathlib.Core.Logic.{◌≢◌}
use mathlib.Core.Bool.{true, false}
use native.Mathlib.Decide.{ℕ_discrete}
use native.Mathlib.Omega.{arith}
use lib.Dec.{eqb}
use borrow.Author.Tests.{eq-eqb, ne_eqb, eqb-false}
use Rattle.moreau.specs.StateSpace.{Msg, Msg-discrete, COPY, DEC, INC_DEC, BagOf, ⟅◌⟆, Config, ◌∈◌}
use Rattle.moreau.specs.Transformers.{◌provided◌, send_T◌≔◌, rec_T◌≔◌, post, unpost, MayReceive, RECEIVE}
use Rattle.moreau.specs.Transitions.{Guard}
use Rattle.moreau.proofs.Bags.{one_same, one_other}
use Rattle.model.specs.declared.Posted.{Posted}
use Rattle.model.specs.declared.Posted.TheVariants.{Copy, Dec as Decr, IncDec, Nothing}
use Rattle.model.specs.Messages.{is_nothing, receiver, pointer_of, receive_refusal, reply}
use Rattle.model.specs.Layout.{Layout}
use Rattle.model.specs.Calls.{receive_number, received}
use Rattle.model.specs.Laws.{Inside, Laws}
use Rattle.model.specs.Meaning.{meant, config_of, meaning}
use Rattle.model.specs.Demands.{Receives}
use Rattle.model.proofs.TestLaws.{true_not_false, when_not}
use Rattle.model.proofs.PoolLaws.{term_in_total}
use Rattle.model.proofs.MeaningLaws.{posted}
use Rattle.model.proofs.KeptLaws.{Kept, sent, holds, same_send, same_rec}
use Rattle.model.proofs.Accepted.{Received, receive_accepted}
use Rattle.model.proofs.ReplyLaws.{reply_held, reply_home, reply_away}
use Rattle.model.proofs.ReceiveWrites.{handled_as, receive_kept, receive_means}

-- a bag of one message is of no other
pub one_bag : (m n : Msg) → ⟅ m ⟆ ≡ ⟅ n ⟆ → m ≡ n
one_bag m n e = go (Msg-discrete ℕ_discrete m n)
  where
    go : Dec (m ≡ n) → m ≡ n
    go (yes q) = q
    go (no apart) = absurd (omega (arith, ap (λ (M : BagOf Msg). M n) e, one_other m n apart, one_same n))

-- the slot whose bag is one DEC holds that DEC
pub dec_stands : (x : Posted) (a b p : ℕ) → meant x ≡ ⟅ DEC a b p ⟆ → x ≡ Decr a b p
unfolding meant
dec_stands (Copy x y q) a b p e = let f = one_bag (COPY x y q) (DEC a b p) e in let z : ◌≡◌ {A = ℕ} 0 1 = cc in absurd (omega arith)
dec_stands (Decr x y q) a b p e = let f = one_bag (DEC x y q) (DEC a b p) e in cc
dec_stands (IncDec x y z q) a b p e = let f = one_bag (INC_DEC x y q z) (DEC a b p) e in let z : ◌≡◌ {A = ℕ} 0 1 = cc in absurd (omega arith)
dec_stands Nothing a b p e = absurd (omega (arith, ap (λ (M : BagOf Msg). M (DEC a b p)) e, one_same (DEC a b p)))

-- ---- a COPY in Figure 9, by what its receiver holds and who sent it
receive_held : (C : Config) (a b p : ℕ) → C.rec b p ≡ true → RECEIVE (COPY a b p) C ≡ post (DEC b a p) C
unfolding ◌provided◌
receive_held C a b p e = rw e

receive_home : (C : Config) (a b p : ℕ) → C.rec b p ≡ false → a ≡ C.owner p → RECEIVE (COPY a b p) C ≡ (rec_T (b, p) ≔ true) C
unfolding ◌provided◌
receive_home C a b p e q = rw (e, eq-eqb a (C.owner p) q)

receive_away : (C : Config) (a b p : ℕ) → C.rec b p ≡ false → a ≢ C.owner p → RECEIVE (COPY a b p) C ≡ post (INC_DEC b (C.owner p) p a) ((rec_T (b, p) ≔ true) C)
unfolding ◌provided◌
receive_away C a b p e apart = rw (e, ne_eqb a (C.owner p) apart)

module _ {D : Type 0} (L : Layout D) (W : Laws L) (d : D) where
  open L use {sites, pointers, owner, counter, cell, slots, message}

  abbrev C : Config
  C = meaning L d

  owner_meant : (p : ℕ) → C.owner p ≡ owner d p
  unfolding config_of
  owner_meant p = refl

  copy_handled : (a b p : ℕ) → b < sites d → p < pointers d → handled_as L W d (Copy a b p) ≡ RECEIVE (COPY a b p) (unpost (COPY a b p) C)
  copy_handled a b p lb lp =
      ap (λ (E : Config). posted (reply (Copy a b p) (cell d b p) (owner d p)) (unpost (COPY a b p) ((rec_T (b, p) ≔ true) E))) (same_send C b p (counter d b p) (sent L d b p lb lp))
      ∙ go (ℕ_discrete (cell d b p) 1) (ℕ_discrete a (owner d p))
    where
      go : Dec (cell d b p ≡ 1) → Dec (a ≡ owner d p) → posted (reply (Copy a b p) (cell d b p) (owner d p)) (unpost (COPY a b p) ((rec_T (b, p) ≔ true) C)) ≡ RECEIVE (COPY a b p) (unpost (COPY a b p) C)
      go (yes held) _ =
          let h : C.rec b p ≡ true = holds L d b p lb lp ∙ eq-eqb _ _ held in
          ap (λ (x : Posted). posted x (unpost (COPY a b p) ((rec_T (b, p) ≔ true) C))) (reply_held a b p (cell d b p) (owner d p) held)
          ∙ ap (λ (E : Config). post (DEC b a p) (unpost (COPY a b p) E)) (same_rec C b p true h)
          ∙ sym (receive_held (unpost (COPY a b p) C) a b p h)
      go (no free) (yes home) =
          let h : C.rec b p ≡ false = holds L d b p lb lp ∙ ne_eqb _ _ free in
          ap (λ (x : Posted). posted x (unpost (COPY a b p) ((rec_T (b, p) ≔ true) C))) (reply_home a b p (cell d b p) (owner d p) free home)
          ∙ sym (receive_home (unpost (COPY a b p) C) a b p h (home ∙ sym (owner_meant p)))
      go (no free) (no away) =
          let h : C.rec b p ≡ false = holds L d b p lb lp ∙ ne_eqb _ _ free in
          ap (λ (x : Posted). posted x (unpost (COPY a b p) ((rec_T (b, p) ≔ true) C))) (reply_away a b p (cell d b p) (owner d p) free away)
          ∙ ap (λ (o : ℕ). post (INC_DEC b o p a) (unpost (COPY a b p) ((rec_T (b, p) ≔ true) C))) (sym (owner_meant p))
          ∙ sym (receive_away (unpost (COPY a b p) C) a b p h (λ q. away (q ∙ owner_meant p)))

  dec_handled : (a b p : ℕ) → b < sites d → p < pointers d → handled_as L W d (Decr a b p) ≡ RECEIVE (DEC a b p) (unpost (DEC a b p) C)
  dec_handled a b p lb lp =
      ap (λ (E : Config). unpost (DEC a b p) E) (same_rec ((send_T (b, p) ≔ counter d b p - 1) C) b p (eqb (cell d b p) 1) (holds L d b p lb lp))
      ∙ ap (λ (v : ℕ). unpost (DEC a b p) ((send_T (b, p) ≔ v - 1) C)) (sym (sent L d b p lb lp))

  inc_dec_handled : (a b c p : ℕ) → b < sites d → p < pointers d → handled_as L W d (IncDec a b c p) ≡ RECEIVE (INC_DEC a b p c) (unpost (INC_DEC a b p c) C)
  inc_dec_handled a b c p lb lp =
      ap (λ (E : Config). post (DEC b c p) (unpost (INC_DEC a b p c) E)) (same_rec ((send_T (b, p) ≔ counter d b p + 1) C) b p (eqb (cell d b p) 1) (holds L d b p lb lp))
      ∙ ap (λ (v : ℕ). post (DEC b c p) (unpost (INC_DEC a b p c) ((send_T (b, p) ≔ v + 1) C))) (sym (sent L d b p lb lp))

  -- a message of a slot is in transit
  pub in_the_pool : (slot : ℕ) (m : Msg) → slot < slots d → meant (message d slot) ≡ ⟅ m ⟆ → m ∈ C.pool
  unfolding config_of
  in_the_pool slot m l e =
      let here : meant (message d slot) m ≡ 1 = ap (λ (M : BagOf Msg). M m) e ∙ one_same m in
      omega (arith, term_in_total (slots d) (λ i. meant (message d i) m) slot l)

  -- an accepted receive is RECEIVE of the message that stands in the slot, where that message passes the guard
  pub receive_is_RECEIVE : (May : Guard) (slot : ℕ) → receive_number L d slot ≡ 0 → ((a b p : ℕ) → slot < slots d → message d slot ≡ Decr a b p → L.early d slot ≡ 0 → May C a b p)
      → Receives L May d (received L d slot).desk slot × Kept L d (received L d slot).desk
  unfolding meant
  receive_is_RECEIVE May slot e passes = (go (message d slot) refl c.used (W.inside d c.good slot c.in_pool) c.own, receive_kept L W d slot c)
    where
      c : Received L W d slot
      c = receive_accepted L W d slot e

      made : (m : Msg) (x : Posted) → message d slot ≡ x → meant x ≡ ⟅ m ⟆ → MayReceive m → handled_as L W d x ≡ RECEIVE m (unpost m C) → Receives L May d (received L d slot).desk slot
      made m x q s may h = record {
        m = m;
        stands = ap meant q ∙ s;
        in_transit = in_the_pool slot m c.in_pool (ap meant q ∙ s);
        guard = λ a b p f. passes a b p c.in_pool (dec_stands (message d slot) a b p (ap meant q ∙ s ∙ ap ⟅◌⟆ f)) c.in_time;
        may = may;
        after = receive_means L W d slot c ∙ ap (handled_as L W d) q ∙ h;
      }

      go : (x : Posted) → message d slot ≡ x → is_nothing x ≡ false → Inside (sites d) (pointers d) x → receive_refusal x (counter d (receiver x) (pointer_of x)) ≡ 0 → Receives L May d (received L d slot).desk slot
      go (Copy a b p) q f w own = made (COPY a b p) (Copy a b p) q refl (eqb-false a b (when_not 3 (eqb a b) own)) (copy_handled a b p w.1 w.2)
      go (Decr a b p) q f w own = made (DEC a b p) (Decr a b p) q refl tt (dec_handled a b p w.1 w.2)
      go (IncDec a b c p) q f w own = made (INC_DEC a b p c) (IncDec a b c p) q refl tt (inc_dec_handled a b c p w.1 w.3)
      go Nothing q f w own = true_not_false f
