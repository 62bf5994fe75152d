-- Document 02, Five, over any two lawful layouts: desks that read the same answer the same, call for call, and what they leave reads the same.
use Prim.Native.Nat.{ℕ, zero, suc, ◌+◌, ◌≤◌, ◌<◌}
use mathlib.Core.Path.{◌≡◌, refl, sym, ap, ap₂, ◌∙◌, subst}
use mathlib.Core.Bool.{Bool, true, false, not, ◌&&◌, cond}
use mathlib.Core.List.{List, [], ◌∷◌}
use native.Mathlib.Decide.{ℕ_discrete}
use native.Mathlib.Omega.{arith}
use lib.Dec.{ltb, eqb}
use lib.IntN.{pos}
use borrow.Author.Tests.{eq-eqb, ne_eqb, ltb-true}
use Rattle.model.specs.declared.Posted.{Posted}
use Rattle.model.specs.declared.Posted.TheVariants.{Copy, Dec as Decr, Nothing}
use Rattle.model.specs.Answers.{Answer}
use Rattle.model.specs.declared.Call.{Call}
use Rattle.model.specs.declared.Call.TheVariants.{MakeCopy, Receive, Delete, Ask}
use Rattle.model.specs.Refusals.{◌when◌, ◌or_else◌}
use Rattle.model.specs.Questions.{how_many, lowest, total, up_to}
use Rattle.model.specs.Messages.{receiver, pointer_of, receive_refusal, counter_after, cell_after, reply}
use Rattle.model.specs.Answers.{Outcome, unless, refused, accepted}
use Rattle.model.specs.Layout.{Layout}
use Rattle.model.specs.Calls.{copy_refusal, delete_refusal, lent_refusal, front, lowest_empty, empty_slots, open_refusal, open_desk, copy_number, copied, make_copy, counter_there, cell_there, replied, receive_number, received, receive, delete_number, deleted, delete, ask_number, asked, ask, step}
use Rattle.model.specs.Laws.{Frame, frame, Inside, Laws}
use Rattle.model.specs.Survey.{copies, decs, inc_decs, entered, balance, blank_sheet, in_flight, share_number, share_plus, share_minus, share_of, share, sheet_number, sheet}
use Rattle.model.proofs.TestLaws.{when_not, or_else_none, and_both}
use Rattle.model.proofs.QuestionLaws.{lowest_same}
use Rattle.model.proofs.FrontLaws.{front_passed, both_named}
use Rattle.model.proofs.PoolLaws.{total_same}
use Rattle.model.proofs.OpeningLaws.{opening_passed}
use Rattle.model.proofs.KeptLaws.{kept_by, kept_sites, kept_pointers, kept_slots, kept_inside}
use Rattle.model.proofs.Accepted.{copy_accepted, delete_accepted, receive_accepted}
use Rattle.model.proofs.ReplyLaws.{inside_there, bit_after, reply_inside}
use Rattle.model.proofs.ReadsLaws.{then_counter, then_cell}

-- ---- orders of tests that agree
-- as far as they are asked
first_same : (a b c d : ℕ) → a ≡ b → (a ≡ 0 → c ≡ d) → a or_else c ≡ b or_else d
first_same zero zero c d q h = h refl
first_same zero (suc b) c d q h = absurd (omega arith)
first_same (suc a) zero c d q h = absurd (omega arith)
first_same (suc a) (suc b) c d q h = q

-- a value that is given where the number is 0
given_same : {A : Type 0} (n k : ℕ) (x y z : A) → n ≡ k → (n ≡ 0 → x ≡ y) → cond (eqb n 0) x z ≡ cond (eqb k 0) y z
given_same {A} n k x y z q h = go (ℕ_discrete n 0) ∙ ap (λ (m : ℕ). cond (eqb m 0) y z) q
  where
    go : Dec (n ≡ 0) → cond {A = A} (eqb n 0) x z ≡ cond (eqb n 0) y z
    go (yes e) = rw (eq-eqb n 0 e) (h e)
    go (no d) = rw (ne_eqb n 0 d)

-- tests that agree hold of as many numbers
how_many_same : (n : ℕ) (P Q : ℕ → Bool) → ((i : ℕ) → i < n → P i ≡ Q i) → how_many n P ≡ how_many n Q
unfolding how_many
how_many_same zero P Q h = refl
how_many_same (suc n) P Q h = ap₂ (λ k b. k + cond b 1 0) (how_many_same n P Q (λ i l. h i (omega arith))) (h n (omega arith))

-- ---- a run of calls: what is answered, and the desk after it
unfoldable pub answered : {D : Type 0} → Layout D → D → List Call → List Answer
answered L d [] = []
answered L d (c ∷ cs) = (step L d c).answer ∷ answered L (step L d c).desk cs

unfoldable pub after : {D : Type 0} → Layout D → D → List Call → D
after L d [] = d
after L d (c ∷ cs) = after L (step L d c).desk cs

module _ {D E : Type 0} (L : Layout D) (M : Layout E) where
  -- what is read and tested of d is what is read and tested of e
  pub record ReadAlike (d : D) (e : E) : Type 0 where
    pub same : frame L d ≡ frame M e
    pub counters : (s p : ℕ) → s < L.sites d → p < L.pointers d → L.counter d s p ≡ M.counter e s p
    pub cells : (s p : ℕ) → s < L.sites d → p < L.pointers d → L.cell d s p ≡ M.cell e s p
    pub empties : (i : ℕ) → i < L.slots d → L.empty d i ≡ M.empty e i
    pub messages : (i : ℕ) → i < L.slots d → L.message d i ≡ M.message e i
    pub shapes : L.shaped d ≡ M.shaped e
    pub owners : L.owned d ≡ M.owned e
    pub tables : L.sound d ≡ M.sound e
    pub earlies : (i : ℕ) → i < L.slots d → L.early d i ≡ M.early e i

  -- desks that mean the same, whatever is meant: they read alike, and the same write in both leaves desks that mean the same
  pub record Alike (Same : D → E → Type 0) : Type 0 where
    pub reads : {d : D} {e : E} → Same d e → ReadAlike d e
    pub clears : {d : D} {e : E} → Same d e → L.shaped d ≡ true → L.owned d ≡ true → Same (L.cleared d) (M.cleared e)
    pub sets_counter : {d : D} {e : E} → Same d e → (s p n : ℕ) → lent_refusal L d ≡ 0 → s < L.sites d → p < L.pointers d
        → Same (L.set_counter d s p n) (M.set_counter e s p n)
    pub sets_cell : {d : D} {e : E} → Same d e → (s p n : ℕ) → lent_refusal L d ≡ 0 → s < L.sites d → p < L.pointers d → n ≤ 1
        → Same (L.set_cell d s p n) (M.set_cell e s p n)
    pub posts : {d : D} {e : E} → Same d e → (i : ℕ) (m : Posted) → lent_refusal L d ≡ 0 → i < L.slots d → Inside (L.sites d) (L.pointers d) m
        → Same (L.post d i m) (M.post e i m)
    pub handles : {d : D} {e : E} → Same d e → (i : ℕ) → lent_refusal L d ≡ 0 → i < L.slots d → Same (L.handled d i) (M.handled e i)

  module _ (d : D) (e : E) (r : ReadAlike d e) where
    -- ---- what is read
    lowest_alike : lowest_empty L d ≡ lowest_empty M e
    lowest_alike =
        lowest_same (L.empty d) (M.empty e) 0 (L.slots d) (λ k low l. r.empties k (omega arith))
        ∙ ap (λ (f : Frame). lowest f.slots (M.empty e)) r.same

    empty_alike : empty_slots L d ≡ empty_slots M e
    empty_alike = how_many_same (L.slots d) (L.empty d) (M.empty e) r.empties ∙ ap (λ (f : Frame). how_many f.slots (M.empty e)) r.same

    pub flight_alike : (weight : Posted → ℕ) → in_flight L d weight ≡ in_flight M e weight
    flight_alike weight =
        total_same (L.slots d) (λ i. weight (L.message d i)) (λ i. weight (M.message e i)) (λ i l. ap weight (r.messages i l))
        ∙ ap (λ (f : Frame). total f.slots (λ i. weight (M.message e i))) r.same

    -- ---- 1, 2, 3
    pub lent_alike : lent_refusal L d ≡ lent_refusal M e
    unfolding lent_refusal
    lent_alike i = 1 when not (r.shapes i) or_else 2 when not (r.tables i)

    front_alike : (a b : Bool) → a ≡ b → front L d a ≡ front M e b
    unfolding front
    front_alike a b q i = lent_alike i or_else 3 when not (q i)

    named_alike : (site p : ℕ) → front L d (ltb site (L.sites d) && ltb p (L.pointers d)) ≡ front M e (ltb site (M.sites e) && ltb p (M.pointers e))
    named_alike site p = front_alike _ _ (λ i. ltb site (r.same i).sites && ltb p (r.same i).pointers)

    -- ---- the numbers of the calls
    open_number : open_refusal L d ≡ open_refusal M e
    unfolding open_refusal
    open_number i = 1 when not (r.shapes i) or_else 2 when not (r.owners i)

    copy_number_lem : (from to p : ℕ) → copy_number L d from to p ≡ copy_number M e from to p
    unfolding copy_number
    copy_number_lem from to p =
        first_same _ _ _ _ (front_alike _ _ (λ i. ltb from (r.same i).sites && ltb to (r.same i).sites && ltb p (r.same i).pointers))
        (λ z.
        let n = front_passed L d (ltb from (L.sites d) && ltb to (L.sites d) && ltb p (L.pointers d)) z in
        let a = and_both (ltb from (L.sites d) && ltb to (L.sites d)) (ltb p (L.pointers d)) n.1 in
        let ls = ltb-true _ _ (and_both (ltb from (L.sites d)) (ltb to (L.sites d)) a.0).0 in
        let lp = ltb-true _ _ a.1 in
        λ i. copy_refusal from to ((r.same i).owner p) (r.cells from p ls lp i) (r.counters from p ls lp i) (lowest_alike i) (r.same i).slots)

    delete_number_lem : (site p : ℕ) → delete_number L d site p ≡ delete_number M e site p
    unfolding delete_number
    delete_number_lem site p =
        first_same _ _ _ _ (named_alike site p)
        (λ z.
        let n = both_named L d site p z in
        λ i. delete_refusal site ((r.same i).owner p) (r.cells site p n.a_site n.a_pointer i) (r.counters site p n.a_site n.a_pointer i) (lowest_alike i) (r.same i).slots)

    ask_number_lem : (site p : ℕ) → ask_number L d site p ≡ ask_number M e site p
    unfolding ask_number
    ask_number_lem site p = first_same _ _ _ _ (named_alike site p) (λ z i. 13 when not (eqb site ((r.same i).owner p)))

    share_number_lem : (site p : ℕ) → share_number L d site p ≡ share_number M e site p
    unfolding share_number
    share_number_lem site p = first_same _ _ _ _ (named_alike site p) (λ z i. 11 when eqb site ((r.same i).owner p))

    pub sheet_number_lem : (p : ℕ) → sheet_number L d p ≡ sheet_number M e p
    unfolding sheet_number
    sheet_number_lem p = front_alike _ _ (λ i. ltb p (r.same i).pointers)

    -- ---- the message of a slot, and what it finds at its receiver
    module _ (W : Laws L) (slot : ℕ) (good : lent_refusal L d ≡ 0) (li : slot < L.slots d) (full : L.empty d slot ≡ false) where
      there : (receiver (L.message d slot) < L.sites d) × (pointer_of (L.message d slot) < L.pointers d)
      there = inside_there (L.sites d) (L.pointers d) (L.message d slot) (sym (W.empties d good slot li) ∙ full) (W.inside d good slot li)

      counter_there_lem : counter_there L d slot ≡ counter_there M e slot
      counter_there_lem = r.counters _ _ there.0 there.1 ∙ ap (λ (m : Posted). M.counter e (receiver m) (pointer_of m)) (r.messages slot li)

      cell_there_lem : cell_there L d slot ≡ cell_there M e slot
      cell_there_lem = r.cells _ _ there.0 there.1 ∙ ap (λ (m : Posted). M.cell e (receiver m) (pointer_of m)) (r.messages slot li)

      owner_there : L.owner d (pointer_of (L.message d slot)) ≡ M.owner e (pointer_of (M.message e slot))
      owner_there i = (r.same i).owner (pointer_of (r.messages slot li i))

      replied_alike : replied L d slot ≡ replied M e slot
      replied_alike i = reply (r.messages slot li i) (cell_there_lem i) (owner_there i)

    receive_number_lem : Laws L → (slot : ℕ) → receive_number L d slot ≡ receive_number M e slot
    unfolding receive_number
    receive_number_lem W slot =
        first_same _ _ _ _ (front_alike _ _ (λ i. ltb slot (r.same i).slots))
        (λ z.
        let n = front_passed L d (ltb slot (L.slots d)) z in
        let li = ltb-true _ _ n.1 in
        first_same _ _ _ _ (λ i. 8 when r.empties slot li i)
        (λ y. first_same _ _ _ _ (r.earlies slot li) (λ x i. receive_refusal (r.messages slot li i) (counter_there_lem W slot n.0 li (when_not 7 _ y) i))))

    -- ---- the questions, which write nothing
    plus_alike : (site p : ℕ) → site < L.sites d → p < L.pointers d → share_plus L d site p ≡ share_plus M e site p
    unfolding share_plus
    plus_alike site p ls lp =
        ap (λ (o : ℕ). L.cell d site p + in_flight L d (decs site o p) + in_flight L d (copies o site p)) (λ i. (r.same i).owner p)
        ∙ (λ i. r.cells site p ls lp i + flight_alike (decs site (M.owner e p) p) i + flight_alike (copies (M.owner e p) site p) i)

    minus_alike : (site p : ℕ) → share_minus L d site p ≡ share_minus M e site p
    unfolding share_minus
    minus_alike site p = ap (λ (o : ℕ). in_flight L d (inc_decs site o p)) (λ i. (r.same i).owner p) ∙ flight_alike (inc_decs site (M.owner e p) p)

    -- The shares are the same.
    pub share_alike : (site p : ℕ) → share L d site p ≡ share M e site p
    unfolding share share_number
    share_alike site p i = record {
      number = share_number_lem site p i;
      share =
          given_same (share_number L d site p) (share_number M e site p) (share_of L d site p) (share_of M e site p) (pos 0) (share_number_lem site p)
          (λ z.
          let n = both_named L d site p (or_else_none _ (11 when eqb site (L.owner d p)) z).0 in
          λ j. balance (plus_alike site p n.a_site n.a_pointer j) (minus_alike site p j))
          i;
    }

    -- So are the sheets.
    pub sheet_alike : (p : ℕ) → sheet L d p ≡ sheet M e p
    unfolding sheet
    sheet_alike p =
        given_same (sheet_number L d p) (sheet_number M e p) _ _ blank_sheet (sheet_number_lem p) (λ z i. up_to 3 (λ row. up_to 64 (λ site. flight_alike (entered p (row + 1) site) i)))

  -- ---- the calls
  module _ (W : Laws L) {Same : D → E → Type 0} (A : Alike Same) where
    -- two outcomes: the same answer, and desks that mean the same
    pub record Both (o : Outcome D) (u : Outcome E) : Type 0 where
      pub same_answer : o.answer ≡ u.answer
      pub same_left : Same o.desk u.desk

    unless_both : (n k : ℕ) {d : D} {e : E} {o : Outcome D} {u : Outcome E} → n ≡ k → Same d e → (n ≡ 0 → Both o u) → Both (unless n d o) (unless k e u)
    unless_both zero zero q h f = f refl
    unless_both zero (suc k) q h f = absurd (omega arith)
    unless_both (suc n) zero q h f = absurd (omega arith)
    unless_both (suc n) (suc k) q h f = record { same_answer = ap refused q; same_left = h }

    module _ (d : D) (e : E) (h : Same d e) where
      r : ReadAlike d e
      r = A.reads h

      -- Openings.
      pub open_alike : Both (open_desk L d) (open_desk M e)
      unfolding open_desk
      open_alike = unless_both (open_refusal L d) (open_refusal M e) (open_number d e r) h (λ z.
          let q = opening_passed L d z in
          record { same_answer = refl; same_left = A.clears h q.0 q.1 })

      copy_alike : (from to p : ℕ) → Both (make_copy L d from to p) (make_copy M e from to p)
      unfolding make_copy copied
      copy_alike from to p = unless_both (copy_number L d from to p) (copy_number M e from to p) (copy_number_lem d e r from to p) h (λ z.
          let c = copy_accepted L W d from to p z in
          let n = L.counter d from p + 1 in
          let k = kept_by L (W.sets_counter d from p n c.good c.from_site c.a_pointer) in
          let raised = A.sets_counter h from p n c.good c.from_site c.a_pointer in
          let posted = A.posts raised (lowest_empty L d) (Copy from to p) k.good (kept_slots L k c.room.in_pool) (kept_inside L k (Copy from to p) (c.from_site, c.to_site, c.a_pointer)) in
          record {
            same_answer = λ i. record { number = 0; value = lowest_alike d e r i; empty = empty_alike d e r i; posted = Copy from to p };
            same_left = subst (Same _) (λ i. M.post (M.set_counter e from p (r.counters from p c.from_site c.a_pointer i + 1)) (lowest_alike d e r i) (Copy from to p)) posted;
          })

      delete_alike : (site p : ℕ) → Both (delete L d site p) (delete M e site p)
      unfolding delete deleted
      delete_alike site p = unless_both (delete_number L d site p) (delete_number M e site p) (delete_number_lem d e r site p) h (λ z.
          let c = delete_accepted L W d site p z in
          let m = Decr site (L.owner d p) p in
          let k = kept_by L (W.sets_cell d site p 0 c.good c.a_site c.a_pointer (omega arith)) in
          let lowered = A.sets_cell h site p 0 c.good c.a_site c.a_pointer (omega arith) in
          let posted = A.posts lowered (lowest_empty L d) m k.good (kept_slots L k c.room.in_pool) (kept_inside L k m (c.a_site, W.owner_inside d c.good p c.a_pointer, c.a_pointer)) in
          record {
            same_answer = λ i. record { number = 0; value = lowest_alike d e r i; empty = empty_alike d e r i; posted = Decr site ((r.same i).owner p) p };
            same_left = subst (Same _) (λ i. M.post (M.set_cell e site p 0) (lowest_alike d e r i) (Decr site ((r.same i).owner p) p)) posted;
          })

      receive_alike : (slot : ℕ) → Both (receive L d slot) (receive M e slot)
      unfolding receive received
      receive_alike slot = unless_both (receive_number L d slot) (receive_number M e slot) (receive_number_lem d e r W slot) h (λ z.
          let c = receive_accepted L W d slot z in
          let m = L.message d slot in
          let full = W.empties d c.good slot c.in_pool ∙ c.used in
          let at = there d e r W slot c.good c.in_pool full in
          let counter = counter_there_lem d e r W slot c.good c.in_pool full in
          let cell = cell_there_lem d e r W slot c.good c.in_pool full in
          let reply_there = replied_alike d e r W slot c.good c.in_pool full in
          let bit = bit_after m (cell_there L d slot) (W.cell_bit d c.good (receiver m) (pointer_of m) at.0 at.1) in
          let w0 = W.handles d slot c.good c.in_pool in
          let w1 = then_counter L W w0 (receiver m) (pointer_of m) (counter_after m (counter_there L d slot)) at.0 at.1 in
          let w2 = then_cell L W w1 (receiver m) (pointer_of m) (cell_after m (cell_there L d slot)) at.0 at.1 bit in
          let handled = A.handles h slot c.good c.in_pool in
          let counted = A.sets_counter handled (receiver m) (pointer_of m) (counter_after m (counter_there L d slot)) w0.good (kept_sites L (kept_by L w0) at.0) (kept_pointers L (kept_by L w0) at.1) in
          let marked = A.sets_cell counted (receiver m) (pointer_of m) (cell_after m (cell_there L d slot)) w1.good (kept_sites L (kept_by L w1) at.0) (kept_pointers L (kept_by L w1) at.1) bit in
          let inside = reply_inside (L.sites d) (L.pointers d) m (cell_there L d slot) (L.owner d (pointer_of m)) (W.owner_inside d c.good (pointer_of m) at.1) (W.inside d c.good slot c.in_pool) in
          let posted = A.posts marked slot (replied L d slot) w2.good (kept_slots L (kept_by L w2) c.in_pool) (kept_inside L (kept_by L w2) (replied L d slot) inside) in
          record {
            same_answer = λ i. record { number = 0; value = slot; empty = 0; posted = reply_there i };
            same_left = subst (Same _) (λ i.
                let x = r.messages slot c.in_pool i in
                M.post
                (M.set_cell (M.set_counter (M.handled e slot) (receiver x) (pointer_of x) (counter_after x (counter i))) (receiver x) (pointer_of x) (cell_after x (cell i)))
                slot (reply_there i)) posted;
          })

      ask_alike : (site p : ℕ) → Both (ask L d site p) (ask M e site p)
      unfolding ask asked ask_number
      ask_alike site p = unless_both (ask_number L d site p) (ask_number M e site p) (ask_number_lem d e r site p) h (λ z.
          let n = both_named L d site p (or_else_none _ (13 when not (eqb site (L.owner d p))) z).0 in
          let own = W.owner_inside d n.good p n.a_pointer in
          let counter : L.counter d (L.owner d p) p ≡ M.counter e (M.owner e p) p = r.counters (L.owner d p) p own n.a_pointer ∙ ap (λ (f : Frame). M.counter e (f.owner p) p) r.same in
          record { same_answer = λ i. accepted (1 when eqb (counter i) 0) Nothing; same_left = h })

      -- Every call, with any arguments, accepted or refused.
      pub call_alike : (c : Call) → Both (step L d c) (step M e c)
      unfolding step
      call_alike (MakeCopy from to p) = copy_alike from to p
      call_alike (Receive slot) = receive_alike slot
      call_alike (Delete site p) = delete_alike site p
      call_alike (Ask site p) = ask_alike site p

    -- So any run of calls: the answers are the same, call for call, and what is left means the same.
    pub run_alike : (d : D) (e : E) → Same d e → (cs : List Call) → (answered L d cs ≡ answered M e cs) × Same (after L d cs) (after M e cs)
    unfolding answered after
    run_alike d e h [] = (refl, h)
    run_alike d e h (c ∷ cs) =
        let b = call_alike d e h c in
        let rest = run_alike (step L d c).desk (step M e c).desk b.same_left cs in
        (ap₂ (λ (a : Answer) (later : List Answer). a ∷ later) b.same_answer rest.0, rest.1)
