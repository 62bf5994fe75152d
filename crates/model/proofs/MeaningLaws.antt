-- Each write of a lawful layout, on what the memory means.
use Prim.Native.Nat.{ℕ, ◌+◌, ◌-◌, ◌<◌}
use mathlib.Core.Path.{◌≡◌, refl, sym, ap, ◌∙◌, fun_ext}
use mathlib.Core.Bool.{Bool, true, false, ◌&&◌, cond}
use native.Mathlib.Decide.{ℕ_discrete}
use native.Mathlib.Omega.{arith}
use lib.Dec.{ltb, eqb}
use borrow.Author.Tests.{ne_eqb, ltb-true, lt-ltb}
use Rattle.moreau.specs.StateSpace.{Msg, COPY, DEC, INC_DEC, BagOf, Config, ◌∪◌, ◌∖◌, initial}
use Rattle.moreau.specs.Transformers.{assign, send_T◌≔◌, rec_T◌≔◌, post, unpost}
use Rattle.moreau.proofs.Tables.{assign_here, assign_site, assign_pointer}
use Rattle.model.specs.declared.Posted.{Posted}
use Rattle.model.specs.declared.Posted.TheVariants.{Copy, Dec as Decr, IncDec, Nothing}
use Rattle.model.specs.Refusals.{◌when◌}
use Rattle.model.specs.Questions.{total}
use Rattle.model.specs.Layout.{Layout}
use Rattle.model.specs.Laws.{Frame, with_slot, Reads, Laws}
use Rattle.model.specs.Meaning.{meant, within, config_of, meaning}
use Rattle.model.proofs.PoolLaws.{total_same, total_of_zeros, term_in_total, total_with_slot}

-- ---- tables
-- tables that agree inside mean the same
within_same : {A : Type 0} (S G : ℕ) (f g outside : ℕ → ℕ → A) → ((s p : ℕ) → s < S → p < G → f s p ≡ g s p) → within S G f outside ≡ within S G g outside
unfolding within
within_same {A} S G f g outside h = fun_ext (λ s. fun_ext (λ p. go s p (ltb s S) (ltb p G) refl refl))
  where
    go : (s p : ℕ) (b c : Bool) → ltb s S ≡ b → ltb p G ≡ c → cond {A = A} (b && c) (f s p) (outside s p) ≡ cond (b && c) (g s p) (outside s p)
    go s p true true e q = h s p (ltb-true s S e) (ltb-true p G q)
    go s p true false e q = refl
    go s p false c e q = refl

pub within_inside : {A : Type 0} (S G : ℕ) (f outside : ℕ → ℕ → A) (s p : ℕ) → s < S → p < G → within S G f outside s p ≡ f s p
unfolding within
within_inside S G f outside s p ls lp = rw (lt-ltb s S ls, lt-ltb p G lp)

-- a cell that is changed inside a table is an assignment, whatever is read off a cell
within_at : {A : Type 0} (S G : ℕ) (f g outside : ℕ → ℕ → A) (s p : ℕ) → f s p ≡ g s p → within S G f outside s p ≡ within S G g outside s p
unfolding within
within_at S G f g outside s p e = rw e

within_changed : {A : Type 0} (read : ℕ → A) (S G : ℕ) (table : ℕ → ℕ → ℕ) (outside : ℕ → ℕ → A) (s p n : ℕ) → s < S → p < G
    → within S G (λ t q. read (assign table s p n t q)) outside ≡ assign (within S G (λ t q. read (table t q)) outside) s p (read n)
within_changed {A} read S G table outside s p n ls lp = fun_ext (λ t. fun_ext (λ q. go t q (ℕ_discrete s t) (ℕ_discrete p q)))
  where
    go : (t q : ℕ) → Dec (s ≡ t) → Dec (p ≡ q)
        → within S G (λ t q. read (assign table s p n t q)) outside t q ≡ assign (within S G (λ t q. read (table t q)) outside) s p (read n) t q
    go t q (yes e) (yes f) =
        rw (← e, ← f)
        (within_inside S G (λ t q. read (assign table s p n t q)) outside s p ls lp ∙ ap read (assign_here table s p n) ∙ sym (assign_here (within S G (λ t q. read (table t q)) outside) s p (read n)))
    go t q (yes e) (no apart) =
        within_at S G (λ t q. read (assign table s p n t q)) (λ t q. read (table t q)) outside t q (ap read (assign_pointer table s p n t q apart)) ∙ sym (assign_pointer (within S G (λ t q. read (table t q)) outside) s p (read n) t q apart)
    go t q (no apart) b =
        within_at S G (λ t q. read (assign table s p n t q)) (λ t q. read (table t q)) outside t q (ap read (assign_site table s p n t q apart)) ∙ sym (assign_site (within S G (λ t q. read (table t q)) outside) s p (read n) t q apart)

eqb_swapped : (a b : ℕ) → eqb a b ≡ eqb b a
eqb_swapped a b = go (ℕ_discrete a b)
  where
    go : Dec (a ≡ b) → eqb a b ≡ eqb b a
    go (yes e) = rw e
    go (no apart) = rw (ne_eqb a b apart, ne_eqb b a (λ e. apart (sym e)))

-- ---- a slot's message, put into a configuration and taken out of it
abbrev pub posted : Posted → Config → Config
posted (Copy from to p) D = post (COPY from to p) D
posted (Decr from to p) D = post (DEC from to p) D
posted (IncDec from to third p) D = post (INC_DEC from to p third) D
posted Nothing D = D

abbrev pub taken : Posted → Config → Config
taken (Copy from to p) D = unpost (COPY from to p) D
taken (Decr from to p) D = unpost (DEC from to p) D
taken (IncDec from to third p) D = unpost (INC_DEC from to p third) D
taken Nothing D = D

-- a configuration with another pool
abbrev with_pool : Config → BagOf Msg → Config
with_pool D M = record { sites = D.sites; pointers = D.pointers; owner = D.owner; send = D.send; rec = D.rec; pool = M }

posted_pool : (m : Posted) (D : Config) → with_pool D (D.pool ∪ meant m) ≡ posted m D
unfolding meant
posted_pool (Copy a b p) D = refl
posted_pool (Decr a b p) D = refl
posted_pool (IncDec a b c p) D = refl
posted_pool Nothing D = ap (with_pool D) (fun_ext (λ x. omega arith))

taken_pool : (m : Posted) (D : Config) → with_pool D (D.pool ∖ meant m) ≡ taken m D
unfolding meant
taken_pool (Copy a b p) D = refl
taken_pool (Decr a b p) D = refl
taken_pool (IncDec a b c p) D = refl
taken_pool Nothing D = ap (with_pool D) (fun_ext (λ x. omega arith))

-- ---- what memory means that reads as these tables
module _ {D : Type 0} (L : Layout D) where
  open L use {sites, pointers, owner, counter, cell, slots, message, shaped, owned, cleared, set_counter, set_cell, handled}

  abbrev read_as : D → (ℕ → ℕ → ℕ) → (ℕ → ℕ → ℕ) → (ℕ → Posted) → Config
  read_as d counters cells messages = config_of (sites d) (pointers d) (owner d) (slots d) counters cells messages

  reads_mean : (d e : D) {counters cells : ℕ → ℕ → ℕ} {messages : ℕ → Posted} → Reads L d e counters cells messages → meaning L e ≡ read_as d counters cells messages
  unfolding config_of
  reads_mean d e {counters} {cells} {messages} r =
      ap (λ (f : Frame). config_of f.sites f.pointers f.owner f.slots (counter e) (cell e) (message e)) r.same
      ∙ (λ w. record {
        sites = sites d;
        pointers = pointers d;
        owner = owner d;
        send = within_same (sites d) (pointers d) (counter e) counters (λ s p. 0) r.as_counters w;
        rec = within_same (sites d) (pointers d) (λ s p. eqb (cell e s p) 1) (λ s p. eqb (cells s p) 1) (λ s p. eqb (owner d p) s) (λ s p ls lp. ap (λ n. eqb n 1) (r.as_cells s p ls lp)) w;
        pool = λ m. total_same (slots d) (λ i. meant (message e i) m) (λ i. meant (messages i) m) (λ i li. ap (λ x. meant x m) (r.as_messages i li)) w;
      })

  module _ (W : Laws L) where
    -- an opening makes the initial configuration
    pub opening_means : (d : D) → shaped d ≡ true → owned d ≡ true → meaning L (cleared d) ≡ initial (sites d) (pointers d) (owner d)
    unfolding config_of within meant
    opening_means d e o =
        reads_mean d (cleared d) (W.clears d e o)
        ∙ (λ w. record {
          sites = sites d;
          pointers = pointers d;
          owner = owner d;
          send = λ s p. either (ltb s (sites d) && ltb p (pointers d)) w;
          rec = λ s p. owns s (owner d p) (ltb s (sites d) && ltb p (pointers d)) w;
          pool = λ m. total_of_zeros (slots d) (λ i. meant Nothing m) (λ i li. refl) w;
        })
      where
        either : (b : Bool) → ◌≡◌ {A = ℕ} (cond b 0 0) 0
        either true = refl
        either false = refl

        bit : (b : Bool) → eqb (1 when b) 1 ≡ b
        bit true = refl
        bit false = refl

        owns : (s o : ℕ) (b : Bool) → cond b (eqb (1 when eqb s o) 1) (eqb o s) ≡ eqb o s
        owns s o true = bit (eqb s o) ∙ eqb_swapped s o
        owns s o false = refl

  -- ---- a counter, a cell, a slot changed in what is read
  module _ (d : D) (counters cells : ℕ → ℕ → ℕ) (messages : ℕ → Posted) where
    counters_mean : (s p n : ℕ) → s < sites d → p < pointers d → read_as d (assign counters s p n) cells messages ≡ (send_T (s, p) ≔ n) (read_as d counters cells messages)
    unfolding config_of
    counters_mean s p n ls lp w = record {
      sites = sites d;
      pointers = pointers d;
      owner = owner d;
      send = within_changed (λ x. x) (sites d) (pointers d) counters (λ s p. 0) s p n ls lp w;
      rec = (read_as d counters cells messages).rec;
      pool = (read_as d counters cells messages).pool;
    }

    cells_mean : (s p n : ℕ) → s < sites d → p < pointers d → read_as d counters (assign cells s p n) messages ≡ (rec_T (s, p) ≔ eqb n 1) (read_as d counters cells messages)
    unfolding config_of
    cells_mean s p n ls lp w = record {
      sites = sites d;
      pointers = pointers d;
      owner = owner d;
      send = (read_as d counters cells messages).send;
      rec = within_changed (λ x. eqb x 1) (sites d) (pointers d) cells (λ s p. eqb (owner d p) s) s p n ls lp w;
      pool = (read_as d counters cells messages).pool;
    }

    slots_mean : (i : ℕ) (m : Posted) → i < slots d → read_as d counters cells (with_slot messages i m) ≡ posted m (taken (messages i) (read_as d counters cells messages))
    unfolding config_of
    slots_mean i m li =
        ap (with_pool (read_as d counters cells messages)) (fun_ext (λ x. exchanged x))
        ∙ ap (λ (C : Config). with_pool C (C.pool ∪ meant m)) (taken_pool (messages i) (read_as d counters cells messages))
        ∙ posted_pool m (taken (messages i) (read_as d counters cells messages))
      where
        exchanged : (x : Msg) → total (slots d) (λ j. meant (with_slot messages i m j) x) ≡ total (slots d) (λ j. meant (messages j) x) - meant (messages i) x + meant m x
        exchanged x =
            let here = term_in_total (slots d) (λ j. meant (messages j) x) i li in
            omega (arith, total_with_slot (λ y. meant y x) messages i m (slots d) li)

  -- ---- memory that reads as before but for one counter and one slot, one cell and one slot, or all three
  module _ (d e : D) (s p : ℕ) (ls : s < sites d) (lp : p < pointers d) (i : ℕ) (li : i < slots d) (m : Posted) where
    pub counter_and_slot_mean : (n : ℕ) → Reads L d e (assign (counter d) s p n) (cell d) (with_slot (message d) i m)
        → meaning L e ≡ posted m (taken (message d i) ((send_T (s, p) ≔ n) (meaning L d)))
    counter_and_slot_mean n r =
        reads_mean d e r
        ∙ slots_mean d (assign (counter d) s p n) (cell d) (message d) i m li
        ∙ ap (λ (C : Config). posted m (taken (message d i) C)) (counters_mean d (counter d) (cell d) (message d) s p n ls lp)

    pub cell_and_slot_mean : (c : ℕ) → Reads L d e (counter d) (assign (cell d) s p c) (with_slot (message d) i m)
        → meaning L e ≡ posted m (taken (message d i) ((rec_T (s, p) ≔ eqb c 1) (meaning L d)))
    cell_and_slot_mean c r =
        reads_mean d e r
        ∙ slots_mean d (counter d) (assign (cell d) s p c) (message d) i m li
        ∙ ap (λ (C : Config). posted m (taken (message d i) C)) (cells_mean d (counter d) (cell d) (message d) s p c ls lp)

    pub all_three_mean : (n c : ℕ) → Reads L d e (assign (counter d) s p n) (assign (cell d) s p c) (with_slot (message d) i m)
        → meaning L e ≡ posted m (taken (message d i) ((rec_T (s, p) ≔ eqb c 1) ((send_T (s, p) ≔ n) (meaning L d))))
    all_three_mean n c r =
        reads_mean d e r
        ∙ slots_mean d (assign (counter d) s p n) (assign (cell d) s p c) (message d) i m li
        ∙ ap (λ (C : Config). posted m (taken (message d i) C))
        (cells_mean d (assign (counter d) s p n) (cell d) (message d) s p c ls lp
        ∙ ap (rec_T (s, p) ≔ eqb c 1) (counters_mean d (counter d) (cell d) (message d) s p n ls lp))
