-- The writes of an accepted receive, on what the memory means.
use Prim.Native.Nat.{ℕ}
use mathlib.Core.Path.{◌≡◌}
use lib.Dec.{eqb}
use Rattle.moreau.specs.StateSpace.{Config}
use Rattle.moreau.specs.Transformers.{send_T◌≔◌, rec_T◌≔◌}
use Rattle.model.specs.declared.Posted.{Posted}
use Rattle.model.specs.Messages.{receiver, pointer_of, counter_after, cell_after, reply}
use Rattle.model.specs.Layout.{Layout}
use Rattle.model.specs.Calls.{received}
use Rattle.model.specs.Laws.{Laws}
use Rattle.model.specs.Meaning.{meaning}
use Rattle.model.proofs.MeaningLaws.{posted, taken, all_three_mean}
use Rattle.model.proofs.KeptLaws.{Kept, kept_by}
use Rattle.model.proofs.Accepted.{Received}
use Rattle.model.proofs.ReplyLaws.{inside_there}
use Rattle.model.proofs.ReadsLaws.{received_reads}

module _ {D : Type 0} (L : Layout D) (W : Laws L) where
  open L use {sites, pointers, owner, counter, cell, message}

  -- the five writes of a receive, for a message x in the slot
  abbrev pub handled_as : D → Posted → Config
  handled_as d x =
      let a = receiver x in
      let p = pointer_of x in
      posted (reply x (cell d a p) (owner d p))
      (taken x ((rec_T (a, p) ≔ eqb (cell_after x (cell d a p)) 1) ((send_T (a, p) ≔ counter_after x (counter d a p)) (meaning L d))))

  module _ (d : D) (slot : ℕ) (c : Received L W d slot) where
    pub receive_kept : Kept L d (received L d slot).desk
    receive_kept = kept_by L (received_reads L W d slot c)

    pub receive_means : meaning L (received L d slot).desk ≡ handled_as d (message d slot)
    receive_means =
        let x = message d slot in
        let there = inside_there (sites d) (pointers d) x c.used (W.inside d c.good slot c.in_pool) in
        all_three_mean L d (received L d slot).desk (receiver x) (pointer_of x) there.0 there.1 slot c.in_pool _ _ _ (received_reads L W d slot c)
