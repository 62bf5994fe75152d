-- Where the change lies, and what is left is what the message decides.
use mathlib.Core.Path.{◌≡◌, refl, ◌∙◌}
use Rattle.std.proofs.Common.{rules}
use Rattle.std.specs.Prelude.{◌<◌, true, length, get_or}
use Rattle.model.specs.Messages.{cell_after, reply}
use Rattle.model.specs.Tables.{lent, all_below}
use Rattle.model.proofs.ShapeLaws.{byte_below_lem}
use Rattle.model.proofs.ReplyLaws.{bit_after, reply_inside}
use Rattle.model.proofs.ReceiveLaws.{decided_rest, received_by}
use Rattle.rules.specs.Turned.{number_in}
use Rattle.lent.proofs.PassedLaws.{in_send, cell_small}
use Rattle.lent.proofs.desk.Lent.receive.Goals as goal

pub returns-clause-placed : goal.returns-clause-placed
returns-clause-placed g c =
    let k = c.in_ok-m.ensures.passed in
    let i = c.self.inside in
    let n = c.in_ok-m.ensures.known in
    let v = c.self.view_is in
    let a_site : c.receiver-site.result < i.sites = search rules in
    let a_pointer : c.pointer_of-pointer.result < length i.owners.now = search rules in
    let s = in_send v k c.receiver-site.result c.pointer_of-pointer.result a_site a_pointer c.place_of-at.ensures in
    let b = cell_small v k g.met.C.Cell.lawful c.receiver-site.result c.pointer_of-pointer.result a_site a_pointer c.cell_in-cell.ensures in
    let below : all_below i.sites i.owners.now ≡ true = (let h = k.owners_below in rw (← v) at h) in
    let owner = byte_below_lem i.sites i.owners.now c.pointer_of-pointer.result a_pointer below in
    let rest = decided_rest c.in_ok-m.m (get_or i.owners.now c.pointer_of-pointer.result 0) c.cell_in-cell.result (get_or i.send.now c.place_of-at.result 0) (number_in c.early-early.result) c.in_ok-e.ensures.effect (refl {a = 0}) in
    let cell : c.in_ok-e.e.cell ≡ cell_after c.in_ok-m.m c.cell_in-cell.result = λ w. (rest w).cell in
    let posted : c.new.result.posted ≡ reply c.in_ok-m.m c.cell_in-cell.result (get_or i.owners.now c.pointer_of-pointer.result 0) = (λ w. (c.new.ensures w).posted) ∙ (λ w. (rest w).posted) in
    record {
      few_sites = k.few_sites;
      few_pointers = k.few_pointers;
      a_site = rw (← v) a_site;
      a_pointer = rw (← v) a_pointer;
      in_send = rw (← v) s;
      receive_fits = k.receive_fits;
      pool_fits = k.pool_fits;
      in_pool = search rules;
      bit = rw cell (bit_after c.in_ok-m.m c.cell_in-cell.result b);
      inside = rw (posted, ← v) (reply_inside i.sites (length i.owners.now) c.in_ok-m.m c.cell_in-cell.result (get_or i.owners.now c.pointer_of-pointer.result 0) owner (let h = c.in_ok-m.ensures.inside in rw (← v) at h));
    }

pub returns-clause-outcome : goal.returns-clause-outcome
returns-clause-outcome g c =
    let i = c.self.inside in
    let v = c.self.view_is in
    let em : c.in_ok-m.m ≡ g.P.Slots.pool.message i.pool c.args.slot = (let h = c.in_ok-m.ensures.message in rw (← v) at h) in
    rw (← v)
    (received_by g.C.Cell.table g.P.Slots.pool (lent i.sites i.owners.now i.send.now i.receive.now i.pool) c.args.slot em c.receiver-site.ensures c.pointer_of-pointer.ensures c.place_of-at.ensures
    (number_in c.early-early.result) c.cell_in-cell.ensures c.in_ok-e.ensures.effect refl c.new.ensures refl
    (λ w. g.P.Slots.pool.post i.sites (g.P.Slots.pool.handled i.sites i.pool c.args.slot) c.args.slot (c.new.ensures w).posted))
