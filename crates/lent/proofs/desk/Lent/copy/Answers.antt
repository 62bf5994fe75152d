-- The counter's place, a count of slots, and where the change lies.
use Rattle.std.proofs.Common.{rules}
use native.Mathlib.Omega.{arith}
use mathlib.Core.Path.{◌≡◌, ap}
use Rattle.std.specs.Prelude.{◌≤◌}
use Rattle.model.specs.declared.Posted.TheVariants.{Copy}
use Rattle.model.specs.Tables.{Empties}
use Rattle.model.proofs.EmptySlots.{at_most_all}
use Rattle.lent.proofs.PassedLaws.{in_send, cell_small}
use Rattle.lent.proofs.desk.Lent.copy.Goals as goal

pub bounds-self-inside-at : goal.bounds-self-inside-at
bounds-self-inside-at g c = in_send c.self.view_is c.in_ok-empties.ensures.passed c.args.from c.args.pointer (search rules) (search rules) c.place_of-at.ensures

pub overflow_cast-found : goal.overflow_cast-found
overflow_cast-found g c =
    let i = c.self.inside in
    let few : g.P.Slots.pool.slots i.pool ≤ 1024 = (let h = c.in_ok-empties.ensures.passed.few_slots in rw (← c.self.view_is) at h) in
    let m = at_most_all (g.P.Slots.pool.slots i.pool) (g.P.Slots.pool.empty i.pool) in
    let found = ap (λ (e : Empties). e.count) c.search-found.ensures.found in
    rw found (omega (arith, m, few))

pub returns-clause-placed : goal.returns-clause-placed
returns-clause-placed g c =
    let k = c.in_ok-empties.ensures.passed in
    let s = in_send c.self.view_is k c.args.from c.args.pointer (search rules) (search rules) c.place_of-at.ensures in
    let b = cell_small c.self.view_is k g.met.C.Cell.lawful c.args.from c.args.pointer (search rules) (search rules) c.cell_in-cell.ensures in
    let posted : c.telling.result.posted ≡ Copy c.args.from c.args.to c.args.pointer = λ w. (c.telling.ensures w).posted in
    record {
      few_sites = k.few_sites;
      few_pointers = k.few_pointers;
      a_site = search rules;
      a_pointer = search rules;
      in_send = rw (← c.self.view_is) s;
      receive_fits = k.receive_fits;
      pool_fits = k.pool_fits;
      in_pool = search rules;
      bit = b;
      inside = rw posted (search rules, search rules, search rules);
    }
