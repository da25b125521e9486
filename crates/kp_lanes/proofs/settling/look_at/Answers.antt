use Rattle.std.proofs.Common.{◌<◌, [], length, ap, arith}
use Rattle.kp_lanes.specs.Entries.{items_of}
use Rattle.kp_lanes.specs.Lane.{LaneId}
use Rattle.kp_lanes.specs.Port.{port_id, passed, taken, told, asked_at}
use Rattle.kp_lanes.specs.Sender.{finished_number, finished_id, all_entered, all_accepted, all_got}
use Rattle.kp_lanes.specs.Settling.{port_rings, finished_rings}
use Rattle.kp_lanes.proofs.EachLemmas.{here, kept}
use Rattle.kp_lanes.proofs.settling.look_at.Goals as goal

pub returns-clause-ports : goal.returns-clause-ports
returns-clause-ports c =
    let ps = c.args.ports.now.items in let at = c.index_mut.ensures.value in let same = c.look.ensures.port in record {
      rings = kept port_rings ps c.args.i _ c.look.new.self at (λ k. (same.0 k, same.1 k));
      ids = λ g. kept (port_id g) ps c.args.i _ c.look.new.self at (λ k. record { gate = g.gate; limits = g.limits; items = same.0 k; reports = same.1 k });
      passed = kept passed ps c.args.i _ c.look.new.self at same.2;
      taken = kept taken ps c.args.i _ c.look.new.self at (ap items_of same.2);
      told = kept told ps c.args.i _ c.look.new.self at same.3;
      asked = kept asked_at ps c.args.i _ c.look.new.self at same.4;
    }

pub returns-clause-finished : goal.returns-clause-finished
returns-clause-finished c =
    let fs = c.args.finished.now.items in let at = c.index_mut-2.ensures.value in let same = c.look.ensures.finished in record {
      numbers = kept finished_number fs c.args.j _ c.look.new.finished at same.0;
      ids = kept finished_id fs c.args.j _ c.look.new.finished at same.1;
      rings = kept finished_rings fs c.args.j _ c.look.new.finished at (ap (λ (i : LaneId). (i.items, i.reports)) same.1);
      entered = kept all_entered fs c.args.j _ c.look.new.finished at same.2;
      accepted = kept all_accepted fs c.args.j _ c.look.new.finished at (ap items_of same.2);
      got = kept all_got fs c.args.j _ c.look.new.finished at same.3;
    }

pub returns-clause-items : goal.returns-clause-items
returns-clause-items c =
    let ps = c.args.ports.now.items in let fs = c.args.finished.now.items in
    let near : c.args.i < length ps = omega arith in let there : c.args.j < length fs = omega arith in
    let a = ap length (here all_accepted fs c.args.j _ [] there c.index_mut-2.ensures.value) in let t = ap length (here taken ps c.args.i _ [] near c.index_mut.ensures.value) in
    let few = c.look.ensures.items in omega arith

pub returns-clause-reports : goal.returns-clause-reports
returns-clause-reports c =
    let ps = c.args.ports.now.items in let fs = c.args.finished.now.items in
    let near : c.args.i < length ps = omega arith in let there : c.args.j < length fs = omega arith in
    let g = ap length (here all_got fs c.args.j _ [] there c.index_mut-2.ensures.value) in let o = ap length (here told ps c.args.i _ [] near c.index_mut.ensures.value) in
    let few = c.look.ensures.reports in omega arith
