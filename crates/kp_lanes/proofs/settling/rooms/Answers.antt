use Rattle.std.proofs.Common.{◌+◌, ◌<◌, ◌≤◌, [], length, map, get_or, ap, refl, arith}
use Rattle.std.specs.Prelude.{vec_capacity}
use Rattle.kp_lanes.specs.Port.{taken, told}
use Rattle.kp_lanes.specs.Sender.{all_accepted, all_got}
use Rattle.kp_lanes.proofs.SettlingLemmas.{place, more_rooms, all_nil, ports_more, finished_more}
use Rattle.kp_lanes.proofs.settling.rooms.Goals as goal

pub loop-j-init : goal.loop-j-init
loop-j-init c = let made = c.in_ok-settled.ensures in let long = c.len.ensures in record {
  ports = record { rings = refl; ids = λ g. refl; passed = refl; taken = refl; told = refl; asked = refl };
  finished = record { numbers = refl; ids = refl; rings = refl; entered = refl; accepted = refl; got = refl };
  rooms = record {
    wide = (omega arith, omega arith);
    empty = λ i. (all_nil _ made.2 i, all_nil _ made.3 i);
    items = λ j below. absurd (omega arith);
    reports = λ j below. absurd (omega arith);
  };
}

pub look_at-items-requires-clause-port : goal.look_at-items-requires-clause-port
look_at-items-requires-clause-port c =
    let inv = c.loop-j.invariant in let there : c.loop-j.j < length c.args.finished.now.items = omega arith in
    let at = place c.args.ports.now.items c.loop-j.ports.items c.args.finished.now.items c.loop-j.finished.items c.loop-j.j c.index.result.now inv.ports.rings inv.finished.numbers inv.finished.rings c.requires.placed there c.index.ensures in
    let near = at.1 in omega arith

pub look_at-items-requires-clause-meet : goal.look_at-items-requires-clause-meet
look_at-items-requires-clause-meet c =
    let inv = c.loop-j.invariant in let there : c.loop-j.j < length c.args.finished.now.items = omega arith in
    let at = place c.args.ports.now.items c.loop-j.ports.items c.args.finished.now.items c.loop-j.finished.items c.loop-j.j c.index.result.now inv.ports.rings inv.finished.numbers inv.finished.rings c.requires.placed there c.index.ensures in
    at.3

pub index_mut-requires : goal.index_mut-requires
index_mut-requires c =
    let inv = c.loop-j.invariant in let there : c.loop-j.j < length c.args.finished.now.items = omega arith in
    let at = place c.args.ports.now.items c.loop-j.ports.items c.args.finished.now.items c.loop-j.finished.items c.loop-j.j c.index.result.now inv.ports.rings inv.finished.numbers inv.finished.rings c.requires.placed there c.index.ensures in
    let near = at.2 in let wide = inv.rooms.wide.0 in omega arith

pub index_mut-requires-in-loop-j : goal.index_mut-requires-in-loop-j
index_mut-requires-in-loop-j c =
    let inv = c.loop-j.invariant in let there : c.loop-j.j < length c.args.finished.now.items = omega arith in
    let at = place c.args.ports.now.items c.loop-j.ports.items c.args.finished.now.items c.loop-j.finished.items c.loop-j.j c.index.result.now inv.ports.rings inv.finished.numbers inv.finished.rings c.requires.placed there c.index.ensures in
    let near = at.2 in let wide = inv.rooms.wide.1 in omega arith

pub loop-j-preserved : goal.loop-j-preserved
loop-j-preserved c =
    let inv = c.loop-j.invariant in let there : c.loop-j.j < length c.args.finished.now.items = omega arith in
    let ps = c.args.ports.now.items in let fs = c.args.finished.now.items in let j = c.loop-j.j in let n = c.index.result.now.outbox.sender in
    let at = place ps c.loop-j.ports.items fs c.loop-j.finished.items j c.index.result.now inv.ports.rings inv.finished.numbers inv.finished.rings c.requires.placed there c.index.ensures in
    let look = c.look_at-items.ensures in let v = c.in_ok-settled-2.ensures in let w = c.in_ok-settled-3.ensures in
    let a = ap (λ l. length (get_or l j [])) inv.finished.accepted in let t = ap (λ l. length (get_or l n [])) inv.ports.taken in let items = look.items in
    let few : length (get_or (map all_accepted fs) j []) ≤ length (get_or (map taken ps) n []) + c.look_at-items.result.0 = omega arith in
    let o = ap (λ l. length (get_or l n [])) inv.ports.told in let g = ap (λ l. length (get_or l j [])) inv.finished.got in let reports = look.reports in
    let few_reports : length (get_or (map told ps) n []) ≤ length (get_or (map all_got fs) j []) + c.look_at-items.result.1 = omega arith in
    let room : c.look_at-items.result.0 ≤ vec_capacity c.in_ok-settled-2.field-0 = v.capacity in let room_reports : c.look_at-items.result.1 ≤ vec_capacity c.in_ok-settled-3.field-0 = w.capacity in record {
      ports = ports_more look.ports inv.ports;
      finished = finished_more look.finished inv.finished;
      rooms = more_rooms ps fs c.loop-j.settled _ j n c.in_ok-settled-2.field-0 c.in_ok-settled-3.field-0 inv.rooms c.requires.differ there at.0 at.2 refl refl v.items w.items (omega arith) (omega arith);
    }
