use Rattle.std.proofs.Common.{◌≡◌, ◌<◌, ◌≤◌, ◌+◌, length, sym, ap, subst, arith}
use Rattle.kp_engine.specs.Exchange.{senders_of}
use Rattle.kp_engine.specs.Steps.{AppendsFrom}
use Rattle.kp_engine.proofs.TakingLemmas.{enough_taken, found_none, last_taken, none_taken, one_taken, only_last, only_none}
use Rattle.kp_engine.proofs.exchange.Exchange.append_taken.Goals as goal

pub loop-init : goal.loop-init
loop-init c = none_taken c.args.sender c.args.self.now c.requires.free

pub take-requires : goal.take-requires
take-requires c = omega (arith, c.requires.place, c.loop.invariant.only.lanes.senders)

pub append-requires-clause-its : goal.append-requires-clause-its
append-requires-clause-its c = c.in-Some.ensures.takes.1

pub append-requires-clause-place : goal.append-requires-clause-place
append-requires-clause-place c = omega (arith, c.requires.place, c.loop.invariant.only.lanes.senders, ap length c.take.ensures.only.items)

pub append-requires-clause-may : goal.append-requires-clause-may
append-requires-clause-may c = c.in-Some.ensures.takes.2

pub returns-in-None-clause-appends : goal.returns-in-None-clause-appends
returns-in-None-clause-appends c =
    let few : c.loop.counter ≤ 64 = omega arith in
    found_none c.args.sender c.loop.counter c.args.self.now c.loop.self c.take.new.self c.loop.invariant few c.requires.free c.in-None.ensures.takes c.take.ensures.only

pub returns-in-None-clause-only : goal.returns-in-None-clause-only
returns-in-None-clause-only c = only_none c.args.sender c.loop.counter c.args.self.now c.loop.self c.take.new.self c.loop.invariant c.take.ensures.only

pub returns-in-Err-clause-appends : goal.returns-in-Err-clause-appends
returns-in-Err-clause-appends c =
    let few : c.loop.counter + 1 ≤ 64 = omega arith in
    let near : c.args.sender < senders_of c.take.new.self = omega (arith, c.requires.place, c.loop.invariant.only.lanes.senders, ap length c.take.ensures.only.items) in
    subst (λ r. AppendsFrom c.args.sender c.args.self.now r c.append.new.self) (sym c.ended_by.ensures)
    (last_taken c.args.sender c.loop.counter c.in-Some.item c.args.self.now c.loop.self c.take.new.self c.append.new.self c.loop.invariant c.in-Some.ensures.takes c.take.ensures.only c.in-Err.fault near c.requires.free few c.in-Err.ensures)

pub returns-in-Err-clause-only : goal.returns-in-Err-clause-only
returns-in-Err-clause-only c =
    only_last c.args.sender c.loop.counter c.in-Some.item c.args.self.now c.loop.self c.take.new.self c.append.new.self c.loop.invariant c.in-Some.ensures.takes c.take.ensures.only c.append.result c.append.ensures

pub loop-preserved : goal.loop-preserved
loop-preserved c =
    one_taken c.args.sender c.loop.counter c.in-Some.item c.args.self.now c.loop.self c.take.new.self c.append.new.self c.loop.invariant c.in-Some.ensures.takes c.take.ensures.only c.in-Ok.ensures

pub returns-clause-appends : goal.returns-clause-appends
returns-clause-appends c =
    let whole : c.loop.counter ≡ 64 = omega arith in
    enough_taken c.args.sender c.loop.counter c.args.self.now c.loop.self c.loop.invariant whole c.requires.free

pub returns-clause-only : goal.returns-clause-only
returns-clause-only c = c.loop.invariant.only
