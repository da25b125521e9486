use Rattle.std.proofs.Common.{length, ap, subst, arith}
use Rattle.std.specs.Prelude.{Option}
use Rattle.kp_rules.specs.Records.{Core}
use Rattle.kp_rules.specs.declared.outcome.Report.{Report}
use Rattle.kp_engine.specs.Agreement.{waiting_of}
use Rattle.kp_engine.specs.Steps.{FetchesOne}
use Rattle.kp_engine.proofs.SendLemmas.{all_sent, last_held, none_sent, one_sent, only_core_more, only_more, until_sent}
use Rattle.kp_engine.proofs.exchange.Exchange.send_fetched.Goals as goal

pub loop-refused-init : goal.loop-refused-init
loop-refused-init c = none_sent c.args.sender c.args.self.now c.requires.free

pub fetch-requires : goal.fetch-requires
fetch-requires c = omega (arith, c.requires.place, c.loop-refused.invariant.only.lanes.senders)

pub returns-in-Err-clause-sends : goal.returns-in-Err-clause-sends
returns-in-Err-clause-sends c = until_sent c.args.sender c.args.self.now c.loop-refused.self c.fetch.new.self c.loop-refused.invariant c.requires.free c.in-Err.ensures.err c.fetch.ensures.same

pub returns-in-Err-clause-only : goal.returns-in-Err-clause-only
returns-in-Err-clause-only c = only_core_more c.args.sender c.args.self.now c.loop-refused.self c.fetch.new.self c.loop-refused.invariant c.fetch.ensures.same c.fetch.ensures.others

pub returns-in-None-clause-sends : goal.returns-in-None-clause-sends
returns-in-None-clause-sends c =
    let found = subst (λ (o : Option Report). FetchesOne c.args.sender c.loop-refused.self o c.fetch.new.self) c.in-None.is c.in-Ok.ensures.ok in
    all_sent c.args.sender c.args.self.now c.loop-refused.self c.fetch.new.self c.loop-refused.invariant c.requires.free found c.fetch.ensures.same

pub returns-in-None-clause-only : goal.returns-in-None-clause-only
returns-in-None-clause-only c = only_core_more c.args.sender c.args.self.now c.loop-refused.self c.fetch.new.self c.loop-refused.invariant c.fetch.ensures.same c.fetch.ensures.others

pub hand-requires-clause-its : goal.hand-requires-clause-its
hand-requires-clause-its c =
    let found = subst (λ (o : Option Report). FetchesOne c.args.sender c.loop-refused.self o c.fetch.new.self) c.in-Some.is c.in-Ok.ensures.ok in found.1

pub hand-requires-clause-place : goal.hand-requires-clause-place
hand-requires-clause-place c = omega (arith, c.requires.place, c.loop-refused.invariant.only.lanes.senders, ap length c.fetch.ensures.same.items)

pub returns-then-not-hand-clause-sends : goal.returns-then-not-hand-clause-sends
returns-then-not-hand-clause-sends c =
    let found = subst (λ (o : Option Report). FetchesOne c.args.sender c.loop-refused.self o c.fetch.new.self) c.in-Some.is c.in-Ok.ensures.ok in
    last_held c.args.sender c.in-Some.report c.args.self.now c.loop-refused.self c.fetch.new.self c.hand.new.self c.loop-refused.invariant found c.fetch.ensures.same c.fetch.ensures.others c.hand.ensures.only
    c.requires.free c.if-not-hand.ensures.hands

pub returns-then-not-hand-clause-only : goal.returns-then-not-hand-clause-only
returns-then-not-hand-clause-only c =
    let found = subst (λ (o : Option Report). FetchesOne c.args.sender c.loop-refused.self o c.fetch.new.self) c.in-Some.is c.in-Ok.ensures.ok in
    only_more c.args.sender c.in-Some.report c.args.self.now c.loop-refused.self c.fetch.new.self c.hand.new.self c.loop-refused.invariant found c.fetch.ensures.same c.fetch.ensures.others c.hand.ensures.only

pub loop-refused-preserved : goal.loop-refused-preserved
loop-refused-preserved c =
    let found = subst (λ (o : Option Report). FetchesOne c.args.sender c.loop-refused.self o c.fetch.new.self) c.in-Some.is c.in-Ok.ensures.ok in
    one_sent c.args.sender c.in-Some.report c.args.self.now c.loop-refused.self c.fetch.new.self c.hand.new.self c.loop-refused.invariant found c.fetch.ensures.same c.fetch.ensures.others c.hand.ensures.only c.if-not-hand.ensures.hands

pub loop-refused-smaller : goal.loop-refused-smaller
loop-refused-smaller c =
    let found = subst (λ (o : Option Report). FetchesOne c.args.sender c.loop-refused.self o c.fetch.new.self) c.in-Some.is c.in-Ok.ensures.ok in
    omega (arith, ap length found.2, ap (λ (s : Core). length (waiting_of s c.args.sender)) c.hand.ensures.only.core)
