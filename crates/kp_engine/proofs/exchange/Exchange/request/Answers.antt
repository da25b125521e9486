use Rattle.std.proofs.Common.{Ok, Err, Some, None}
use Rattle.kp_rules.specs.Calls.{Request}
use Rattle.kp_engine.proofs.AgreementLemmas.{agree_on}
use Rattle.kp_engine.proofs.RunLemmas.{runs_one}
use Rattle.kp_engine.proofs.TalkLemmas.{asked_by}
use Rattle.kp_engine.proofs.exchange.Exchange.request.Goals as goal

pub invariant_of-self : goal.invariant_of-self
invariant_of-self c = record {
  agree = agree_on _ _ _ _ _ (Request c.args.node c.args.now c.next_request.result) c.next_request.ensures c.args.self.now.agree;
  nothing_yet = c.args.self.now.nothing_yet;
  room = c.args.self.now.room;
}

pub invariant_of-self-in-Ok-None : goal.invariant_of-self-in-Ok-None
invariant_of-self-in-Ok-None c = record {
  agree = agree_on _ _ _ _ _ (Request c.args.node c.args.now c.next_request.result) c.next_request.ensures c.args.self.now.agree;
  nothing_yet = c.args.self.now.nothing_yet;
  room = c.args.self.now.room;
}

pub invariant_of-self-in-Err : goal.invariant_of-self-in-Err
invariant_of-self-in-Err c = record {
  agree = agree_on _ _ _ _ _ (Request c.args.node c.args.now c.next_request.result) c.next_request.ensures c.args.self.now.agree;
  nothing_yet = c.args.self.now.nothing_yet;
  room = c.args.self.now.room;
}

pub returns-in-Ok-Some-clause-runs : goal.returns-in-Ok-Some-clause-runs
returns-in-Ok-Some-clause-runs c = (
  c.in-Ok-Some.request,
  c.add_request.ensures.frame,
  runs_one c.args.self.now _ (Request c.args.node c.args.now (Ok (Some c.in-Ok-Some.request))) tt (asked_by _ _ _ _ c.in-Ok-Some.field-0 (Some c.in-Ok-Some.request) c.in-Ok-Some.field-0-is c.in-Ok-Some.ensures) c.add_request.ensures.noted,
)

pub returns-in-Ok-None-clause-runs : goal.returns-in-Ok-None-clause-runs
returns-in-Ok-None-clause-runs c = runs_one c.args.self.now _ (Request c.args.node c.args.now (Ok None)) tt (asked_by _ _ _ _ c.in-Ok-None.field-0 None c.in-Ok-None.field-0-is c.in-Ok-None.ensures) c.add.ensures

pub returns-in-Err-clause-runs : goal.returns-in-Err-clause-runs
returns-in-Err-clause-runs c = runs_one c.args.self.now _ (Request c.args.node c.args.now (Err c.in-Err.fault)) tt c.in-Err.ensures c.add-in-Err.ensures
