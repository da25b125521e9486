use Rattle.std.proofs.Common.{Some, None, Ok, Err, [], ◌∷◌, refl}
use Rattle.kp_rules.specs.Calls.{Request}
use Rattle.kp_rules.specs.declared.fault.CoreFault.TheVariants.{OutOfMemory}
use Rattle.kp_engine.specs.Turn.{LacksMemory}
use Rattle.kp_engine.proofs.AgreementLemmas.{none_some}
use Rattle.kp_engine.proofs.RunLemmas.{runs_none, runs_then}
use Rattle.kp_engine.proofs.TalkLemmas.{for_some, went_out, refused_out}
use Rattle.kp_engine.proofs.exchange.Exchange.next_frame.Goals as goal

pub returns-in_default-clause-asks : goal.returns-in_default-clause-asks
returns-in_default-clause-asks c = (None, λ x is. absurd (none_some is), runs_none _ _ refl c.reserve.ensures.same)

pub returns-in-Err-clause-asks : goal.returns-in-Err-clause-asks
returns-in-Err-clause-asks c =
    let asked = went_out c.args.node c.args.now _ _ c.request.result _ _ c.in-Ok-Some.is c.in-Ok-Some.field-0-is c.request.ensures.runs in
    (Some (Ok (Some asked.0)), for_some LacksMemory (Ok (Some asked.0)) tt, runs_then _ _ _ [] (Request c.args.node c.args.now (Ok (Some asked.0)) ∷ []) (runs_none _ _ refl c.reserve.ensures.same) asked.2)

pub returns-in-Err-OutOfMemory-clause-asks : goal.returns-in-Err-OutOfMemory-clause-asks
returns-in-Err-OutOfMemory-clause-asks c =
    let asked = refused_out c.args.node c.args.now _ _ c.request.result _ OutOfMemory c.in-Err-OutOfMemory.is c.in-Err-OutOfMemory.field-0-is c.request.ensures.runs in
    (Some (Err OutOfMemory), for_some LacksMemory (Err OutOfMemory) tt, runs_then _ _ _ [] (Request c.args.node c.args.now (Err OutOfMemory) ∷ []) (runs_none _ _ refl c.reserve.ensures.same) asked)
