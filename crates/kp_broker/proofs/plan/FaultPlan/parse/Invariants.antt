use Rattle.std.proofs.Common.{length}
use Rattle.kp_broker.proofs.ReadLemmas.{HasRead}
use Rattle.kp_broker.proofs.plan.FaultPlan.parse.Given as goal

abbrev pub invariant-loop-part : goal.invariant-loop-part
invariant-loop-part l = HasRead l.text (length l.yielded) l.actions.entries
