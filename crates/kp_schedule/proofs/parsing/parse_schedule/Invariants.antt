use Rattle.std.proofs.Common.{length}
use Rattle.kp_schedule.proofs.ReadLemmas.{HasRead}
use Rattle.kp_schedule.proofs.parsing.parse_schedule.Given as goal

abbrev pub invariant-loop-rest : goal.invariant-loop-rest
invariant-loop-rest l = HasRead l.text l.rest l.number l.draft

abbrev pub decreases-loop-rest : goal.decreases-loop-rest
decreases-loop-rest l = length l.rest
