use Rattle.std.proofs.Common.{rules}
use Rattle.kp_rules.specs.Mismatch.{answers_id}
use Rattle.kp_core.proofs.machine.matching.answers_id.Goals as goal

pub returns-then-response-ne0 : goal.returns-then-response-ne0
unfolding answers_id
returns-then-response-ne0 c = search rules

pub returns-then-response-ge0 : goal.returns-then-response-ge0
unfolding answers_id
returns-then-response-ge0 c = search rules

pub returns-else-response-ge0 : goal.returns-else-response-ge0
unfolding answers_id
returns-else-response-ge0 c = search rules
