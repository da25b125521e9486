use Rattle.kp_rules.proofs.FencingLemmas.{fenced_by}
use Rattle.kp_rules.proofs.telling_laws.only_late_or_rejected_batches_fence.Goals as goal

pub returns : goal.returns
returns c = fenced_by
