use Rattle.kp_world.proofs.KeptLaws.{is_audited}
use Rattle.kp_world.proofs.handing.an_audit_is_the_runs_of_what_was_handed_over.Goals as goal

pub returns : goal.returns
returns c = is_audited
