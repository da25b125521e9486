use Rattle.kp_client.proofs.ServiceLemmas.{unserved_ended}
use Rattle.kp_client.proofs.serving.unserved.Goals as goal

pub returns-clause-ended : goal.returns-clause-ended
returns-clause-ended c = unserved_ended c.args.core c.args.intake _ c.unserved.ensures.unserved
