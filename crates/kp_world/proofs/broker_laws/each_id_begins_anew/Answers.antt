use Rattle.kp_world.proofs.FreshIdLemmas.{begins_anew}
use Rattle.kp_world.proofs.broker_laws.each_id_begins_anew.Goals as goal

pub returns : goal.returns
returns c = begins_anew
