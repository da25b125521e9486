use Rattle.kp_world.proofs.StandingLemmas.{each_delivery_has_its_offset}
use Rattle.kp_world.proofs.broker_laws.each_delivery_has_its_offset.Goals as goal

pub returns : goal.returns
returns c = each_delivery_has_its_offset
