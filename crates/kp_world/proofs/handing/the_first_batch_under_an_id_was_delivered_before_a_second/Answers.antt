use Rattle.kp_world.proofs.KeptLaws.{first_was_delivered}
use Rattle.kp_world.proofs.handing.the_first_batch_under_an_id_was_delivered_before_a_second.Goals as goal

pub returns : goal.returns
returns c = first_was_delivered
