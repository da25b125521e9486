use Rattle.kp_world.proofs.FreshIdLemmas.{goes_on_alone}
use Rattle.kp_world.proofs.broker_laws.the_first_batch_under_an_id_is_alone.Goals as goal

pub returns : goal.returns
returns c = goes_on_alone
