use Rattle.kp_client_laws.proofs.OverLemmas.{stands_alone}
use Rattle.kp_client_laws.proofs.laws.calls_may_stand_alone.Goals as goal

pub returns : goal.returns
returns c = stands_alone
