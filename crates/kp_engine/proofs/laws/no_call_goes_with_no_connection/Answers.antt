use Rattle.kp_engine.proofs.AwayLemmas.{none_goes}
use Rattle.kp_engine.proofs.laws.no_call_goes_with_no_connection.Goals as goal

pub returns : goal.returns
returns c = none_goes
