use Rattle.kp_client_laws.proofs.EndingLemmas.{give_back_alike}
use Rattle.kp_client_laws.proofs.ending.what_is_left_is_one.Goals as goal

pub returns : goal.returns
returns c = give_back_alike
