use Rattle.kp_client_laws.proofs.EndingLemmas.{was_closed}
use Rattle.kp_client_laws.proofs.ending.a_service_is_done_where_nobody_can_send.Goals as goal

pub returns : goal.returns
returns c = was_closed
