use Rattle.kp_client_laws.proofs.SentLemmas.{were_sent}
use Rattle.kp_client_laws.proofs.laws.unsent_is_never_sent.Goals as goal

pub returns : goal.returns
returns c = were_sent
