use Rattle.kp_polls.proofs.SettledLemmas.{sent_is_offered}
use Rattle.kp_polls.proofs.settled.what_send_accepts_is_numbered_by_place.Goals as goal

pub returns : goal.returns
returns c = sent_is_offered
