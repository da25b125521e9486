use Rattle.kp_rules.proofs.HearingLemmas.{heard_as_response}
use Rattle.kp_rules.proofs.telling_laws.bytes_are_heard_as_their_response.Goals as goal

pub returns : goal.returns
returns c = heard_as_response
