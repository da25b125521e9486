use Rattle.kp_headline.proofs.OfferingLemmas.{may_come_first}
use Rattle.kp_headline.proofs.moving.what_was_accepted_may_come_first.Goals as goal

pub returns : goal.returns
returns c = may_come_first
