use Rattle.kp_log.proofs.HonestLemmas.{honest_offer, honest_offer_then}
use Rattle.kp_log.proofs.laws.offers_are_honest.Goals as goal

pub returns-clause-offer : goal.returns-clause-offer
returns-clause-offer c = honest_offer

pub returns-clause-offer_then : goal.returns-clause-offer_then
returns-clause-offer_then c = honest_offer_then
