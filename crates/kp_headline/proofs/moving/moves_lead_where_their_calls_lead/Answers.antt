use Rattle.kp_headline.proofs.LifeLemmas.{leads_to}
use Rattle.kp_headline.proofs.moving.moves_lead_where_their_calls_lead.Goals as goal

pub returns : goal.returns
returns c = leads_to
