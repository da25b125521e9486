use Rattle.kp_headline.proofs.LifeLemmas.{is_life}
use Rattle.kp_headline.proofs.moving.the_calls_are_a_life.Goals as goal

pub returns : goal.returns
returns c = is_life
