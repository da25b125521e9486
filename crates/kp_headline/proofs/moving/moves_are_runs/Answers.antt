use Rattle.kp_headline.proofs.MoveLemmas.{matched}
use Rattle.kp_headline.proofs.moving.moves_are_runs.Goals as goal

pub returns : goal.returns
returns c = matched
