use Rattle.kp_headline.proofs.LeaderMoves.{forgotten}
use Rattle.kp_headline.proofs.exhibits.an_unclean_election_loses_what_was_told.Goals as goal

pub returns : goal.returns
returns c = forgotten
