use Rattle.kp_headline.proofs.MoveLemmas.{matched}
use Rattle.kp_headline.specs.Matching.{IsMatched}
use Rattle.kp_polls.proofs.AroundLemmas.{leads, of_polls}
use Rattle.kp_polls.proofs.polling.polls_are_runs.Goals as goal

pub returns : goal.returns
returns g c = record {
  core = leads g.S.Stream.answers;
  run = λ o. of_polls g.S.Stream.answers o (IsMatched o) (matched o);
}
