use Rattle.kp_headline.proofs.LawLemmas as law
use Rattle.kp_headline.specs.Outside.{known}
use Rattle.kp_world.specs.LogLaws.{EarlierIdsAreSilent}
use Rattle.kp_polls.proofs.AroundLemmas.{of_polls}
use Rattle.kp_polls.proofs.laws.earlier_ids_are_silent.Goals as goal

pub returns : goal.returns
returns g c = λ o. of_polls g.S.Stream.answers o (λ b. EarlierIdsAreSilent (known b)) (law.silent o)
