use Rattle.kp_headline.proofs.LawLemmas as law
use Rattle.kp_headline.specs.Laws.{NoDuplicateIsAwaited}
use Rattle.kp_polls.proofs.AroundLemmas.{of_polls}
use Rattle.kp_polls.proofs.laws.no_duplicate_is_awaited.Goals as goal

pub returns : goal.returns
returns g c = λ o. of_polls g.S.Stream.answers o NoDuplicateIsAwaited (law.no_duplicate o)
