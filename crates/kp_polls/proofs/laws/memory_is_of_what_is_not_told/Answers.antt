use Rattle.kp_headline.proofs.LawLemmas as law
use Rattle.kp_headline.specs.Outside.{known}
use Rattle.kp_world.specs.Accounts.{IsUsedByUntold}
use Rattle.kp_polls.proofs.AroundLemmas.{of_polls}
use Rattle.kp_polls.proofs.laws.memory_is_of_what_is_not_told.Goals as goal

pub returns : goal.returns
returns g c = λ o. of_polls g.S.Stream.answers o (λ b. IsUsedByUntold (known b)) (law.memory o)
