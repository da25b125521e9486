use Rattle.kp_headline.proofs.LawLemmas as law
use Rattle.kp_headline.specs.Outside.{known}
use Rattle.kp_world.specs.Accounts.{IsToldOnce}
use Rattle.kp_polls.proofs.AroundLemmas.{of_polls}
use Rattle.kp_polls.proofs.laws.each_item_is_told_once.Goals as goal

pub returns : goal.returns
returns g c = λ o. of_polls g.S.Stream.answers o (λ b. IsToldOnce (known b)) (law.told_once o)
