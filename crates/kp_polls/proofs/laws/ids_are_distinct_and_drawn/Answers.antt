use Rattle.kp_headline.proofs.LawLemmas as law
use Rattle.kp_headline.specs.Outside.{known}
use Rattle.kp_world.specs.FreshIds.{AreDrawn}
use Rattle.kp_polls.proofs.AroundLemmas.{of_polls}
use Rattle.kp_polls.proofs.laws.ids_are_distinct_and_drawn.Goals as goal

pub returns : goal.returns
returns g c = λ o p l. of_polls g.S.Stream.answers o (λ b. AreDrawn p (known b)) (law.ids_drawn o p l)
