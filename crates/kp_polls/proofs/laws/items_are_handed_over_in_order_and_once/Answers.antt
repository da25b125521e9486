use Rattle.kp_headline.proofs.LawLemmas as law
use Rattle.kp_headline.specs.Outside.{known}
use Rattle.kp_world.specs.Accounts.{AreInOrder}
use Rattle.kp_polls.proofs.AroundLemmas.{of_polls}
use Rattle.kp_polls.proofs.laws.items_are_handed_over_in_order_and_once.Goals as goal

pub returns : goal.returns
returns g c = λ o s p l. of_polls g.S.Stream.answers o (λ b. AreInOrder s p (known b)) (law.ordered o s p l)
