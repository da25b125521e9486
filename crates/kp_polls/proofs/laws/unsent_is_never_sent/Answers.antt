use Rattle.kp_headline.proofs.LawLemmas as law
use Rattle.kp_headline.specs.Outside.{known}
use Rattle.kp_world.specs.Accounts.{IsNeverSent}
use Rattle.kp_polls.proofs.AroundLemmas.{of_polls}
use Rattle.kp_polls.proofs.laws.unsent_is_never_sent.Goals as goal

pub returns : goal.returns
returns g c = λ o p l. of_polls g.S.Stream.answers o (λ b. IsNeverSent p (known b)) (law.never_sent o p l)
