use Rattle.kp_headline.proofs.LawLemmas as law
use Rattle.kp_headline.specs.Outside.{known}
use Rattle.kp_world.specs.LogLaws.{IsPrefix}
use Rattle.kp_polls.proofs.AroundLemmas.{of_polls}
use Rattle.kp_polls.proofs.laws.the_log_is_a_prefix.Goals as goal

pub returns : goal.returns
returns g c = λ o p l. of_polls g.S.Stream.answers o (λ b. IsPrefix p (known b)) (law.prefixes o p l)
