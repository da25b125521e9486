use Rattle.kp_headline.proofs.LawLemmas as law
use Rattle.kp_headline.specs.Outside.{known}
use Rattle.kp_world.specs.Accounts.{AreAccountedFor}
use Rattle.kp_polls.proofs.AroundLemmas.{of_polls}
use Rattle.kp_polls.proofs.laws.what_was_accepted_is_accounted_for.Goals as goal

pub returns : goal.returns
returns g c = λ o s p l. of_polls g.S.Stream.answers o (λ b. AreAccountedFor s p (known b)) (law.accounted o s p l)
