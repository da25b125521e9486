use Rattle.kp_headline.proofs.LawLemmas as law
use Rattle.kp_headline.specs.Outside.{known}
use Rattle.kp_world.specs.FreshIds.{BeginsAnew}
use Rattle.kp_polls.proofs.AroundLemmas.{of_polls}
use Rattle.kp_polls.proofs.laws.each_id_begins_anew.Goals as goal

pub returns : goal.returns
returns g c = λ o p l. of_polls g.S.Stream.answers o (λ b. BeginsAnew p (known b)) (law.anew o p l)
