use Rattle.kp_headline.proofs.LawLemmas as law
use Rattle.kp_headline.specs.Outside.{known}
use Rattle.kp_world.specs.Handed.{AreHandedOver, GoesOutTheSame}
use Rattle.kp_polls.proofs.AroundLemmas.{of_polls}
use Rattle.kp_polls.proofs.laws.packets_have_what_was_handed_over.Goals as goal

pub returns : goal.returns
returns g c = record {
  handed = λ o. of_polls g.S.Stream.answers o (λ b. AreHandedOver (known b)) (law.handed_over o);
  same = λ o. of_polls g.S.Stream.answers o (λ b. GoesOutTheSame (known b)) (law.the_same o);
}
