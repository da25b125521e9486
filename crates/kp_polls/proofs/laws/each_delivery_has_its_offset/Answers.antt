use Rattle.kp_headline.proofs.LawLemmas as law
use Rattle.kp_headline.specs.Outside.{known}
use Rattle.kp_world.specs.LogLaws.{EachDeliveryHasItsOffset}
use Rattle.kp_polls.proofs.AroundLemmas.{of_polls}
use Rattle.kp_polls.proofs.laws.each_delivery_has_its_offset.Goals as goal

pub returns : goal.returns
returns g c = λ o. of_polls g.S.Stream.answers o (λ b. EachDeliveryHasItsOffset (known b)) (law.with_offsets o)
