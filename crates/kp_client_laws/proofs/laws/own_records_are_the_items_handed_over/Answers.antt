use Rattle.std.proofs.Common.{◌<◌}
use Rattle.kp_client_laws.specs.Over.{opening_of}
use Rattle.kp_client_laws.proofs.OverLemmas.{after_service, of_whatever}
use Rattle.kp_client_laws.proofs.laws.own_records_are_the_items_handed_over.Goals as goal
use Rattle.kp_headline.proofs.LawLemmas as law
use Rattle.kp_headline.specs.Outside.{known}
use Rattle.kp_world.specs.Handed.{AreItems}

pub returns : goal.returns
returns c = λ p. of_whatever (λ o b left finished. p < o.partitions → AreItems p (known b)) (λ service finished left accepted ms over had around assumed near.
    after_service service finished left accepted ms over had around assumed (λ b. AreItems p (known b)) (law.items_stand (opening_of service) p near))
