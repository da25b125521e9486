use Rattle.std.proofs.Common.{◌<◌}
use Rattle.kp_client_laws.specs.Over.{opening_of}
use Rattle.kp_client_laws.proofs.OverLemmas.{after_service, of_whatever}
use Rattle.kp_client_laws.proofs.laws.items_are_handed_over_in_order_and_once.Goals as goal
use Rattle.kp_headline.proofs.LawLemmas as law
use Rattle.kp_headline.specs.Outside.{known}
use Rattle.kp_world.specs.Accounts.{AreInOrder}

pub returns : goal.returns
returns c = λ s p. of_whatever (λ o b left finished. p < o.partitions → AreInOrder s p (known b)) (λ service finished left accepted ms over had around assumed near.
    after_service service finished left accepted ms over had around assumed (λ b. AreInOrder s p (known b)) (law.ordered (opening_of service) s p near))
