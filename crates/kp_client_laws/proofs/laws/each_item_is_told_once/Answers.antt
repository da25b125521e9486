use Rattle.kp_client_laws.specs.Over.{opening_of}
use Rattle.kp_client_laws.proofs.OverLemmas.{after_service, of_whatever}
use Rattle.kp_client_laws.proofs.laws.each_item_is_told_once.Goals as goal
use Rattle.kp_headline.proofs.LawLemmas as law
use Rattle.kp_headline.specs.Outside.{known}
use Rattle.kp_world.specs.Accounts.{IsToldOnce}

pub returns : goal.returns
returns c = of_whatever (λ o b left finished. IsToldOnce (known b)) (λ service finished left accepted ms over had around assumed.
    after_service service finished left accepted ms over had around assumed (λ b. IsToldOnce (known b)) (law.told_once (opening_of service)))
