use Rattle.kp_embed_laws.specs.Running.{opening_of}
use Rattle.kp_embed_laws.proofs.RunLemmas.{of_calls}
use Rattle.kp_embed_laws.proofs.laws.items_are_handed_over_in_order_and_once.Goals as goal
use Rattle.kp_headline.proofs.LawLemmas as law
use Rattle.kp_headline.specs.Outside.{known}
use Rattle.kp_world.specs.Accounts.{AreInOrder}

pub returns : goal.returns
returns c = λ p config names calls x t ms runs is begun around assumed near.
    let o = opening_of config names begun.partitions begun.id in
    of_calls config names calls x t ms runs is begun (λ b. AreInOrder 0 p (known b)) (law.ordered o 0 p near) around assumed
