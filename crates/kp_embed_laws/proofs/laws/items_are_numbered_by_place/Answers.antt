use Rattle.kp_embed_laws.specs.Running.{opening_of}
use Rattle.kp_embed_laws.proofs.RunLemmas.{of_calls}
use Rattle.kp_embed_laws.proofs.laws.items_are_numbered_by_place.Goals as goal
use Rattle.kp_headline.proofs.LawLemmas as law
use Rattle.kp_headline.specs.Outside.{known}
use Rattle.kp_world.specs.Accounts.{ArePlaced}

pub returns : goal.returns
returns c = λ p config names calls x t ms runs is begun around assumed.
    let o = opening_of config names begun.partitions begun.id in
    of_calls config names calls x t ms runs is begun (λ b. ArePlaced 0 p (known b)) (law.placed o 0 p) around assumed
