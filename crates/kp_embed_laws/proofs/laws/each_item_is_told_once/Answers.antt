use Rattle.kp_embed_laws.specs.Running.{opening_of}
use Rattle.kp_embed_laws.proofs.RunLemmas.{of_calls}
use Rattle.kp_embed_laws.proofs.laws.each_item_is_told_once.Goals as goal
use Rattle.kp_headline.proofs.LawLemmas as law
use Rattle.kp_headline.specs.Outside.{known}
use Rattle.kp_world.specs.Accounts.{IsToldOnce}

pub returns : goal.returns
returns c = λ config names calls x t ms runs is begun around assumed.
    let o = opening_of config names begun.partitions begun.id in
    of_calls config names calls x t ms runs is begun (λ b. IsToldOnce (known b)) (law.told_once o) around assumed
