use Rattle.kp_embed_laws.specs.Running.{opening_of}
use Rattle.kp_embed_laws.proofs.RunLemmas.{of_calls}
use Rattle.kp_embed_laws.proofs.laws.what_was_accepted_is_accounted_for.Goals as goal
use Rattle.kp_headline.proofs.LawLemmas as law
use Rattle.kp_headline.specs.Outside.{known}
use Rattle.kp_world.specs.Accounts.{AreAccountedFor}

pub returns : goal.returns
returns c = λ p config names calls x t ms runs is begun around assumed near.
    let o = opening_of config names begun.partitions begun.id in
    of_calls config names calls x t ms runs is begun (λ b. AreAccountedFor 0 p (known b)) (law.accounted o 0 p near) around assumed
