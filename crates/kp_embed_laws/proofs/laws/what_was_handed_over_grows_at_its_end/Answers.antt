use Rattle.kp_embed_laws.specs.Running.{opening_of}
use Rattle.kp_embed_laws.proofs.RunLemmas.{of_calls}
use Rattle.kp_embed_laws.proofs.laws.what_was_handed_over_grows_at_its_end.Goals as goal
use Rattle.kp_headline.proofs.LawLemmas as law
use Rattle.kp_headline.specs.Laws.{GrowsWith}

pub returns : goal.returns
returns c = λ p config names calls x t ms runs is begun around assumed near.
    let o = opening_of config names begun.partitions begun.id in
    of_calls config names calls x t ms runs is begun (λ b. GrowsWith p b) (law.grown o p near) around assumed
