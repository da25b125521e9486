use Rattle.kp_embed_laws.specs.Running.{opening_of}
use Rattle.kp_embed_laws.proofs.RunLemmas.{of_calls}
use Rattle.kp_embed_laws.proofs.laws.a_complete_flush_told_all_before_it.Goals as goal
use Rattle.kp_headline.proofs.LawLemmas as law
use Rattle.kp_headline.specs.Laws.{AreToldByFlush}

pub returns : goal.returns
returns c = λ config names calls x t ms runs is begun around assumed.
    let o = opening_of config names begun.partitions begun.id in
    of_calls config names calls x t ms runs is begun (λ b. AreToldByFlush b) (law.flushed_all o) around assumed
