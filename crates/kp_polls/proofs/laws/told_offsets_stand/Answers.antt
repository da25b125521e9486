use Rattle.kp_headline.proofs.LawLemmas as law
use Rattle.kp_headline.specs.Outside.{known}
use Rattle.kp_world.specs.LogLaws.{ToldOffsetsStand}
use Rattle.kp_polls.proofs.AroundLemmas.{of_polls}
use Rattle.kp_polls.proofs.laws.told_offsets_stand.Goals as goal

pub returns : goal.returns
returns g c = λ o. of_polls g.S.Stream.answers o (λ b. ToldOffsetsStand (known b)) (law.offsets_stand o)
