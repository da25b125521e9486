use Rattle.kp_embed.specs.Going.{Becomes}
use Rattle.kp_embed.specs.Hearing.{leads}
use Rattle.kp_embed.proofs.leading.lead_all.Given as goal

abbrev pub invariant-loop-partition : goal.invariant-loop-partition
invariant-loop-partition l = Becomes l.initial.core (leads l.now l.cluster l.partition) l.core
