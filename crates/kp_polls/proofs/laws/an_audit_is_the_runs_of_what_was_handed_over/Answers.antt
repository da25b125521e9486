use Rattle.kp_headline.proofs.LawLemmas as law
use Rattle.kp_headline.specs.Outside.{known}
use Rattle.kp_world.specs.Handed.{IsAudited}
use Rattle.kp_polls.proofs.AroundLemmas.{of_polls}
use Rattle.kp_polls.proofs.laws.an_audit_is_the_runs_of_what_was_handed_over.Goals as goal

pub returns : goal.returns
returns g c = λ o p l. of_polls g.S.Stream.answers o (λ b. IsAudited o.audits p (known b)) (law.audited o p l)
