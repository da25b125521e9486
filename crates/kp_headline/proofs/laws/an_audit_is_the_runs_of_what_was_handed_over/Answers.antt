use Rattle.kp_headline.proofs.LawLemmas.{audited}
use Rattle.kp_headline.proofs.laws.an_audit_is_the_runs_of_what_was_handed_over.Goals as goal

pub returns : goal.returns
returns c = audited
