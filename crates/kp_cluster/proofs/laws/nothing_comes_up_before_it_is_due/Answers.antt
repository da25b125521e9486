use Rattle.kp_cluster.proofs.DueLemmas.{not_asked, not_heeded, not_told}
use Rattle.kp_cluster.proofs.laws.nothing_comes_up_before_it_is_due.Goals as goal

pub returns-clause-asked : goal.returns-clause-asked
returns-clause-asked c = not_asked

pub returns-clause-heeded : goal.returns-clause-heeded
returns-clause-heeded c = not_heeded

pub returns-clause-told : goal.returns-clause-told
returns-clause-told c = not_told
