use Rattle.kp_log.proofs.KeepingLemmas.{nothing_handed, one_more_handed, came_empty, came_of_more, came_others, came_offered}
use Rattle.kp_log.proofs.laws.histories_come_by_what_is_handed_over.Goals as goal

pub returns-clause-nothing_handed : goal.returns-clause-nothing_handed
returns-clause-nothing_handed c = nothing_handed

pub returns-clause-handed_over : goal.returns-clause-handed_over
returns-clause-handed_over c = one_more_handed

pub returns-clause-empty : goal.returns-clause-empty
returns-clause-empty c = came_empty

pub returns-clause-more_handed : goal.returns-clause-more_handed
returns-clause-more_handed c = came_of_more

pub returns-clause-others : goal.returns-clause-others
returns-clause-others c = came_others

pub returns-clause-offered : goal.returns-clause-offered
returns-clause-offered c = came_offered
