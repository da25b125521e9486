use Rattle.kp_rules.proofs.UsedLemmas.{used_by_untold}
use Rattle.kp_rules.proofs.telling_laws.no_memory_is_used_where_all_is_told.Goals as goal

pub returns : goal.returns
returns c = used_by_untold
