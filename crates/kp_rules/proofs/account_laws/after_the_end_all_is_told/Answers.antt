use Rattle.kp_rules.proofs.LifeLemmas.{all_told}
use Rattle.kp_rules.proofs.account_laws.after_the_end_all_is_told.Goals as goal

pub returns : goal.returns
returns c = all_told
