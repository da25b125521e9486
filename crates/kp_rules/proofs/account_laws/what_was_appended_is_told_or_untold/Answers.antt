use Rattle.kp_rules.proofs.LifeLemmas.{told_or_untold}
use Rattle.kp_rules.proofs.account_laws.what_was_appended_is_told_or_untold.Goals as goal

pub returns : goal.returns
returns c = told_or_untold
