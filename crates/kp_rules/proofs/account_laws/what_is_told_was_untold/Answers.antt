use Rattle.kp_rules.proofs.AccountingLemmas.{told_was_untold}
use Rattle.kp_rules.proofs.account_laws.what_is_told_was_untold.Goals as goal

pub returns : goal.returns
returns c = told_was_untold
