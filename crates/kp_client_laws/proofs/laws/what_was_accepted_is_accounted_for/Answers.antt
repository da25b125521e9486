use Rattle.kp_client_laws.specs.Accounts.{AreAccountedFor}
use Rattle.kp_client_laws.proofs.OverLemmas.{of_whatever}
use Rattle.kp_client_laws.proofs.AccountLemmas.{accounts}
use Rattle.kp_client_laws.proofs.laws.what_was_accepted_is_accounted_for.Goals as goal

pub returns : goal.returns
returns c = of_whatever AreAccountedFor accounts
