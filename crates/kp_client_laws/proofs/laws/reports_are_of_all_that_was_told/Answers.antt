use Rattle.kp_client_laws.specs.Told.{AreReported}
use Rattle.kp_client_laws.proofs.OverLemmas.{of_whatever}
use Rattle.kp_client_laws.proofs.ReportLemmas.{are_reported}
use Rattle.kp_client_laws.proofs.laws.reports_are_of_all_that_was_told.Goals as goal

pub returns : goal.returns
returns c = of_whatever AreReported are_reported
