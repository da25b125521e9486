use Rattle.kp_rules.proofs.FittingLemmas.{request_fits}
use Rattle.kp_rules.proofs.request_laws.a_request_always_fits.Goals as goal

pub returns : goal.returns
returns c = request_fits
