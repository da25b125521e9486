use Rattle.std.proofs.Common.{refl}
use Rattle.kp_c.proofs.making.kp_producer_new.Goals as goal

pub returns-in-Err-clause-refused : goal.returns-in-Err-clause-refused
returns-in-Err-clause-refused c = λ _. refl
