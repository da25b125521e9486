use Rattle.kp_core.proofs.machine.Core.flush.Goals as goal

pub returns : goal.returns
returns c = assumption c
