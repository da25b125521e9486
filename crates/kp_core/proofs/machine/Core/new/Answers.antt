use Rattle.kp_core.proofs.machine.Core.new.Goals as goal

pub returns : goal.returns
returns c = c.open.ensures
