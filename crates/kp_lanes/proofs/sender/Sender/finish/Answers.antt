use Rattle.std.proofs.Common.{refl}
use Rattle.kp_lanes.proofs.sender.Sender.finish.Goals as goal

pub returns-clause-same : goal.returns-clause-same
returns-clause-same c = (refl, refl, refl, refl)

pub returns-clause-in_place : goal.returns-clause-in_place
returns-clause-in_place c = c.args.self.outbox.in_place
