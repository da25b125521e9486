use Rattle.std.proofs.Common.{rules}
use Rattle.kp_lanes.proofs.GateSteps.{shuts}
use Rattle.kp_lanes.proofs.gate.Gate.shut.Goals as goal

pub fetch_or-requires : goal.fetch_or-requires
fetch_or-requires c = (c.requires.here, search rules, shuts _ _ _ c.requires.may)
