use Rattle.std.proofs.Common.{rules}
use Rattle.kp_client.specs.Service.{core_of, intake_of}
use Rattle.kp_client.proofs.FittingLemmas.{may_turn}
use Rattle.kp_client.proofs.ServiceLemmas.{still_lanes}
use Rattle.kp_client.proofs.service.Service.run.Goals as goal

pub returns-clause-lanes : goal.returns-clause-lanes
returns-clause-lanes g c = still_lanes (core_of c.args.self) (intake_of c.args.self) _ c.serve-ended.ensures.ended

pub returns-clause-ended : goal.returns-clause-ended
returns-clause-ended g c = c.serve-ended.ensures.ended

pub returns-clause-gave_up : goal.returns-clause-gave_up
returns-clause-gave_up g c = c.serve-ended.ensures.gave_up

pub serve-ended-requires : goal.serve-ended-requires
serve-ended-requires g c = (search rules, may_turn c.args.self.audits c.args.self.hello c.args.self.core c.args.self.intake c.args.self.fits)
