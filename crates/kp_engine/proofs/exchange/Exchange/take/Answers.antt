use Rattle.std.proofs.Common.{◌<◌, length, arith}
use Rattle.kp_lanes.specs.Intake.{lanes_of}
use Rattle.kp_engine.proofs.IntakeLemmas.{takes_one}
use Rattle.kp_engine.proofs.exchange.Exchange.take.Goals as goal

pub returns-then-is_some-clause-takes : goal.returns-then-is_some-clause-takes
returns-then-is_some-clause-takes c =
    let h = c.args.self.now.agree in
    let near : c.args.sender < length (lanes_of c.args.self.now.intake) = omega (arith, c.requires, h.lanes) in
    let sender : c.args.sender < length c.args.self.now.core.reports = omega (arith, c.requires, h.senders) in
    takes_one c.args.sender c.args.self.now _ c.take-taken.result near sender h.serves c.take-taken.ensures.some c.take-taken.ensures.meets c.take-taken.ensures.none c.take-taken.ensures.nothing

pub returns-else-is_some-clause-takes : goal.returns-else-is_some-clause-takes
returns-else-is_some-clause-takes c =
    let h = c.args.self.now.agree in
    let near : c.args.sender < length (lanes_of c.args.self.now.intake) = omega (arith, c.requires, h.lanes) in
    let sender : c.args.sender < length c.args.self.now.core.reports = omega (arith, c.requires, h.senders) in
    takes_one c.args.sender c.args.self.now _ c.take-taken.result near sender h.serves c.take-taken.ensures.some c.take-taken.ensures.meets c.take-taken.ensures.none c.take-taken.ensures.nothing
