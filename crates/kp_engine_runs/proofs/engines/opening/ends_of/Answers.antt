use Rattle.std.proofs.Common.{true, rules, arith}
use Rattle.kp_engine.proofs.OpeningLemmas.{may_turn}
use Rattle.kp_engine_runs.proofs.engines.opening.ends_of.Goals as goal

pub returns-in-Ok-open_lanes : goal.returns-in-Ok-open_lanes
returns-in-Ok-open_lanes c =
    let opened = c.in-Ok-open_lanes.ensures in
    may_turn _ _ _ _ _ _ true c.in-Ok.core c.in-Ok-open_lanes.intake _ c.in-Ok.ensures (search rules) opened.lanes opened.limits
    (omega arith) (omega arith) opened.empty.0 opened.empty.1
