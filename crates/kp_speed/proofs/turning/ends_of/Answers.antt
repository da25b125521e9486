use Rattle.std.proofs.Common.{false, rules, arith}
use Rattle.kp_engine.proofs.OpeningLemmas.{may_turn}
use Rattle.kp_speed.proofs.turning.ends_of.Goals as goal

pub returns : goal.returns
returns c =
    let opened = c.in-Ok.ensures in
    may_turn _ _ _ _ _ _ false c.in_ok-core.core c.in-Ok.intake _ c.in_ok-core.ensures (search rules) opened.lanes opened.limits
    (omega arith) (omega arith) opened.empty.0 opened.empty.1
