use Rattle.std.proofs.Common.{◌≡◌, true, rules}
use Rattle.std.specs.Prelude.{IsTrue}
use Rattle.kp_lanes.proofs.intake.Intake.quiet.Goals as goal

pub returns-clause-view : goal.returns-clause-view
returns-clause-view c = c.quiet.ensures.view

pub returns-clause-answer : goal.returns-clause-answer
returns-clause-answer c = c.quiet.ensures.answer

pub returns-clause-known : goal.returns-clause-known
returns-clause-known c =
    let known : IsTrue c.quiet.result → (c.quiet.new.seat.me.0.knows_quiet ≡ true) × (c.quiet.new.seat.me.0.knows_shut ≡ true) = search rules in
    known
