use Rattle.std.proofs.Common.{◌≡◌, ◌+◌, length}
use Rattle.kp_lanes.specs.Port.{passed, taken, asked_at, SamePort, Extends}
use Rattle.kp_lanes.proofs.intake.port.Port.finds.Given as goal

abbrev pub invariant-loop : goal.invariant-loop
invariant-loop l = record {
  same : SamePort l.initial.self l.self;
  since : asked_at l.self ≡ asked_at l.initial.self;
  items : taken l.self ≡ taken l.initial.self;
  extends : Extends (passed l.initial.self) (passed l.self);
  count : length (passed l.self) ≡ length (passed l.initial.self) + l.counter;
}
