use Rattle.std.proofs.Common.{◌≡◌}
use Rattle.kp_lanes.specs.Sender.{accepted, got, turn}
use Rattle.kp_client.specs.Producer.{lane_of, SameProducer}
use Rattle.kp_client.proofs.producer.Producer.wait_report.Given as goal

abbrev pub invariant-loop : goal.invariant-loop
invariant-loop g l = record {
  next : (goal.iterator-loop g).can_next l.iterator';
  finite : (goal.iterator-loop g).is_finite l.iterator';
  same : SameProducer l.fn.self l.self;
  items : accepted (lane_of l.self) ≡ accepted (lane_of l.fn.self);
  turns : turn (lane_of l.self) ≡ turn (lane_of l.fn.self);
  heard : got (lane_of l.self) ≡ got (lane_of l.fn.self);
}
