use Rattle.std.proofs.Common.{◌≡◌}
use Rattle.kp_lanes.specs.Sender.{got, sender_view}
use Rattle.kp_client.specs.Producer.{lane_of, ClockGoesOn, LostNothing, SameProducer}
use Rattle.kp_client.proofs.producer.Producer.send_when_room.Given as goal

abbrev pub invariant-loop : goal.invariant-loop
invariant-loop g l = record {
  next : (goal.iterator-loop g).can_next l.iterator';
  finite : (goal.iterator-loop g).is_finite l.iterator';
  same : SameProducer l.fn.self l.self;
  heard : got (lane_of l.self) ≡ got (lane_of l.fn.self);
  clock : ClockGoesOn l.fn.self l.self;
  lost_nothing : LostNothing l.fn.self l.self;
  unknown : sender_view (lane_of l.self) ≡ sender_view (lane_of l.fn.self);
  body : l.body ≡ l.fn.body;
}
