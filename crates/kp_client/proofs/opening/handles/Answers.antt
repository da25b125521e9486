use Rattle.std.specs.Arc.{arc_value}
use Rattle.kp_client.specs.Service.{HasBell}
use Rattle.kp_client.proofs.OpeningLemmas.{all_rest, handed_on}
use Rattle.kp_client.proofs.opening.handles.Goals as goal

pub loop-sender-preserved : goal.loop-sender-preserved
loop-sender-preserved c = record {
  done = handed_on c.loop-sender.producers.items c.push.new.all.items c.new-producer.result c.in-Some.sender c.loop-sender.sender-iterator.rest.items
      c.next.new.self.rest.items c.args.senders.items c.loop-sender.invariant.done c.in_ok-push.ensures c.in-Some.ensures.steps.0 c.new-producer.ensures;
  rest = all_rest (HasBell (arc_value c.args.shared.now)) c.in-Some.sender c.next.new.self.rest.items c.loop-sender.sender-iterator.rest.items
      c.in-Some.ensures.steps.0 c.loop-sender.invariant.rest;
}
