use Rattle.kp_client.proofs.ProducerLemmas.{answered_by}
use Rattle.kp_client.proofs.producer.Producer.send.Goals as goal

pub returns-then-is_ok : goal.returns-then-is_ok
returns-then-is_ok g c = record {
  same = c.send-sent.ensures.same.0;
  heard = c.send-sent.ensures.same.1;
  clock = record { since = c.read-at.ensures.since; never_back = c.read-at.ensures.never_back };
  answers = answered_by _ _ c.args.target c.args.body c.read-at.result c.send-sent.result c.read-at.ensures.shown c.send-sent.ensures.accepts c.send-sent.ensures.partition
      c.send-sent.ensures.number c.send-sent.ensures.accepted c.send-sent.ensures.turn c.send-sent.ensures.back c.send-sent.ensures.lost_nothing c.send-sent.ensures.why
      c.send-sent.ensures.unknown c.send-sent.ensures.other c.send-sent.ensures.closed;
}

pub returns-else-is_ok : goal.returns-else-is_ok
returns-else-is_ok g c = record {
  same = c.send-sent.ensures.same.0;
  heard = c.send-sent.ensures.same.1;
  clock = record { since = c.read-at.ensures.since; never_back = c.read-at.ensures.never_back };
  answers = answered_by _ _ c.args.target c.args.body c.read-at.result c.send-sent.result c.read-at.ensures.shown c.send-sent.ensures.accepts c.send-sent.ensures.partition
      c.send-sent.ensures.number c.send-sent.ensures.accepted c.send-sent.ensures.turn c.send-sent.ensures.back c.send-sent.ensures.lost_nothing c.send-sent.ensures.why
      c.send-sent.ensures.unknown c.send-sent.ensures.other c.send-sent.ensures.closed;
}
