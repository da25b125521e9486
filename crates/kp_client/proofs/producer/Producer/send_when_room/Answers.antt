use Rattle.std.proofs.Common.{sym}
use Rattle.kp_client.proofs.ProducerLemmas.{sends_later}
use Rattle.kp_client.proofs.producer.Producer.send_when_room.Goals as goal

pub returns-in-Ok : goal.returns-in-Ok
returns-in-Ok g c =
    let i = c.loop.invariant in
    sends_later _ _ _ _ _ _ _ _ i.same i.heard i.clock i.lost_nothing i.unknown i.body c.send.ensures (sym c.in-Ok.is)

pub returns-then-ne : goal.returns-then-ne
returns-then-ne g c =
    let i = c.loop.invariant in
    sends_later _ _ _ _ _ _ _ _ i.same i.heard i.clock i.lost_nothing i.unknown i.body c.send.ensures (sym c.in-Err.is)
