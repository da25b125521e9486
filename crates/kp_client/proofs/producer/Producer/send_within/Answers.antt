use Rattle.std.proofs.Common.{refl, rules}
use Rattle.kp_client.proofs.ProducerLemmas.{clock_stays, sends_later, tries_on}
use Rattle.kp_client.proofs.producer.Producer.send_within.Goals as goal

pub returns-in-Err-LaneFull-default : goal.returns-in-Err-LaneFull-default
returns-in-Err-LaneFull-default g c = tries_on _ _ _ _ _ _ _ _ _ c.in-Err-LaneFull-default.field-0-0-is c.send.ensures c.in-Err-LaneFull-default.is c.send_when_room.ensures

pub returns-in_default : goal.returns-in_default
returns-in_default g c =
    sends_later _ _ _ _ _ _ _ _ (record { number = refl; id = refl; limits = refl }) refl (clock_stays _) (record { entries = refl; turns = refl }) refl refl c.send.ensures
    (search rules)
