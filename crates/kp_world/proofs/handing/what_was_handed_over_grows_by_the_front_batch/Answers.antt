use Rattle.kp_world.proofs.HandedLemmas.{grows_by_front, grows_at_end}
use Rattle.kp_world.proofs.handing.what_was_handed_over_grows_by_the_front_batch.Goals as goal

pub returns : goal.returns
returns c = record { event = grows_by_front; run = grows_at_end }
