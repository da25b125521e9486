use Rattle.kp_world.proofs.HandedLemmas.{are_items}
use Rattle.kp_world.proofs.handing.own_records_are_the_items_handed_over.Goals as goal

pub returns : goal.returns
returns c = are_items
