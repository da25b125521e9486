use Rattle.kp_cluster.specs.Slots.{in_phase}
use Rattle.kp_cluster.proofs.SlotLemmas.{changed_at}
use Rattle.kp_cluster.proofs.slots.set_phase.Goals as goal

pub returns : goal.returns
returns c = changed_at (in_phase c.args.phase) c.args.place c.args.slots.now c.index-slots-place.result c.requires
