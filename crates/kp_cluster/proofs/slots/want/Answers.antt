use Rattle.kp_cluster.specs.Slots.{wanted}
use Rattle.kp_cluster.proofs.SlotLemmas.{changed_at}
use Rattle.kp_cluster.proofs.slots.want.Goals as goal

pub returns-then-place-slots : goal.returns-then-place-slots
returns-then-place-slots c = changed_at wanted c.args.node c.args.slots.now c.index-slots-place.result c.if-place-slots.true
