use Rattle.kp_cluster.specs.Slots.{answered}
use Rattle.kp_cluster.proofs.SlotLemmas.{changed_at}
use Rattle.kp_cluster.proofs.slots.forget_failures.Goals as goal

pub returns-then-place-slots : goal.returns-then-place-slots
returns-then-place-slots c = changed_at answered c.args.node c.args.slots.now c.index-slots-place.result c.if-place-slots.true
