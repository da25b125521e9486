use Rattle.std.proofs.Common.{◌∙◌, ap}
use Rattle.std.specs.Prelude.{slice_set}
use Rattle.kp_cluster.specs.Slots.{opened}
use Rattle.kp_cluster.proofs.SlotLemmas.{changed_at}
use Rattle.kp_cluster.proofs.slots.open.Goals as goal

pub returns-then-place-slots : goal.returns-then-place-slots
returns-then-place-slots c =
    let slots = c.args.slots.now in
    ap (slice_set slots c.args.node) c.open.ensures ∙ changed_at opened c.args.node slots c.index-slots-place.result c.if-place-slots.true
