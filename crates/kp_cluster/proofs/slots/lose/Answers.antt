use Rattle.std.proofs.Common.{◌∙◌, ap}
use Rattle.std.specs.Prelude.{slice_set}
use Rattle.kp_cluster.specs.Backoff.{lost_for}
use Rattle.kp_cluster.proofs.SlotLemmas.{changed_at}
use Rattle.kp_cluster.proofs.slots.lose.Goals as goal

pub returns-then-place-slots : goal.returns-then-place-slots
returns-then-place-slots c =
    let slots = c.args.slots.now in
    ap (slice_set slots c.args.node) c.lose.ensures ∙ changed_at (lost_for c.args.now c.args.wait) c.args.node slots c.index-slots-place.result c.if-place-slots.true
