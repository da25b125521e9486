use Rattle.std.proofs.Common.{◌∙◌, sym, ap}
use Rattle.std.specs.Prelude.{slice_set}
use Rattle.std.proofs.lemmas.List.Edits.{map_over_more}
use Rattle.kp_cluster.specs.Slots.{spare_given_up}
use Rattle.kp_cluster.proofs.slots.give_up_spares.Goals as goal

pub loop-slot-preserved : goal.loop-slot-preserved
loop-slot-preserved c =
    let slots = c.loop-slot.slots in
    let i = c.loop-slot.slot-index in
    ap (slice_set slots i) (c.give_up_spare.ensures ∙ ap spare_given_up (sym c.slot-item.is))
    ∙ map_over_more spare_given_up c.args.slots.now slots i c.slot-item.result c.loop-slot-test.true c.loop-slot.invariant c.slot-item.is
