use Rattle.std.proofs.Common.{◌∙◌, not, length, sym, ap}
use Rattle.std.proofs.lemmas.List.{get_or_default, get_or_past}
use Rattle.kp_rules.specs.Partitions.{new_partition}
use Rattle.kp_core.specs.Busy.{is_busy}
use Rattle.kp_core.proofs.BusyLemmas.{busy-is}
use Rattle.kp_core.proofs.IdleLemmas.{first_idle, not_below}
use Rattle.kp_core.proofs.machine.partitions.changing.is_busy_at.Goals as goal

pub returns-then-place-partitions : goal.returns-then-place-partitions
returns-then-place-partitions c =
    let t = c.index-partitions-place.result in
    ap not c.is_idle.ensures ∙ sym (busy-is t)
    ∙ ap is_busy (c.index-partitions-place.is ∙ get_or_default c.args.partitions.now c.args.place t (new_partition 0) c.if-place-partitions.true)

pub returns-else-place-partitions : goal.returns-else-place-partitions
returns-else-place-partitions c =
    not_below c.args.place (length c.args.partitions.now) c.if-place-partitions.false
    ∙ sym (ap is_busy (get_or_past c.args.partitions.now c.args.place (new_partition 0) c.if-place-partitions.false) ∙ first_idle)
