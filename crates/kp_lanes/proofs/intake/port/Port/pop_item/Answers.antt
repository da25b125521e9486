use Rattle.std.proofs.Common.{◌∙◌, length}
use Rattle.rtrb.specs.Ring.{received, known_items}
use Rattle.kp_lanes.specs.declared.entry.Entry.TheVariants.{Sent}
use Rattle.kp_lanes.proofs.EntryLemmas.{one_first, item_passed}
use Rattle.kp_lanes.proofs.intake.port.Port.pop_item.Goals as goal

pub invariant_of-self : goal.invariant_of-self
invariant_of-self c =
    let port = c.args.self.now in let new = c.pop_known.new.self in
    let sent = one_first c.pop_known.result (Sent c.requires.0) (known_items port.entries) (known_items new) c.requires.1 c.pop_known.ensures.received.1 c.requires.2 in
    let all = item_passed (length (received port.since.value)) (received port.entries) (received new) c.pop_known.result c.requires.0 c.pop_known.ensures.received.0 sent port.later in
    record { later = all.0; saw = port.saw ∙ all.1 }

pub returns-clause-taken : goal.returns-clause-taken
returns-clause-taken c =
    let port = c.args.self.now in let new = c.pop_known.new.self in
    (item_passed (length (received port.since.value)) (received port.entries) (received new) c.pop_known.result c.in-Sent.item c.pop_known.ensures.received.0 c.in-Sent.is port.later).2
