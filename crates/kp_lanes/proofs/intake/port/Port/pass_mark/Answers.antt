use Rattle.std.proofs.Common.{length}
use Rattle.rtrb.specs.Ring.{received, known_items}
use Rattle.kp_lanes.specs.declared.entry.Entry.TheVariants.{Mark}
use Rattle.kp_lanes.proofs.EntryLemmas.{one_first, mark_passed}
use Rattle.kp_lanes.proofs.intake.port.Port.pass_mark.Goals as goal

pub invariant_of-self : goal.invariant_of-self
invariant_of-self c =
    let port = c.args.self.now in let new = c.pop_known.new.self in
    let mark = one_first c.pop_known.result Mark (known_items port.entries) (known_items new) c.requires.0 c.pop_known.ensures.received.1 c.requires.1 in
    let all = mark_passed (length (received port.since.value)) (received port.entries) (received new) c.pop_known.result c.pop_known.ensures.received.0 mark port.later in
    record { later = all.0; saw = all.1 }

pub returns-clause-taken : goal.returns-clause-taken
returns-clause-taken c =
    let port = c.args.self.now in let new = c.pop_known.new.self in
    let mark = one_first c.pop_known.result Mark (known_items port.entries) (known_items new) c.requires.0 c.pop_known.ensures.received.1 c.requires.1 in
    (mark_passed (length (received port.since.value)) (received port.entries) (received new) c.pop_known.result c.pop_known.ensures.received.0 mark port.later).2
