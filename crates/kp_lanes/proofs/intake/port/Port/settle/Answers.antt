use Rattle.std.proofs.Common.{◌++◌, length, length-append, sym, ap, ◌∙◌, arith}
use Rattle.rtrb.specs.Ring.{known_items}
use Rattle.kp_lanes.specs.Entries.{items_of}
use Rattle.kp_lanes.specs.Lane.{pushed}
use Rattle.kp_lanes.specs.Port.{passed, taken}
use Rattle.kp_lanes.proofs.EntryLemmas.{items_left}
use Rattle.kp_lanes.proofs.intake.port.Port.settle.Goals as goal

pub drain_items-requires : goal.drain_items-requires
drain_items-requires c =
    let known = known_items c.look.new.self.entries in
    let all = ap length (items_left (passed c.args.self.now) known (pushed c.args.finished.now.outbox.lane) c.look.ensures.left) in
    let both = length-append (taken c.args.self.now) (items_of known) in let none = ap length c.requires.empty.0 in let room = c.requires.items in omega arith

pub returns-clause-entered : goal.returns-clause-entered
returns-clause-entered c = (known_items c.look.new.self.entries, c.look.ensures.left)

pub returns-clause-left : goal.returns-clause-left
returns-clause-left c =
    let known = known_items c.look.new.self.entries in
    items_left (passed c.args.self.now) known (pushed c.args.finished.now.outbox.lane) c.look.ensures.left
    ∙ ap (λ l. taken c.args.self.now ++ l) (sym (c.drain_items.ensures ∙ ap (λ l. l ++ items_of known) c.requires.empty.0))
