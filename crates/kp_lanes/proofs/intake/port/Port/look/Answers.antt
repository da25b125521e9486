use Rattle.std.proofs.Common.{◌≡◌, ◌++◌, sym, ap, ◌∙◌, arith}
use Rattle.rtrb.specs.Ring.{known_items}
use Rattle.kp_lanes.specs.Lane.{pushed}
use Rattle.kp_lanes.specs.Port.{passed}
use Rattle.kp_lanes.proofs.EntryLemmas.{few_left}
use Rattle.kp_lanes.proofs.intake.port.Port.look.Goals as goal

pub returns-clause-items : goal.returns-clause-items
returns-clause-items c =
    let looked = c.slots_beside-entries.ensures in let known = known_items c.slots_beside-entries.new.self in
    let all : passed c.args.self.now ++ known ≡ pushed c.args.finished.now.outbox.lane = ap (λ l. l ++ known) (sym looked.looked.1) ∙ (looked.fifo ∙ looked.producer.1) in
    let few = few_left (passed c.args.self.now) known (pushed c.args.finished.now.outbox.lane) all in let is = looked.value in omega arith
