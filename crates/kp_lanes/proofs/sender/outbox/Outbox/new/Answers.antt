use Rattle.std.proofs.Common.{List, sym, ap, ◌∙◌}
use Rattle.kp_lanes.specs.Entries.{count_of, items_of}
use Rattle.kp_lanes.specs.Lane.{pushed}
use Rattle.kp_lanes.specs.declared.entry.Entry.{Entry}
use Rattle.kp_lanes.proofs.EntryLemmas.{none_in_place}
use Rattle.kp_lanes.proofs.sender.outbox.Outbox.new.Goals as goal

pub invariant_of-result-clause-numbered : goal.invariant_of-result-clause-numbered
invariant_of-result-clause-numbered c = λ p below. c.requires.zeros p below ∙ ap (λ (es : List Entry). count_of p (items_of es)) (sym c.requires.empty)

pub invariant_of-result-clause-in_place : goal.invariant_of-result-clause-in_place
invariant_of-result-clause-in_place c = none_in_place c.args.limits c.args.sender (pushed c.args.lane) c.requires.empty
