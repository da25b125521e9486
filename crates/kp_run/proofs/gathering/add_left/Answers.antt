use Rattle.std.proofs.Common.{◌++◌, ◌∙◌, List, ap₂}
use Rattle.std.specs.List.{flat_map}
use Rattle.std.specs.declared.alloc.Global.{Global}
use Rattle.std.specs.declared.vec.Vec.{Vec}
use Rattle.kp_lanes.specs.Intake.{numbers_below}
use Rattle.kp_rules.specs.declared.outcome.Report.{Report}
use Rattle.kp_run.specs.Gathered.{unheard_of}
use Rattle.kp_run.proofs.gathering.add_left.Goals as goal

pub returns-clause-added : goal.returns-clause-added
returns-clause-added c =
    c.in_ok-add_all_unheard.ensures.added
    ∙ ap₂ (λ (rings : List (Vec Report Global)) (held : List Report). c.args.reports.now.items ++ flat_map (unheard_of rings held c.args.left.core) (numbers_below c.args.senders))
    c.as_slice.ensures.value c.as_slice-2.ensures.value
