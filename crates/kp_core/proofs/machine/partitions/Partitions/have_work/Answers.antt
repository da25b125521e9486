use Rattle.std.proofs.Common.{◌∙◌, ℕ, List, length, not, ap}
use Rattle.std.specs.Prelude.{◌==◌}
use Rattle.kp_core.proofs.WorkLemmas.{work_any}
use Rattle.kp_core.proofs.machine.partitions.Partitions.have_work.Goals as goal

pub returns : goal.returns
returns c = ap not (c.is_empty.ensures ∙ ap (λ (ps : List ℕ). length ps == 0) c.led_by.ensures) ∙ work_any c.args.node c.args.self.now
