use Rattle.std.proofs.Common.{◌∙◌, Bool, List, ap}
use Rattle.std.specs.Prelude.{◌&&◌}
use Rattle.std.specs.List.{list_any}
use Rattle.kp_accum.specs.Ready.{is_over}
use Rattle.kp_rules.specs.Attempts.{goes_to}
use Rattle.kp_rules.specs.Records.{Request}
use Rattle.kp_rules.specs.Tick.{has_timed_out}
use Rattle.kp_core.proofs.machine.Core.is_late.Goals as goal

pub returns : goal.returns
unfolding has_timed_out
returns c =
    let its : List Request → Bool = list_any (λ r. goes_to c.args.node r && is_over r.sent c.self.inside.config.request_timeout_ms c.args.now) in
    c.any_timed_out.ensures ∙ ap its c.deref.ensures.value ∙ ap (has_timed_out c.args.node c.args.now) c.self.view_is
