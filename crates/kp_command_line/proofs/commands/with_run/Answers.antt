use Rattle.std.proofs.Common.{ap, ◌∙◌}
use Rattle.std.proofs.lemmas.Result.{IfOk-weaker}
use Rattle.clap.specs.Words.{App, app_of, with_subcommand}
use Rattle.kp_command_line.proofs.commands.with_run.Goals as goal

pub returns : goal.returns
returns c =
    let adds = ap (λ (a : App). with_subcommand (app_of c.args.program) a.top) c.in_ok-run.ensures.app in
    IfOk-weaker c.subcommand.result _ _ (λ m h. h.shape c.in_ok-run.ensures.local ∙ adds) c.subcommand.ensures
