use Rattle.std.proofs.Common.{ap, ap₂, ◌∙◌}
use Rattle.std.proofs.lemmas.Result.{IfOk-weaker}
use Rattle.clap.specs.Words.{App, with_subcommand}
use Rattle.kp_command_line.specs.Commands.{pack_app, replay_app}
use Rattle.kp_command_line.specs.RunCommand.{run_app}
use Rattle.kp_command_line.proofs.commands.kprod.Goals as goal

pub returns : goal.returns
returns c =
    let packing = c.in_ok-program.ensures ∙ ap (λ (program : App). with_subcommand program pack_app.top) c.bare_program.ensures in
    let replaying = c.in_ok-program-2.ensures ∙ ap (λ (program : App). with_subcommand program replay_app.top) packing in
    let running = c.in_ok-program-3.ensures ∙ ap (λ (program : App). with_subcommand program run_app.top) replaying in
    IfOk-weaker c.subcommand.result _ _
    (λ m h. h.shape c.send_command-send.ensures.local ∙ ap₂ with_subcommand running (ap (λ (a : App). a.top) c.send_command-send.ensures.app))
    c.subcommand.ensures
