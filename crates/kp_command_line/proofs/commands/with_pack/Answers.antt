use Rattle.std.proofs.Common.{rules, ap, ◌∙◌, ◌≡◌, codes}
use Rattle.std.proofs.lemmas.Result.{IfOk-weaker}
use Rattle.clap.specs.Words.{App, app_of, new_app, with_rule, with_subcommand}
use Rattle.kp_command_line.specs.Commands.{file_rule, pack_app}
use Rattle.kp_command_line.specs.OptionRules.{IsLocal}
use Rattle.kp_command_line.proofs.commands.with_pack.Goals as goal

pub returns : goal.returns
returns c =
    let bare : app_of c.about-pack.result ≡ new_app (codes "pack") = search rules in
    let free : IsLocal c.about-pack.result = search rules in
    let app : app_of c.in_ok-pack.pack ≡ pack_app = c.in_ok-pack.ensures.shape ∙ ap (λ (a : App). with_rule a file_rule) bare in
    let adds = ap (λ (a : App). with_subcommand (app_of c.args.program) a.top) app in
    IfOk-weaker c.subcommand.result _ _ (λ m h. h.shape (c.in_ok-pack.ensures.local ∙ free) ∙ adds) c.subcommand.ensures
