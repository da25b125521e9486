use Rattle.std.proofs.Common.{rules, ap, ◌∙◌, ◌≡◌, codes}
use Rattle.std.proofs.lemmas.Result.{IfOk-weaker}
use Rattle.clap.specs.Words.{app_of, new_app}
use Rattle.kp_command_line.specs.OptionRules.{IsLocal}
use Rattle.kp_command_line.specs.RunCommand.{with_batching, with_broker, with_flags, with_topic}
use Rattle.kp_command_line.proofs.OptionRulesLemmas.{further}
use Rattle.kp_command_line.proofs.run_command.run_command.Goals as goal

pub returns-clause-app : goal.returns-clause-app
returns-clause-app c =
    let bare : app_of c.about-command.result ≡ new_app (codes "run") = search rules in
    let two = further c.in_ok-command.ensures c.in_ok-command-2.ensures in
    let three = further two c.in_ok-command-3.ensures in
    IfOk-weaker c.with_flags.result _ _
    (λ m h. (further three h).shape ∙ ap (λ app. with_flags (with_broker (with_batching (with_topic app)))) bare)
    c.with_flags.ensures

pub returns-clause-local : goal.returns-clause-local
returns-clause-local c =
    let bare : IsLocal c.about-command.result = search rules in
    let two = further c.in_ok-command.ensures c.in_ok-command-2.ensures in
    let three = further two c.in_ok-command-3.ensures in
    IfOk-weaker c.with_flags.result _ _ (λ m h. (further three h).local ∙ bare) c.with_flags.ensures
