use Rattle.std.proofs.Common.{rules, ap, ◌∙◌, ◌≡◌, codes}
use Rattle.std.proofs.lemmas.Result.{IfOk-weaker}
use Rattle.clap.specs.Words.{app_of, new_app}
use Rattle.kp_command_line.specs.OptionRules.{IsLocal}
use Rattle.kp_send_words.specs.SendCommand.{with_batches, with_connections, with_files, with_lines, with_place, with_progress, with_requests}
use Rattle.kp_command_line.proofs.OptionRulesLemmas.{further}
use Rattle.kp_send_words.proofs.send_command.send_command.Goals as goal

pub returns-clause-app : goal.returns-clause-app
returns-clause-app c =
    let bare : app_of c.after_help-command.result ≡ new_app (codes "send") = search rules in
    let two = further c.in_ok-command.ensures c.in_ok-command-2.ensures in
    let three = further two c.in_ok-command-3.ensures in
    let four = further three c.in_ok-command-4.ensures in
    let five = further four c.in_ok-command-5.ensures in
    let six = further five c.in_ok-command-6.ensures in
    IfOk-weaker c.with_connections.result _ _
    (λ m h. (further six h).shape
    ∙ ap (λ app. with_connections (with_requests (with_batches (with_progress (with_files (with_lines (with_place app))))))) bare)
    c.with_connections.ensures

pub returns-clause-local : goal.returns-clause-local
returns-clause-local c =
    let bare : IsLocal c.after_help-command.result = search rules in
    let two = further c.in_ok-command.ensures c.in_ok-command-2.ensures in
    let three = further two c.in_ok-command-3.ensures in
    let four = further three c.in_ok-command-4.ensures in
    let five = further four c.in_ok-command-5.ensures in
    let six = further five c.in_ok-command-6.ensures in
    IfOk-weaker c.with_connections.result _ _ (λ m h. (further six h).local ∙ bare) c.with_connections.ensures
