use Rattle.std.proofs.lemmas.Result.{IfOk-weaker}
use Rattle.kp_command_line.proofs.OptionRulesLemmas.{further, one_more}
use Rattle.kp_send_words.proofs.send_command.with_place.Goals as goal

pub returns : goal.returns
returns c =
    let two = further (one_more c.in_ok-command.ensures c.lines.ensures.rule c.lines.ensures.local) c.in_ok-command-2.ensures in
    let three = further two c.in_ok-command-3.ensures in
    IfOk-weaker c.with_text.result _ _ (λ m h. further three h) c.with_text.ensures
