use Rattle.std.proofs.Common.{ap, ap₂, ◌∙◌}
use Rattle.std.proofs.lemmas.Result.{IfOk-weaker}
use Rattle.clap.specs.Words.{App, with_subcommand}
use Rattle.kp_send_words.proofs.asking.program.Goals as goal

pub returns : goal.returns
returns c =
    IfOk-weaker c.subcommand.result _ _
    (λ m h. h.shape c.in_ok-send.ensures.local ∙ ap₂ with_subcommand c.bare_program.ensures (ap (λ (a : App). a.top) c.in_ok-send.ensures.app))
    c.subcommand.ensures
