use Rattle.std.proofs.Common.{◌<◌, ◌≤◌, ◌++◌, ◌∙◌, ap, length, arith}
use Rattle.kp_replay.specs.declared.happened.Happened.{Happened}
use Rattle.kp_replay.specs.Text.{noted_by, noted_text}
use Rattle.kp_text.proofs.TextLemmas.{text_done, text_step}
use Rattle.kp_replay.proofs.text.past.put_past.Goals as goal

pub loop-happened-preserved : goal.loop-happened-preserved
loop-happened-preserved c =
    let within : c.loop-happened.happened-index < length c.args.past.now = omega arith in
    text_step (λ h. noted_text (noted_by h)) c.args.past.now c.loop-happened.happened-index c.loop-happened.out.items _ c.happened-item.result _ within c.loop-happened.invariant (c.in_ok-put_happened.ensures ∙ ap (λ (h : Happened). c.loop-happened.out.items ++ noted_text (noted_by h)) c.happened-item.is)

pub returns : goal.returns
returns c =
    let past : length c.args.past.now ≤ c.loop-happened.happened-index = omega arith in
    text_done (λ h. noted_text (noted_by h)) c.args.past.now c.loop-happened.happened-index c.loop-happened.out.items _ past c.loop-happened.invariant
