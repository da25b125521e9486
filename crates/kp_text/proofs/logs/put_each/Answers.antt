use Rattle.std.proofs.Common.{◌<◌, ◌≤◌, length, arith}
use Rattle.kp_text.specs.Logs.{line_at}
use Rattle.kp_text.proofs.TextLemmas.{text_done, text_step}
use Rattle.kp_text.proofs.logs.put_each.Goals as goal

pub loop-offset-preserved : goal.loop-offset-preserved
loop-offset-preserved c =
    let within : c.loop-offset.offset-index < length c.args.offsets.now = omega arith in
    text_step (line_at c.args.partition c.args.log.now.records) c.args.offsets.now c.loop-offset.offset-index c.loop-offset.out.items _ 0 _ within c.loop-offset.invariant c.in_ok-put_at.ensures

pub returns : goal.returns
returns c =
    let past : length c.args.offsets.now ≤ c.loop-offset.offset-index = omega arith in
    text_done (line_at c.args.partition c.args.log.now.records) c.args.offsets.now c.loop-offset.offset-index c.loop-offset.out.items _ past c.loop-offset.invariant
