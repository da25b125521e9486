use Rattle.std.proofs.Common.{◌<◌, get_or, length, map, pos, ap, rules, ◌∙◌, arith}
use Rattle.std.proofs.lemmas.List.{get_or_default}
use Rattle.kp_frames.specs.declared.produce.PartitionProduceResponse.{PartitionProduceResponse}
use Rattle.kp_replay.specs.Line.{answer_part}
use Rattle.kp_replay.proofs.ServingLemmas.{lines-next}
use Rattle.kp_replay.proofs.broker.answer_parts.Goals as goal

abbrev none : PartitionProduceResponse
none = record { partition = pos 0; error_code = pos 0; base_offset = pos 0; log_append_time_ms = pos 0 }

pub loop-entry-preserved : goal.loop-entry-preserved
loop-entry-preserved c =
    let es = c.args.entries.now in
    let i = c.loop-entry.entry-index in
    let e = get_or es i none in
    let inside : i < length es = omega arith in
    ap (map answer_part) c.in_ok-push.ensures.items ∙ lines-next c.loop-entry.parts.items es i _ e inside (get_or_default es i none e inside) (search rules) c.loop-entry.invariant
