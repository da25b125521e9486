use Rattle.std.proofs.Common.{◌+◌, ◌<◌, [], ◌∷◌, drop, ◌++◌, length, ap, ◌∙◌, arith}
use Rattle.kp_frames.specs.declared.produce.PartitionProduceResponse.{PartitionProduceResponse}
use Rattle.kp_replay.specs.Serving.{entries_after, logs_after, with_taken}
use Rattle.kp_replay.proofs.ServingLemmas.{entries-next, logs-next}
use Rattle.kp_replay.proofs.broker.take_each.Goals as goal

pub loop-part-preserved : goal.loop-part-preserved
loop-part-preserved c =
    let how = c.args.treatment in
    let logs = c.loop-part.logs in
    let es = c.loop-part.entries.items in
    let i = c.loop-part.part-index in
    let ds = c.args.parts.now in
    let d = c.part-item.result in
    let rest = drop (i + 1) ds in
    let inside : i < length ds = omega arith in
    record {
      entries =
          (λ k. c.in_ok-push.ensures.items k ++ entries_after how (c.in_ok-take_at.ensures.logs k) rest)
          ∙ ap (λ (e : PartitionProduceResponse). (es ++ e ∷ []) ++ entries_after how (with_taken how logs d) rest) c.in_ok-take_at.ensures.entry
          ∙ entries-next how logs ds i d inside c.part-item.is es
          ∙ c.loop-part.invariant.entries;
      logs = (λ k. logs_after how (c.in_ok-take_at.ensures.logs k) rest) ∙ logs-next how logs ds i d inside c.part-item.is ∙ c.loop-part.invariant.logs;
    }
