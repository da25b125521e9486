use Rattle.std.proofs.Common.{◌∙◌, sym, ap, ◌<◌, ◌≤◌, List, length, arith}
use Rattle.std.proofs.lemmas.List.{drop_all}
use Rattle.kp_rules.specs.declared.outcome.Outcome.TheVariants.{Unknown}
use Rattle.kp_rules.specs.Partitions.{items_open}
use Rattle.kp_rules.specs.Records.{Open}
use Rattle.kp_rules.specs.Telling.{told_all}
use Rattle.kp_parts.specs.Desk.{tell_desk}
use Rattle.kp_parts.proofs.TellingLemmas.{covers_first, covers_then, open_told, tell_desk-nil, told_then}
use Rattle.kp_parts.proofs.partition.fencing.tell_unknown.Goals as goal

pub tell-requires : goal.tell-requires
tell-requires c =
    let os = c.args.open_batches.now in
    let n = c.loop-open.open-index in
    let o = c.open-item.result in
    let lt : n < length os = omega arith in
    let all = open_told Unknown os n o lt c.open-item.is in
    covers_first _ _ _ c.loop-open.desk all c.loop-open.invariant.covers

pub loop-open-preserved : goal.loop-open-preserved
loop-open-preserved c =
    let os = c.args.open_batches.now in
    let n = c.loop-open.open-index in
    let o = c.open-item.result in
    let lt : n < length os = omega arith in
    let all = open_told Unknown os n o lt c.open-item.is in
    record {
      told = told_then _ _ _ c.loop-open.desk c.tell.new.desk all c.tell.ensures ∙ c.loop-open.invariant.told;
      covers = covers_then _ _ _ c.loop-open.desk c.tell.new.desk all c.tell.ensures c.loop-open.invariant.covers;
    }

pub returns : goal.returns
returns c =
    let os = c.args.open_batches.now in
    let n = c.loop-open.open-index in
    let past : length os ≤ n = omega arith in
    let none = ap (λ (z : List Open). tell_desk (told_all Unknown (items_open z)) c.loop-open.desk) (drop_all n os past) in
    sym (none ∙ tell_desk-nil c.loop-open.desk) ∙ c.loop-open.invariant.told
