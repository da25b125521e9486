use Rattle.std.proofs.Common.{ℕ, ◌<◌, ◌≤◌, List, [], ◌++◌, ◌∙◌, ap, sym, length, arith}
use Rattle.std.specs.Prelude.{Option, flat_map, unwrap_or}
use Rattle.std.specs.List.{enumerate_from}
use Rattle.std.proofs.lemmas.List.FromFn.{length-enumerate_from}
use Rattle.kp_rules.specs.Partitions.{new_partition}
use Rattle.kp_rules.specs.Records.{Partition}
use Rattle.kp_rules.specs.declared.run.Run.{Run}
use Rattle.kp_text.proofs.TextLemmas.{text_done, text_step}
use Rattle.kp_world.specs.Line.{Audited}
use Rattle.kp_replay.specs.Text.{audit_text, told}
use Rattle.kp_replay.proofs.PlaceLemmas.{numbered_at}
use Rattle.kp_replay.proofs.text.logs.put_audits.Goals as goal

pub loop-partition-preserved : goal.loop-partition-preserved
loop-partition-preserved c =
    let ts = c.args.core.now.partitions in
    let k = c.loop-partition.partition in
    let d = new_partition 0 in
    let out = c.loop-partition.out.items in
    let within : k < length ts = omega (arith, c.partitions-partition-end.ensures) in
    let among : k < length (enumerate_from 0 ts) = omega (arith, within, length-enumerate_from 0 ts) in
    text_step audit_text (enumerate_from 0 ts) k out _ (k, d) _ among c.loop-partition.invariant
    (c.in_ok-put_runs.ensures ∙ ap (λ (runs : Option (List Run)). out ++ flat_map (λ r. told (Audited k r)) (unwrap_or runs [])) c.audit.ensures
    ∙ ap (λ (x : ℕ × Partition). out ++ audit_text x) (sym (numbered_at ts k d within)))

pub returns : goal.returns
returns c =
    let ts = c.args.core.now.partitions in
    let past : length (enumerate_from 0 ts) ≤ c.loop-partition.partition = omega (arith, c.partitions-partition-end.ensures, length-enumerate_from 0 ts) in
    text_done audit_text (enumerate_from 0 ts) c.loop-partition.partition c.loop-partition.out.items _ past c.loop-partition.invariant
