use Rattle.std.proofs.Common.{◌≡◌, ℕ, ◌<◌, ◌≤◌, List, ◌++◌, ◌∙◌, ap, sym, length, get_or, arith}
use Rattle.std.specs.List.{enumerate_from}
use Rattle.std.proofs.lemmas.List.FromFn.{length-enumerate_from}
use Rattle.kp_log.specs.Log.{Log}
use Rattle.kp_text.proofs.TextLemmas.{text_done, text_step}
use Rattle.kp_replay.specs.Text.{log_text, records_text}
use Rattle.kp_replay.proofs.PlaceLemmas.{numbered_at}
use Rattle.kp_replay.proofs.text.logs.put_logs.Goals as goal

pub loop-partition-preserved : goal.loop-partition-preserved
loop-partition-preserved c =
    let logs = c.args.logs.now in
    let ts = c.args.core.now.partitions in
    let k = c.loop-partition.partition in
    let log = c.index-logs-partition.result in
    let out = c.loop-partition.out.items in
    let within : k < length logs = omega arith in
    let among : k < length (enumerate_from 0 logs) = omega (arith, length-enumerate_from 0 logs) in
    let there : get_or (enumerate_from 0 logs) k (k, log) ≡ (k, log) = numbered_at logs k log within ∙ ap (λ (l : Log). (k, l)) (sym c.index-logs-partition.is) in
    text_step (log_text ts) (enumerate_from 0 logs) k out _ (k, log) _ among c.loop-partition.invariant
    (c.in_ok-put_log.ensures ∙ ap (λ (ids : List ℕ). out ++ records_text k ids log.records) c.ids.ensures
    ∙ ap (λ (x : ℕ × Log). out ++ log_text ts x) (sym there))

pub returns : goal.returns
returns c =
    let logs = c.args.logs.now in
    let past : length (enumerate_from 0 logs) ≤ c.loop-partition.partition = omega (arith, length-enumerate_from 0 logs) in
    text_done (log_text c.args.core.now.partitions) (enumerate_from 0 logs) c.loop-partition.partition c.loop-partition.out.items _ past c.loop-partition.invariant
