use Rattle.std.proofs.Common.{◌≡◌, ◌<◌, ◌+◌, ◌++◌, ◌∙◌, ℕ, List, [], Some, ap, sym, length, get_or, drop, append_assoc, slice_get, arith}
use Rattle.std.proofs.lemmas.List.{length-map}
use Rattle.kp_text.specs.Lines.{log_line, log_lines}
use Rattle.kp_text.specs.Logs.{values_of}
use Rattle.kp_text.proofs.LogLemmas.{log_lines-drop, values_of-at}
use Rattle.kp_text.proofs.logs.put_log.Goals as goal

pub loop-offset-preserved : goal.loop-offset-preserved
loop-offset-preserved c =
    let partition = c.args.partition in
    let records = c.args.log.now.records in
    let k = c.loop-offset.offset in
    let values = values_of records in
    let before = c.loop-offset.out.items in
    let later = log_lines partition (k + 1) (drop (k + 1) values) in
    let within : k < length records = omega arith in
    let among : k < length values = simp length-map within in
    let stored = c.unwrap-stored.result.now in
    let at : Some stored ≡ slice_get records k = rw c.unwrap-stored.ensures at c.get.ensures in
    let value = c.value_in.ensures ∙ sym (values_of-at records k stored at) in
    ap (λ (text : List ℕ). text ++ later) (c.in_ok-put_log_line.ensures ∙ ap (λ (v : List ℕ). before ++ log_line partition k v) value)
    ∙ append_assoc before (log_line partition k (get_or values k [])) later
    ∙ ap (λ (text : List ℕ). before ++ text) (sym (log_lines-drop partition values k among))
    ∙ c.loop-offset.invariant
