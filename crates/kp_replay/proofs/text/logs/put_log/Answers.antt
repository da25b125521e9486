use Rattle.std.proofs.Common.{◌≡◌, ℕ, ◌<◌, ◌≤◌, ◌++◌, ◌∙◌, Some, ap, sym, length, slice_get, arith}
use Rattle.std.specs.List.{enumerate_from}
use Rattle.std.proofs.lemmas.List.FromFn.{length-enumerate_from}
use Rattle.kp_log.specs.declared.stored.Stored.{Stored}
use Rattle.kp_text.proofs.TextLemmas.{text_done, text_step}
use Rattle.kp_replay.specs.Text.{stored_line, told}
use Rattle.kp_replay.proofs.PlaceLemmas.{found_at}
use Rattle.kp_replay.proofs.text.logs.put_log.Goals as goal

pub loop-offset-preserved : goal.loop-offset-preserved
loop-offset-preserved c =
    let records = c.args.log.now.records in
    let k = c.loop-offset.offset in
    let line = λ (at : ℕ × Stored). told (stored_line c.args.partition c.args.ids.now at) in
    let within : k < length records = omega arith in
    let among : k < length (enumerate_from 0 records) = omega (arith, length-enumerate_from 0 records) in
    let stored = c.unwrap-stored.result.now in
    let at : Some stored ≡ slice_get records k = rw c.unwrap-stored.ensures at c.get.ensures in
    text_step line (enumerate_from 0 records) k c.loop-offset.out.items _ (k, stored) _ among c.loop-offset.invariant
    (c.in_ok-put_stored.ensures ∙ ap (λ (x : ℕ × Stored). c.loop-offset.out.items ++ line x) (sym (found_at records k stored within (sym at))))

pub returns : goal.returns
returns c =
    let records = c.args.log.now.records in
    let line = λ (at : ℕ × Stored). told (stored_line c.args.partition c.args.ids.now at) in
    let past : length (enumerate_from 0 records) ≤ c.loop-offset.offset = omega (arith, length-enumerate_from 0 records) in
    text_done line (enumerate_from 0 records) c.loop-offset.offset c.loop-offset.out.items _ past c.loop-offset.invariant
