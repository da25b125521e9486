use Rattle.std.specs.Prelude.{nat_abs}
use Rattle.std.proofs.Common.{◌≡◌, ◌<◌, set, length, get_or, ap, rules, sym, ◌∙◌, arith}
use Rattle.std.proofs.lemmas.List.{get_or_read}
use Rattle.kp_batch.specs.Reading.{batch_at}
use Rattle.kp_log.specs.Log.{Log, empty}
use Rattle.kp_replay.specs.Serving.{Taken, entry_of, taken, taken_at}
use Rattle.kp_replay.proofs.broker.take_at.Goals as goal

pub returns : goal.returns
returns c =
    let how = c.args.treatment in
    let logs = c.args.logs.now in
    let d = c.args.part.now in
    let n = c.unsigned_abs-place.result in
    let place : n ≡ nat_abs d.partition = search rules in
    let within : n < length logs = omega arith in
    let log = c.index-logs-place.result in
    let t : Taken = record { answer = record { code = c.in_ok-code.code; base = c.in_ok-code.base }; log = c.take_part.new.log } in
    let made : taken_at how logs d ≡ t =
    (λ k. taken how (get_or logs (sym place k) empty) (batch_at d.records))
    ∙ ap (λ (l : Log). taken how l (batch_at d.records)) (sym (get_or_read logs n log within c.index-logs-place.is empty) ∙ c.index-logs-place.is)
    ∙ ap (λ bytes. taken how (get_or logs n log) (batch_at bytes)) (sym c.as_slice.ensures) ∙ c.in_ok-code.ensures in
    let answered : c.entry_of.result ≡ entry_of d t.answer = search rules in
    record {
      entry = answered ∙ ap (λ (x : Taken). entry_of d x.answer) (sym made);
      logs = λ k. set logs (place k) (sym made k).log;
    }
