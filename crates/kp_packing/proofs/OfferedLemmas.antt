-- A log at the first batch of a producer, and at the same batch again.
use Rattle.std.proofs.Common.{◌≡◌, ℕ, ◌≤◌, List, ◌∙◌, ap, sym, refl, arith, pos, Ok}
use Rattle.std.proofs.lemmas.Int.{ints}
use Rattle.kp_batch.specs.declared.batch.BatchHead.{BatchHead}
use Rattle.kp_batch.specs.declared.record.Record.{Record}
use Rattle.kp_batch.specs.Reading.{batch_at}
use Rattle.kp_batch.specs.Spelling.{Spells, base_timestamp, size_of_batch, written}
use Rattle.kp_batch.proofs.BatchLemmas.{batch_again}
use Rattle.kp_batch.proofs.SizeLemmas.{many_records, size_of_batch-is}
use Rattle.kp_log.specs.declared.answer.Answer.{Answer}
use Rattle.kp_log.specs.declared.answer.Answer.TheVariants.{Stored}
use Rattle.kp_log.specs.Log.{Log, appended, empty}
use Rattle.kp_log.specs.SequenceRule.{IsFirst, Judgement, offered}
use Rattle.kp_packing.specs.Offered.{StoredOnce}
use Rattle.kp_log.proofs.RuleLemmas.{first_is_answered_alike, first_is_stored}

abbrev head_of : ℕ → BatchHead
head_of id = record { producer_id = pos id; epoch = pos 0; base_sequence = pos 0 }

abbrev step : Answer → Log → Judgement
step a log = record { answer = a; log = log }

pub stored_once : (id : ℕ) (records : List Record) (bytes : List ℕ) (first repeat : Answer) (between after : Log)
    → size_of_batch records ≤ 2147483647
    → Spells bytes (written (head_of id) records)
    → offered empty (batch_at bytes) ≡ step first between
    → offered between (batch_at bytes) ≡ step repeat after
    → StoredOnce (pos id) records (record { log = after; first = first; repeat = repeat })
stored_once id records bytes first repeat between after fits spells once twice =
    let b = written (head_of id) records in
    let read = batch_again bytes b spells in
    let count = many_records (base_timestamp records) 0 records in
    let is_first : IsFirst b = record {
      known = omega (arith, ints);
      first_epoch = refl;
      from_zero = refl;
      in_sequence = omega (arith, count, size_of_batch-is records);
    } in
    let one : step first between ≡ step (Stored (pos 0)) (appended empty b) =
    sym once ∙ ap (offered empty) read ∙ first_is_stored b is_first in
    let same_log = ap (λ (s : Judgement). s.log) one in
    let two : step repeat after ≡ step (Stored (pos 0)) (appended empty b) =
    sym twice ∙ ap (offered between) read ∙ ap (λ (l : Log). offered l (Ok b)) same_log ∙ first_is_answered_alike b is_first in
    record {
      first = ap (λ (s : Judgement). s.answer) one;
      repeat = ap (λ (s : Judgement). s.answer) two;
      once = ap (λ (s : Judgement). s.log.records) two;
    }
