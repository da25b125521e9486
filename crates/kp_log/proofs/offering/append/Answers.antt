use Rattle.std.proofs.Common.{◌≡◌, ap, ◌∙◌, unwrap_or, option_copied, arith}
use Rattle.kp_log.specs.Log.{Log, log_of, nothing_kept, count_of}
use Rattle.kp_log.proofs.LogLemmas.{IsNext, next_is, counted_known}
use Rattle.kp_log.proofs.RuleLemmas.{IsTaken, append_is_taken}
use Rattle.kp_log.proofs.offering.append.Goals as goal

pub overflow_cast-span : goal.overflow_cast-span
overflow_cast-span c =
    let next : IsNext c.args.segments.now.records c.args.batch = next_is _ _ (append_is_taken _ c.args.batch c.requires.next).next in
    omega (arith, next.in_sequence, c.len-added.ensures)

pub kept_with-updated-requires : goal.kept_with-updated-requires
kept_with-updated-requires c =
    let log : Log = log_of c.args.segments.now c.args.kept.now.entries in
    let taken : IsTaken log c.args.batch = append_is_taken log c.args.batch c.requires.next in
    let next : IsNext log.records c.args.batch = next_is _ _ taken.next in
    let count : (unwrap_or (option_copied c.get.result) nothing_kept).count ≡ count_of c.args.batch.head.producer_id log.records = ap (λ o. (unwrap_or o nothing_kept).count) c.get.ensures.value ∙ counted_known log c.args.batch.head.producer_id c.requires.sound taken.addressed.known in
    omega (arith, count, next.in_sequence, c.len-added.ensures)
