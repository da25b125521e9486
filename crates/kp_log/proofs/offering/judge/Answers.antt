use Rattle.std.proofs.Common.{true, false, ap, sym, ◌∙◌, unwrap_or, SFits, w64, rules}
use Rattle.std.proofs.lemmas.Int.{to_z-of_z}
use Rattle.kp_log.specs.Log.{nothing_kept, log_of}
use Rattle.kp_log.specs.SequenceRule.{repeated, is_older}
use Rattle.kp_log.proofs.LogLemmas.{counted_known}
use Rattle.kp_log.proofs.RuleLemmas.{verdict_negative, verdict_epoch, verdict_repeat, verdict_next, verdict_older, verdict_gap}
use Rattle.kp_log.proofs.JudgeLemmas.{sign_of, other_epoch, is_addressed, of_spans}
use Rattle.kp_log.proofs.offering.judge.Goals as goal

pub is_next-requires : goal.is_next-requires
is_next-requires c =
    let log = log_of c.args.segments.now c.args.kept.now.entries in
    let id = c.args.batch.now.head.producer_id in
    record {
      counted = c.kept_count.ensures ∙ (ap (λ o. (unwrap_or o nothing_kept).count) c.get-kept.ensures.value ∙ counted_known log id c.requires (sign_of id false (search rules) c.if-head-lt0.false));
      in_length = c.requires.in_length;
    }

pub returns-then-head-lt0 : goal.returns-then-head-lt0
returns-then-head-lt0 c =
    sym (verdict_negative (log_of c.args.segments.now c.args.kept.now.entries) c.args.batch.now (sign_of c.args.batch.now.head.producer_id true (search rules) c.if-head-lt0.true))

pub returns-then-head-ne0 : goal.returns-then-head-ne0
returns-then-head-ne0 c =
    sym (verdict_epoch (log_of c.args.segments.now c.args.kept.now.entries) c.args.batch.now (sign_of c.args.batch.now.head.producer_id false (search rules) c.if-head-lt0.false) (other_epoch c.args.batch.now.head.epoch c.if-head-ne0.true))

pub returns-in-Some : goal.returns-in-Some
returns-in-Some c =
    let b = c.args.batch.now in
    let log = log_of c.args.segments.now c.args.kept.now.entries in
    let fits : SFits w64 c.in-Some.span.base_offset = search rules in
    rw (to_z-of_z w64 c.in-Some.span.base_offset fits) (sym (verdict_repeat log b c.in-Some.span (is_addressed b (search rules) (search rules) c.if-head-lt0.false c.if-head-ne0.false)
    (of_spans (repeated b) _ log b _ _ c.get-kept.ensures.value c.kept_spans-spans.ensures c.in-Some.ensures)))

pub returns-then-is_next : goal.returns-then-is_next
returns-then-is_next c =
    let b = c.args.batch.now in
    let log = log_of c.args.segments.now c.args.kept.now.entries in
    sym (verdict_next log b (is_addressed b (search rules) (search rules) c.if-head-lt0.false c.if-head-ne0.false)
    (of_spans (repeated b) _ log b _ _ c.get-kept.ensures.value c.kept_spans-spans.ensures c.in_default.ensures)
    (sym c.if-is_next.ensures))

pub returns-then-is_older : goal.returns-then-is_older
returns-then-is_older c =
    let b = c.args.batch.now in
    let log = log_of c.args.segments.now c.args.kept.now.entries in
    sym (verdict_older log b (is_addressed b (search rules) (search rules) c.if-head-lt0.false c.if-head-ne0.false)
    (of_spans (repeated b) _ log b _ _ c.get-kept.ensures.value c.kept_spans-spans.ensures c.in_default.ensures)
    (sym c.if-is_next.ensures)
    (of_spans (is_older b) _ log b _ _ c.get-kept.ensures.value c.kept_spans-spans.ensures c.if-is_older.ensures))

pub returns : goal.returns
returns c =
    let b = c.args.batch.now in
    let log = log_of c.args.segments.now c.args.kept.now.entries in
    sym (verdict_gap log b (is_addressed b (search rules) (search rules) c.if-head-lt0.false c.if-head-ne0.false)
    (of_spans (repeated b) _ log b _ _ c.get-kept.ensures.value c.kept_spans-spans.ensures c.in_default.ensures)
    (sym c.if-is_next.ensures)
    (of_spans (is_older b) _ log b _ _ c.get-kept.ensures.value c.kept_spans-spans.ensures c.if-is_older.ensures))
