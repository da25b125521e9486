use Rattle.std.proofs.lemmas.Bool.{OnTrue_from}
use Rattle.kp_run.specs.Jobs.{deal_of}
use Rattle.kp_run.proofs.JobLemmas.{is_line, ran, went_on, went_past}
use Rattle.kp_run.proofs.sender_thread.Job.send_line.Goals as goal

pub returns-in-Ok-send-clause-goes_on : goal.returns-in-Ok-send-clause-goes_on
returns-in-Ok-send-clause-goes_on g c = OnTrue_from _ _ (λ yes. went_on (deal_of c.args.task) c.args.k _ _ _ _ _
    c.in-Ok-send.ensures.sent c.flush_after.ensures.nothing c.hear_some.ensures.nothing c.hear_some.ensures.keeps c.requires.sent
    (is_line (deal_of c.args.task) _ _ c.args.k _ _ _ c.number-sender.ensures c.in-Some.ensures c.in-Ok.ensures))

pub returns-in-Ok-send-clause-ran : goal.returns-in-Ok-send-clause-ran
returns-in-Ok-send-clause-ran g c = ran (deal_of c.args.task) _ _ (went_on (deal_of c.args.task) c.args.k _ _ _ _ _
    c.in-Ok-send.ensures.sent c.flush_after.ensures.nothing c.hear_some.ensures.nothing c.hear_some.ensures.keeps c.requires.sent
    (is_line (deal_of c.args.task) _ _ c.args.k _ _ _ c.number-sender.ensures c.in-Some.ensures c.in-Ok.ensures))

pub returns-in-Err-RecordTooLarge-clause-goes_on : goal.returns-in-Err-RecordTooLarge-clause-goes_on
returns-in-Err-RecordTooLarge-clause-goes_on g c = OnTrue_from _ _ (λ yes. went_past (deal_of c.args.task) c.args.k _ _ _ _
    c.in-Err-RecordTooLarge.ensures.unsent c.hear_some-in-Err-RecordTooLarge.ensures.nothing c.hear_some-in-Err-RecordTooLarge.ensures.keeps
    (c.in-Err-RecordTooLarge.ensures.too_large c.in-Err-RecordTooLarge.field-0-is) c.requires.sent
    (is_line (deal_of c.args.task) _ _ c.args.k _ _ _ c.number-sender.ensures c.in-Some.ensures c.in-Ok.ensures))
