-- A fact with the line `unfolding evaluated` is computed from the definitions.
use Rattle.kp_wire.specs.Varint.{groups}
use Rattle.kp_batch.specs.Record.{attributes, length_field, bytes_or_null, text, header, headers, fields, relative_record}
use Rattle.kp_batch.specs.Spelling.{size_of_batch}
use Rattle.kp_accum.specs.Config.{is_outside, checked}
use Rattle.kp_accum.specs.Queue.{size_of, joins, with_item}
use Rattle.kp_accum.specs.Ready.{is_over, is_pressed, is_ready, is_late}
use Rattle.kp_rules.specs.Partitions.{untold, changed_at, used}
use Rattle.kp_rules.specs.Attempts.{has_window}
use Rattle.kp_rules.specs.Dropping.{drop_requests, disconnect_step}
use Rattle.kp_rules.specs.Leading.{lead_step}
use Rattle.kp_rules.specs.Reports.{with_reports}
use Rattle.kp_rules.specs.Telling.{with_partitions, at_each, at_these}
use Rattle.kp_rules.specs.Flush.{has_marks, is_flushed, flush_step}
use Rattle.kp_rules.specs.MaySend.{is_rested, is_confirmed, is_in_span, is_within_limit, sends, wants_id}
use Rattle.kp_rules.specs.HandingOver.{with_audited, audited, hand_over_in, send_again_in, send_in}
use Rattle.kp_rules.specs.Next.{fitting, next_batches, next_demand}
use Rattle.kp_rules.specs.Requesting.{request_step}
use Rattle.kp_rules.specs.Fence.{give_up, fence}
use Rattle.kp_rules.specs.Closing.{close_step, end_step}
use Rattle.kp_rules.specs.Tick.{has_timed_out, late_front, behind_late, heed_deadlines, tick_step}
use Rattle.kp_rules.specs.Settling.{meaning_of, settle_batch}
use Rattle.kp_rules.specs.Mismatch.{answers_batches, answers_id}
use Rattle.kp_rules.specs.Replies.{awaited, response_step, reply_step}
use Rattle.kp_rules.specs.Appending.{may_append, would_exhaust, append_step}
use Rattle.kp_rules.specs.Due.{partition_moments, moments, next_due_from}
use Rattle.kp_rules.specs.Opening.{new_core}

unfoldable pub evaluated : Unit {0}
unfolding groups attributes length_field bytes_or_null text header headers fields relative_record size_of_batch is_outside checked size_of joins with_item is_over is_pressed is_ready is_late untold changed_at used has_window drop_requests disconnect_step lead_step with_reports with_partitions at_each at_these has_marks is_flushed flush_step is_rested is_confirmed is_in_span is_within_limit sends wants_id with_audited audited hand_over_in send_again_in send_in fitting next_batches next_demand request_step give_up fence close_step end_step has_timed_out late_front behind_late heed_deadlines tick_step meaning_of settle_batch answers_batches answers_id awaited response_step reply_step may_append would_exhaust append_step partition_moments moments next_due_from new_core
evaluated = tt
