-- The text of what a log made of a batch, whatever that is.
use Rattle.std.specs.Prelude.{ℕ, List, ◌++◌}
use Rattle.kp_log.specs.declared.answer.Answer.{Answer}
use Rattle.kp_log.specs.Answer.{base_offset_of, code_of}
use Rattle.kp_packing.specs.declared.offering.Offered.{Offered}
use Rattle.kp_text.specs.Lines.{answer_line, batch_line, log_lines}
use Rattle.kp_text.specs.Logs.{values_of}

abbrev pub answered : Answer → List ℕ
answered a = answer_line (code_of a) (base_offset_of a)

abbrev pub report_text : ℕ → ℕ → Offered → List ℕ
report_text size count o = batch_line size count ++ answered o.first ++ answered o.repeat ++ log_lines 0 0 (values_of o.log.records)
