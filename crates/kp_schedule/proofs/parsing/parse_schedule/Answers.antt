use Rattle.std.proofs.Common.{sym, ◌∙◌}
use Rattle.kp_schedule.specs.declared.setting.Setting.TheVariants.{Partitions, Senders}
use Rattle.kp_schedule.proofs.ReadLemmas.{is-short, none-read, one-more, well}
use Rattle.kp_schedule.proofs.parsing.parse_schedule.Goals as goal

pub loop-rest-init : goal.loop-rest-init
loop-rest-init c =
    none-read c.args.text.now c.new-draft.result (is-short c.args.text.now (sym c.has_more_lines.ensures ∙ c.if-has_more_lines.false)) c.new-draft.ensures

pub loop-rest-preserved : goal.loop-rest-preserved
loop-rest-preserved c =
    one-more c.args.text.now c.loop-rest.rest.now c.loop-rest.number c.loop-rest.draft c.loop-rest.invariant
    c.cut_line.result.0.now c.cut_line.result.1.now c.cut_line.ensures.line c.in_ok-read.field-0 c.read.new.self c.in_ok-read.ensures

pub finish-requires-clause-partitions : goal.finish-requires-clause-partitions
finish-requires-clause-partitions c = well c.args.text.now c.loop-rest.rest.now c.loop-rest.number c.loop-rest.draft c.loop-rest.invariant Partitions

pub finish-requires-clause-senders : goal.finish-requires-clause-senders
finish-requires-clause-senders c = well c.args.text.now c.loop-rest.rest.now c.loop-rest.number c.loop-rest.draft c.loop-rest.invariant Senders
