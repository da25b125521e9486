use Rattle.std.proofs.Common.{◌∙◌, sym}
use Rattle.kp_core.proofs.StepLemmas.{ticks_in_time, ticks_late}
use Rattle.kp_core.proofs.machine.Core.look_at.Goals as goal

pub returns-then-is_late : goal.returns-then-is_late
returns-then-is_late c =
    ticks_late c.args.node c.args.now c.args.self.now c.drop_requests.new.self c.heed_deadlines.new.self c.heed_deadlines.result c.requires
    (sym c.is_late.ensures ∙ c.if-is_late.true) c.drop_requests.ensures c.heed_deadlines.ensures.told c.heed_deadlines.ensures.after

pub returns : goal.returns
returns c =
    ticks_in_time c.args.node c.args.now c.args.self.now c.heed_deadlines-2.new.self c.heed_deadlines-2.result c.requires
    (sym c.is_late.ensures ∙ c.if-is_late.false) c.heed_deadlines-2.ensures.told c.heed_deadlines-2.ensures.after
