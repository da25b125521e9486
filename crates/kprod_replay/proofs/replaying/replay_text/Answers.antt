use Rattle.std.proofs.Common.{inl, inr}
use Rattle.kp_schedule.specs.declared.fault.ReplayFault.TheVariants.{OutOfMemory}
use Rattle.kprod_replay.proofs.ReplayLemmas.{is_why}
use Rattle.kprod_replay.proofs.replaying.replay_text.Goals as goal

pub returns-clause-text : goal.returns-clause-text
returns-clause-text c = record {
  schedule = c.in_ok-schedule.schedule;
  spells = c.in_ok-schedule.ensures.1;
  world = c.in_ok-world.ensures.replayed.1;
  is_its = c.in_ok-world.ensures.replayed.2.is_its;
  printed = c.in_ok-lines.ensures c.in_ok-schedule.schedule.config c.in_ok-world.ensures.replayed.1 c.in_ok-world.ensures.replayed.2.shown;
}

pub returns-in_err-schedule-clause-why : goal.returns-in_err-schedule-clause-why
returns-in_err-schedule-clause-why c =
    is_why c.args.bytes.now c.from_residual.result _ c.from_residual.ensures.1 (inl c.in_err-schedule.ensures)

pub returns-in_err-world-clause-why : goal.returns-in_err-world-clause-why
returns-in_err-world-clause-why c =
    is_why c.args.bytes.now c.from_residual-in_err-world.result _ c.from_residual-in_err-world.ensures.1
    (inr (c.in_ok-schedule.schedule, c.in_ok-schedule.ensures.1, c.in_err-world.ensures.replayed))

pub returns-in_err-lines-clause-why : goal.returns-in_err-lines-clause-why
returns-in_err-lines-clause-why c =
    is_why c.args.bytes.now c.from_residual-in_err-lines.result OutOfMemory c.from_residual-in_err-lines.ensures.1
    (inr (c.in_ok-schedule.schedule, c.in_ok-schedule.ensures.1, c.in_ok-world.ensures.replayed.0))
