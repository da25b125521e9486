use Rattle.std.proofs.Common.{◌≡◌, drop}
use Rattle.kp_schedule.specs.Reading.{value_of}
use Rattle.kp_schedule.proofs.draft.value_of.Given as goal

abbrev pub invariant-loop-setting : goal.invariant-loop-setting
invariant-loop-setting l = value_of l.name l.given ≡ value_of l.name (drop l.setting-index l.given)
