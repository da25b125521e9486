-- What an engine may be made of.
use Rattle.std.specs.Prelude.{◌≡◌, ℕ, ◌≤◌, Bool, [], length, All}
use Rattle.kp_accum.specs.declared.config.Config.{Config}
use Rattle.kp_lanes.specs.Intake.{lanes_of, intake_limits, passed_lists, told_lists}
use Rattle.kp_lanes.specs.declared.intake.Intake.{Intake}
use Rattle.kp_rules.specs.Auditing.{opened}
use Rattle.kp_rules.specs.Opening.{MayOpen, new_core}
use Rattle.kp_rules.specs.Records.{Core}
use Rattle.kp_rules.specs.declared.names.Names.{Names}

-- a core of which nothing was asked yet
pub record IsFresh (core : Core) : Type 0 where
  pub audits : Bool
  pub config : Config
  pub names : Names
  pub partitions : ℕ
  pub senders : ℕ
  pub id : ℕ
  pub correlation : ℕ
  pub may : MayOpen config names partitions senders id correlation
  pub is : core ≡ opened audits (new_core config names partitions senders id correlation)

-- An engine may be made of a fresh core and of lanes through which nothing went: of the core's
-- senders and partitions, with records that the core may append.
pub record MayTurn (core : Core) (intake : Intake) : Type 0 where
  pub fresh : IsFresh core
  pub senders : length (lanes_of intake) ≡ length core.reports
  pub partitions : (intake_limits intake).partitions ≡ length core.partitions
  pub request : (intake_limits intake).max_record ≤ core.config.max_request_size
  pub memory : (intake_limits intake).max_record ≤ core.config.buffer_memory
  pub nothing_passed : All (λ l. l ≡ []) (passed_lists intake)
  pub nothing_told : All (λ l. l ≡ []) (told_lists intake)
