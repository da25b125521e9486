-- A new core, as a hello has it, and the lanes that it serves.
use Rattle.std.specs.Prelude.{◌≡◌, ◌≤◌, Bool, [], length, All}
use Rattle.kp_hello.specs.declared.hello.Hello.{Hello}
use Rattle.kp_lanes.specs.Intake.{intake_limits, lanes_of, passed_lists, told_lists}
use Rattle.kp_lanes.specs.declared.intake.Intake.{Intake}
use Rattle.kp_rules.specs.Auditing.{opened}
use Rattle.kp_rules.specs.Opening.{MayOpen, new_core}
use Rattle.kp_rules.specs.Records.{Core}

-- The core is new, with the hello's partitions, producer id and correlation id; the lanes are its senders', and nothing
-- went through them.
pub record Fits (audits : Bool) (hello : Hello) (core : Core) (intake : Intake) : Type 0 where
  pub may : MayOpen core.config core.names hello.partitions (length core.reports) hello.producer_id hello.next_correlation
  pub is : core ≡ opened audits
      (new_core core.config core.names hello.partitions (length core.reports) hello.producer_id hello.next_correlation)
  pub senders : length (lanes_of intake) ≡ length core.reports
  pub partitions : (intake_limits intake).partitions ≡ length core.partitions
  pub request : (intake_limits intake).max_record ≤ core.config.max_request_size
  pub memory : (intake_limits intake).max_record ≤ core.config.buffer_memory
  pub nothing_passed : All (λ l. l ≡ []) (passed_lists intake)
  pub nothing_told : All (λ l. l ≡ []) (told_lists intake)
