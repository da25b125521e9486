-- What a run is to be, and the first fault of it.
use Rattle.std.specs.Prelude.{◌≡◌, Result, Ok, Err}
use Rattle.kp_accum.specs.Config.{checked}
use Rattle.kp_run.specs.declared.fault.RunFault.{RunFault}
use Rattle.kp_run.specs.declared.fault.RunFault.TheVariants as fault
use Rattle.kp_run.specs.declared.checked.Checked.{Checked}
use Rattle.kp_options.specs.declared.options.Options.{Options}
use Rattle.kp_options.specs.Places.{plan_text}
use Rattle.kp_run.specs.Plans.{HasPlan, IsPlanOf, TakesMemory}
use Rattle.kp_options.specs.Topics.{IsTopic}

-- The options have no fault.
pub record AreFine (options : Options) (looked_at : Checked) : Type 0 where
  pub same : looked_at.options ≡ options
  pub topic : IsTopic options.topic.now
  pub plan : IsPlanOf (plan_text options.place) looked_at.plan
  pub config : checked options.config ≡ Ok tt

-- Of the topic, the plan and the configuration this is the first fault.
abbrev pub RefusedFor : Options → RunFault → Type 0
RefusedFor options fault.Topic = ¬ IsTopic options.topic.now
RefusedFor options fault.Plan = IsTopic options.topic.now × ¬ HasPlan (plan_text options.place)
RefusedFor options (fault.Config why) =
    IsTopic options.topic.now × HasPlan (plan_text options.place) × (checked options.config ≡ Err why)
RefusedFor options fault.Network = ⊥
RefusedFor options (fault.Handshake why) = ⊥
RefusedFor options fault.OutOfMemory = IsTopic options.topic.now × TakesMemory (plan_text options.place)

-- what looking at options answers
abbrev pub Checks : Options → Result Checked RunFault → Type 0
Checks options (Ok looked_at) = AreFine options looked_at
Checks options (Err why) = RefusedFor options why
