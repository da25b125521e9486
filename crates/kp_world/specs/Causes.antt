-- Why an item is told what it is told, in every step that a world may take: an event tells what the one call on the core
-- tells that it makes, by the outcome rule.
use Rattle.std.specs.Prelude.{◌≡◌, List, [], ◌∷◌, ◌++◌, Option, Some, None, option_map, slice_get}
use Rattle.std.specs.List.{AllByRecursion}
use Rattle.kp_rules.specs.OutcomeRule.{Telling, MayTell, told_in}
use Rattle.kp_rules.specs.OutcomeRule as call
use Rattle.kp_rules.specs.Records.{Core, Told}
use Rattle.kp_world.specs.Accepting.{accepted_by, taken_by}
use Rattle.kp_world.specs.Events.{WorldEvent}
use Rattle.kp_world.specs.Events as world
use Rattle.kp_world.specs.World.{World, Happened}

-- The call that an event makes: taking appends the sender's next item, a tick is at the moment that the clock shows, and a
-- reply is the one that was given. No other event makes one that tells.
abbrev pub call_of : WorldEvent → World → Option Telling
call_of (world.Take s) w = option_map call.Append (slice_get (accepted_by s w) (taken_by s w))
call_of (world.Tick node) w = Some (call.Tick node w.moment)
call_of (world.Reply j) w = option_map (λ r. call.Reply w.moment r.response) (slice_get w.replies j)
call_of world.End w = Some call.End
call_of e w = None

abbrev pub told_by : Option Telling → Core → List Told
told_by (Some c) s = told_in s c
told_by None s = []

-- the call may tell it, by the outcome rule
abbrev pub MayBeTold : Core → Option Telling → Told → Type 0
MayBeTold s (Some c) t = MayTell s c t.item t.outcome
MayBeTold s None t = ⊥

-- The event between these worlds is noted behind those before it; it told what its call tells, and each of it is a case of
-- the outcome rule for this call.
pub record TellsByRule (e : WorldEvent) (before after : World) : Type 0 where
  pub event : Happened
  pub noted : after.past ≡ before.past ++ event ∷ []
  pub told : event.told ≡ told_by (call_of e before) before.core
  pub ruled : AllByRecursion (MayBeTold before.core (call_of e before)) event.told
