-- The text of a schedule, and what is printed of it.
use Rattle.std.specs.Prelude.{◌≡◌, ◌⊎◌, ℕ, List, Option, Ok, Err}
use Rattle.std.specs.Io.KnownBytes.{Appends}
use Rattle.kp_replay.specs.Replaying.{brought_about, Replays}
use Rattle.kp_schedule.specs.Schedule.{ParsesSchedule, Spells}
use Rattle.kp_schedule.specs.declared.fault.ReplayFault.{ReplayFault}
use Rattle.kp_schedule.specs.declared.schedule.Schedule.{Schedule}
use Rattle.kp_world.specs.Text.{text}
use Rattle.kp_world.specs.World.{World}

-- The bytes spell a schedule, and this is the text of the world that it brings about.
pub record IsReplayOf (bytes out : List ℕ) : Type 0 where
  pub schedule : Schedule
  pub spells : Spells bytes schedule
  pub world : World
  pub is_its : brought_about schedule ≡ Ok world
  pub printed : out ≡ text world

-- Why there is no such text: the bytes spell no schedule, or the one that they spell is not replayed.
abbrev pub IsWhy : List ℕ → ReplayFault → Type 0
IsWhy bytes fault = ParsesSchedule bytes (Err fault) ⊎ ((s : Schedule) × (Spells bytes s) × Replays s (Err fault))

-- An output has gained the text of what these bytes bring about.
pub record PrintsReplay (bytes : List ℕ) (held held' : Option (List ℕ)) : Type 0 where
  pub text : List ℕ
  pub is_its : IsReplayOf bytes text
  pub printed : Appends held held' text
