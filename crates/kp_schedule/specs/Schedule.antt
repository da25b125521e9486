-- What a text says as a schedule.
use Rattle.std.specs.Prelude.{◌≡◌, ℕ, ◌+◌, ◌<◌, ◌≤◌, List, [], ◌∷◌, ◌++◌, length, map, Result, Ok, Err}
use Rattle.kp_schedule.specs.Config.{config_of}
use Rattle.kp_schedule.specs.Draft.{at}
use Rattle.kp_schedule.specs.Grammar.{Says}
use Rattle.kp_schedule.specs.Lines.{Text, lines}
use Rattle.kp_schedule.specs.Reading.{MayFollow, Say, drafted, set_or}
use Rattle.kp_schedule.specs.declared.fault.ReplayFault.{ReplayFault}
use Rattle.kp_schedule.specs.declared.fault.ReplayFault.TheVariants.{BadLine, NoSuch, Config, TooLong, OutOfMemory}
use Rattle.kp_schedule.specs.declared.parsing.TheConstants.{LINE_LIMIT}
use Rattle.kp_schedule.specs.declared.saying.Saying.{Saying}
use Rattle.kp_schedule.specs.declared.schedule.Schedule.{Schedule}
use Rattle.kp_schedule.specs.declared.setting.Setting.TheVariants.{Partitions, Senders}

-- The text's lines are understood, one behind another, and this is what they come to.
pub record Spells (text : Text) (s : Schedule) : Type 0 where
  pub sayings : List Saying
  pub said : Say [] (lines text) sayings
  pub config : s.config ≡ config_of (drafted sayings).settings
  pub partitions : s.partitions ≡ set_or Partitions 1 (drafted sayings).settings
  pub senders : s.senders ≡ set_or Senders 1 (drafted sayings).settings
  pub events : map at s.events ≡ (drafted sayings).events

-- All lines before this one, which has this number from 1, are understood, and it is not.
pub record IsFirstBad (text : Text) (n : ℕ) : Type 0 where
  pub earlier : List Text
  pub line : Text
  pub later : List Text
  pub there : lines text ≡ earlier ++ line ∷ later
  pub number : n ≡ length earlier + 1
  pub sayings : List Saying
  pub said : Say [] earlier sayings
  pub bad : (x : Saying) → Says line x → MayFollow sayings x → ⊥

-- Some line says something.
pub record HasSaying (text : Text) : Type 0 where
  pub earlier : List Text
  pub line : Text
  pub later : List Text
  pub there : lines text ≡ earlier ++ line ∷ later
  pub saying : Saying
  pub says : Says line saying

abbrev pub IsShort : Text → Type 0
IsShort text = length (lines text) ≤ LINE_LIMIT

-- What parsing a text answers. Want of memory alone may stand in place of a schedule or a bad line.
abbrev pub ParsesSchedule : Text → Result Schedule ReplayFault → Type 0
ParsesSchedule text (Ok s) = IsShort text × Spells text s
ParsesSchedule text (Err TooLong) = LINE_LIMIT < length (lines text)
ParsesSchedule text (Err (BadLine n)) = IsShort text × IsFirstBad text n
ParsesSchedule text (Err OutOfMemory) = IsShort text × HasSaying text
ParsesSchedule text (Err (NoSuch n)) = ⊥
ParsesSchedule text (Err (Config fault)) = ⊥
