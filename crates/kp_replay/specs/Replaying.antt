-- What a schedule is replayed as.
use Rattle.std.specs.Prelude.{◌≡◌, ℕ, ◌<◌, false, List, map, Some, Result, Ok, Err, IfOk, slice_get}
use Rattle.kp_accum.specs.Config.{checked}
use Rattle.kp_schedule.specs.declared.fault.ReplayFault.{ReplayFault}
use Rattle.kp_schedule.specs.declared.fault.ReplayFault.TheVariants.{BadLine, NoSuch, Config, TooLong, OutOfMemory}
use Rattle.kp_schedule.specs.declared.schedule.Schedule.{Schedule}
use Rattle.kp_schedule.specs.declared.schedule.Scheduled.{Scheduled}
use Rattle.kp_world.specs.Facts.{Facts, facts}
use Rattle.kp_world.specs.Replay.{replayed}
use Rattle.kp_world.specs.World.{Opening, World, opening, scheduled}
use Rattle.kp_world.specs.declared.event.Event.{Event}
use Rattle.kp_replay.specs.Shown.{LeadsOn, Seen, Shows, is_there}

-- ---- what a schedule brings about

abbrev pub opening_of : Schedule → Opening
opening_of s = scheduled s.config s.partitions s.senders

abbrev pub events_in : Schedule → List Event
events_in s = map (λ x. x.event) s.events

-- the world after its events, or the number of the first that names what isn't there
abbrev pub brought_about : Schedule → Result World ℕ
brought_about s = replayed (events_in s) (opening (opening_of s))

-- The schedule brings about this world, of which this is seen.
pub record Brings (s : Schedule) (w : World) (a : Seen) : Type 0 where
  pub is_its : brought_about s ≡ Ok w
  pub shown : Shows s.config w a

-- The event of this line is the first that names what isn't there.
pub record IsFirstAmiss (s : Schedule) (line : ℕ) : Type 0 where
  pub number : ℕ
  pub is_its : brought_about s ≡ Err number
  pub event : Scheduled
  pub said : slice_get s.events number ≡ Some event
  pub line_is : line ≡ event.line

-- ---- what a replay answers

-- The configuration is looked at before all events. Want of memory alone may stand in place of a world or of an event.
abbrev pub Replays : Schedule → Result Seen ReplayFault → Type 0
Replays s (Ok a) = (checked s.config ≡ Ok tt) × (w : World) × Brings s w a
Replays s (Err (Config fault)) = checked s.config ≡ Err fault
Replays s (Err (NoSuch line)) = (checked s.config ≡ Ok tt) × IsFirstAmiss s line
Replays s (Err OutOfMemory) = checked s.config ≡ Ok tt
Replays s (Err TooLong) = ⊥
Replays s (Err (BadLine line)) = ⊥

-- ---- one event

-- What becomes of the world by the event of a line: it leads on, or what it names isn't there. Want of memory alone may
-- stand in place of that.
abbrev pub TakesPlace : Scheduled → Seen → Seen → Result (Unit {0}) ReplayFault → Type 0
TakesPlace x a b (Ok done) = LeadsOn x.event a b
TakesPlace x a b (Err (NoSuch line)) = (line ≡ x.line) × (is_there x.event a ≡ false)
TakesPlace x a b (Err OutOfMemory) = Unit {0}
TakesPlace x a b (Err (Config fault)) = ⊥
TakesPlace x a b (Err TooLong) = ⊥
TakesPlace x a b (Err (BadLine line)) = ⊥

-- ---- laws

-- It holds of the world that is seen.
abbrev pub HoldsOf : Schedule → Result Seen ReplayFault → (World → Type 0) → Type 0
HoldsOf s r Law = IfOk r (λ a. (w : World) → Brings s w a → Law w)

-- the same of each of its partitions
abbrev pub HoldsOfEach : Schedule → Result Seen ReplayFault → (ℕ → Facts → Type 0) → Type 0
HoldsOfEach s r Law = HoldsOf s r (λ w. (p : ℕ) → p < s.partitions → Law p (facts w))
