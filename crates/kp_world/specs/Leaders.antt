-- Leaders that move, and what goes to which node: schedules of one sender, and what they print.
use Rattle.std.specs.Prelude.{◌≡◌, ℕ, List, [], ◌∷◌, ◌++◌, Option, Some, None, Ok, Err, codes}
use Rattle.kp_accum.specs.declared.config.Config.{Config}
use Rattle.kp_accum.specs.Config.{default_config}
use Rattle.kp_world.specs.declared.event.Event.{Event}
use Rattle.kp_world.specs.declared.event.Event.TheVariants.{Accept, Take, Now, Tick, TickNode, Send, SendNode, Deliver, Reply, Drop, Leader}
use Rattle.kp_world.specs.declared.event.Treatment.TheVariants.{Judged}
use Rattle.kp_world.specs.Replay.{replayed}
use Rattle.kp_world.specs.Text.{Text, text}
use Rattle.kp_world.specs.World.{opening, scheduled}

pub record Exhibit : Type 0 where
  pub config : Config
  pub partitions : ℕ
  pub events : List Event
  pub printed : Text

-- what the world prints to which the schedule leads
abbrev pub printed_by : Exhibit → Option Text
printed_by x = elim (replayed x.events (opening (scheduled x.config x.partitions 1))) [
  | Ok world ↦ Some (text world)
  | Err place ↦ None
]

abbrev pub Prints : Exhibit → Type 0
Prints x = printed_by x ≡ Some x.printed

-- a record of one byte goes through sender 0 to this partition
abbrev pub feed_to : (partition byte : ℕ) → List Event
feed_to p byte = Accept 0 p (byte ∷ []) ∷ Take 0 ∷ []

-- A batch is stored at the old leader, and the answer is not heard. It is sent to the new one after the backoff, where it
-- is a repeat, and is told its offset.
abbrev pub stored_and_moved : Exhibit
stored_and_moved = record {
  config = default_config;
  partitions = 1;
  events = feed_to 0 97 ++ Send ∷ Deliver 0 Judged ∷ Leader 0 1 ∷ Send ∷ SendNode 1
      ∷ Now 100 ∷ Send ∷ SendNode 1 ∷ Deliver 1 Judged ∷ Reply 1 ∷ [];
  printed = codes "sent 0 0:0+1\nanswer 0 0:0@0\nidle\nidle\nidle\nsent 1 0:0+1\nanswer 1 0:0@0\nreport 0 0 0 delivered 0\n"
      ++ codes "log 0 0 a\naudit 0 0 0 1\n";
}

-- One of a request's two partitions moves: the late answer is heard for the other one alone.
abbrev pub moved_in_part : Exhibit
moved_in_part = record {
  config = default_config;
  partitions = 2;
  events = feed_to 0 97 ++ feed_to 1 98 ++ Send ∷ Leader 0 1 ∷ Deliver 0 Judged ∷ Reply 0
      ∷ Now 100 ∷ Send ∷ SendNode 1 ∷ Deliver 1 Judged ∷ Reply 1 ∷ [];
  printed = codes "sent 0 0:0+1 1:0+1\nanswer 0 0:0@0 1:0@0\nreport 0 1 0 delivered 0\nidle\nsent 1 0:0+1\nanswer 1 0:0@0\n"
      ++ codes "report 0 0 0 delivered 0\nlog 0 0 a\nlog 1 0 b\naudit 0 0 0 1\naudit 1 0 0 1\n";
}

-- One request may be in flight to each of two nodes.
abbrev pub windows_apart : Exhibit
windows_apart = record {
  config = record default_config { max_in_flight_requests_per_connection = 1; batch_size = 0 };
  partitions = 2;
  events = Leader 1 1 ∷ feed_to 0 97 ++ feed_to 0 98 ++ feed_to 1 99 ++ Send ∷ Send ∷ SendNode 1
      ∷ Deliver 0 Judged ∷ Reply 0 ∷ SendNode 1 ∷ Send ∷ [];
  printed = codes "sent 0 0:0+1\nidle\nsent 1 1:0+1\nanswer 0 0:0@0\nreport 0 0 0 delivered 0\nidle\nsent 2 0:1+1\n"
      ++ codes "log 0 0 a\naudit 0 0 0 2\naudit 1 0 0 1\n";
}

-- The connection to one node is lost: what was in flight there is sent again, and what is in flight to the other is heard.
abbrev pub lost_at_one : Exhibit
lost_at_one = record {
  config = default_config;
  partitions = 2;
  events = Leader 1 1 ∷ feed_to 0 97 ++ feed_to 1 98 ++ Send ∷ SendNode 1 ∷ Drop
      ∷ Now 100 ∷ SendNode 1 ∷ Send ∷ Deliver 1 Judged ∷ Reply 0 ∷ Deliver 2 Judged ∷ Reply 1 ∷ [];
  printed = codes "sent 0 0:0+1\nsent 1 1:0+1\nidle\nsent 2 0:0+1\nanswer 0 1:0@0\nreport 0 1 0 delivered 0\nanswer 1 0:0@0\n"
      ++ codes "report 0 0 0 delivered 0\nlog 0 0 a\nlog 1 0 b\naudit 0 0 0 1\naudit 1 0 0 1\n";
}

-- A request to one node takes too long: the connection to that one is to be given up, and no other.
abbrev pub late_at_one : Exhibit
late_at_one = record {
  config = default_config;
  partitions = 2;
  events = Leader 1 1 ∷ feed_to 0 97 ++ feed_to 1 98 ++ Send ∷ SendNode 1 ∷ Deliver 0 Judged ∷ Reply 0
      ∷ Now 30000 ∷ Tick ∷ TickNode 1 ∷ Now 30100 ∷ Send ∷ SendNode 1 ∷ Deliver 2 Judged ∷ Reply 1 ∷ [];
  printed = codes "sent 0 0:0+1\nsent 1 1:0+1\nanswer 0 0:0@0\nreport 0 0 0 delivered 0\nreconnect\nidle\nsent 2 1:0+1\n"
      ++ codes "answer 1 1:0@0\nreport 0 1 0 delivered 0\nlog 0 0 a\nlog 1 0 b\naudit 0 0 0 1\naudit 1 0 0 1\n";
}
