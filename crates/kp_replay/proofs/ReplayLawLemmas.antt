-- What holds of every run holds of a replay.
use Rattle.std.proofs.Common.{◌≡◌, ℕ, ◌<◌, List, Result, Ok, Err}
use Rattle.kp_accum.specs.Config.{checked}
use Rattle.kp_schedule.specs.declared.fault.ReplayFault.{ReplayFault}
use Rattle.kp_schedule.specs.declared.schedule.Schedule.{Schedule}
use Rattle.kp_world.specs.Events.{WorldEvent, events_of}
use Rattle.kp_world.specs.Facts.{Facts, facts}
use Rattle.kp_world.specs.Run.{IsReached}
use Rattle.kp_world.specs.World.{Opening, World}
use Rattle.kp_replay.specs.Replaying.{Brings, HoldsOf, HoldsOfEach, Replays, events_in, opening_of}
use Rattle.kp_replay.specs.Shown.{Seen}
use Rattle.kp_replay.proofs.ReachedLemmas.{reached}
use Rattle.kp_replay.proofs.ReplayingLemmas.{all-said, may-begin}

is-reached : (s : Schedule) (w : World) (a : Seen) → checked s.config ≡ Ok tt → Brings s w a → IsReached (opening_of s) (events_of 0 (events_in s)) w
is-reached s w a fine brings = reached s.config w (record {
  partitions = s.partitions;
  senders = s.senders;
  events = events_in s;
  may_begin = may-begin s fine;
  may_be = all-said s.events;
  leads = brings.is_its;
})

pub by-law : (Law : World → Type 0) (s : Schedule) (r : Result Seen ReplayFault) → ((o : Opening) (es : List WorldEvent) (w : World) → IsReached o es w → Law w) → Replays s r → HoldsOf s r Law
by-law Law s (Ok a) law is = λ w brings. law (opening_of s) (events_of 0 (events_in s)) w (is-reached s w a is.0 brings)
by-law Law s (Err fault) law is = tt

pub by-law-of-each : (Law : ℕ → Facts → Type 0) (s : Schedule) (r : Result Seen ReplayFault) → ((o : Opening) (es : List WorldEvent) (w : World) → IsReached o es w → (p : ℕ) → p < o.partitions → Law p (facts w)) → Replays s r → HoldsOfEach s r Law
by-law-of-each Law s (Ok a) law is = λ w brings. law (opening_of s) (events_of 0 (events_in s)) w (is-reached s w a is.0 brings)
by-law-of-each Law s (Err fault) law is = tt
