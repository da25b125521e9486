-- An engine over several nodes that lasts through outages.
use Rattle.std.specs.Prelude.{◌≡◌, ◌⊎◌, ℕ, Bool, true, false, List, [], ◌∷◌, Option, Some, None, Result, Ok, Err}
use Rattle.futures.specs.declared.task.Poll.{Poll}
use Rattle.futures.specs.declared.task.Poll.TheVariants.{Ready, Pending}
use Rattle.kp_connection.specs.Wire.{Told}
use Rattle.kp_core.specs.Spent.{can_only_end}
use Rattle.kp_engine.specs.Cluster.{DropsNow, LeadsNow, PollsCluster}
use Rattle.kp_engine.specs.Lines.{Connects, node_lost, stop_at}
use Rattle.kp_engine.specs.Polls.{IsDone}
use Rattle.kp_engine.specs.declared.cluster.ClusterEngine.{ClusterEngine}
use Rattle.kp_engine.specs.declared.node_line.NodeLine.{NodeLine}
use Rattle.kp_engine.specs.declared.stop.Cause.{Cause}
use Rattle.kp_engine.specs.declared.stop.Cause.TheVariants.{BadReply, Io, TimedOut}
use Rattle.kp_engine.specs.declared.stop.Stop.{Stop}
use Rattle.kp_engine.specs.declared.stop.Stop.TheVariants as stop
use Rattle.kp_running.specs.Engines.{read_by}
use Rattle.kp_running.specs.Over.{IfGivenUp, IsSpent, over_of}
use Rattle.kp_running.specs.declared.fleet.Fleet.{Fleet}
use Rattle.kp_running.specs.declared.keeping.News.{News}
use Rattle.kp_running.specs.declared.keeping.News.TheVariants.{Connected, Dropped, Ended, Led}
use Rattle.kp_running.specs.declared.over.Over.{Over}
use Rattle.kp_running.specs.declared.over.Over.TheVariants.{Done, GaveUp, OutOfMemory, Spent}

-- what one of these connections waits for, where it is open
abbrev pub read_by_each : {S : Type 0} → (S → ℕ → Type 0) → List (NodeLine S) → ℕ → Type 0
read_by_each reader [] source = ⊥
read_by_each reader (l ∷ ls) source = read_by reader l.line source ⊎ read_by_each reader ls source

-- ---- a connection that was lost

-- why the last connection was lost, once one was that was given up for this
abbrev pub why_after : Option Stop → Cause → Cause
why_after (Some (stop.NeedStream cause)) why = cause
why_after (Some stop.Done) why = why
why_after (Some stop.OutOfMemory) why = why
why_after None why = why

-- A connection to this node was given up: it is dropped, with what was in flight there.
pub record Loses {S C K : Type 0} (moments : C → List ℕ) (node : ℕ) (old new : Fleet S C K) : Type 0 where
  pub lost : node_lost old.engine.lines.items ≡ Some node
  pub drops : DropsNow moments node old.engine new.engine
  pub why : new.why ≡ why_after (stop_at node old.engine.lines.items) old.why

-- ---- what is new

-- how many requests a connection begins with at a time: one, where the last connection that was lost had timed out; else as many as the
-- core allows
abbrev pub window_behind : Cause → Option ℕ
window_behind TimedOut = Some 1
window_behind Io = None
window_behind (BadReply fault) = None

-- The connection was given to it, behind one that was lost for this; nothing else is changed.
pub record IsConnected {S C : Type 0} (why : Cause) (node : ℕ) (stream : S) (old new : ClusterEngine S C) : Type 0 where
  pub lines : Connects node stream (window_behind why) old.lines.items new.lines.items
  pub exchange : new.exchange ≡ old.exchange
  pub clock : new.clock ≡ old.clock
  pub over : new.over ≡ old.over

-- Nothing of it has changed but the room that it has.
pub record Stays {S C : Type 0} (old new : ClusterEngine S C) : Type 0 where
  pub exchange : new.exchange ≡ old.exchange
  pub clock : new.clock ≡ old.clock
  pub lines : new.lines.items ≡ old.lines.items
  pub over : new.over ≡ old.over

-- What was new is done: a connection is given to the engine, or its memory was refused; another leader is told; connections are
-- dropped; or there is to be none any more, since the last one was lost for this.
abbrev pub Heeds : {S C : Type 0} (moments : C → List ℕ) → Cause → News S → ClusterEngine S C → Result (Unit {0}) Over → ClusterEngine S C → Type 0
Heeds moments why (Connected node stream) old (Ok done) new = IsConnected why node stream old new
Heeds moments why (Connected node stream) old (Err over) new = Stays old new × (over ≡ OutOfMemory)
Heeds moments why (Led partition node) old result new = LeadsNow moments partition node old new × (result ≡ Ok tt)
Heeds moments why (Dropped node) old result new = DropsNow moments node old new × (result ≡ Ok tt)
Heeds moments why Ended old result new = (new ≡ old) × (result ≡ Err (GaveUp why))

-- A connection that was lost is dropped. Where there is none, one thing that was new is done, if anything was. This says whether
-- there was either, or why it does not go on.
pub data TakesNews {S C K : Type 0} (moments : C → List ℕ) (old : Fleet S C K) : Result Bool Over → Fleet S C K → Type 0 where
  lost : (new : Fleet S C K) (node : ℕ) → Loses moments node old new → TakesNews moments old (Ok true) new
  nothing : (new : Fleet S C K) → node_lost old.engine.lines.items ≡ None → new.engine ≡ old.engine → new.why ≡ old.why → TakesNews moments old (Ok false) new
  heeds : (new : Fleet S C K) (news : News S) → node_lost old.engine.lines.items ≡ None → Heeds moments old.why news old.engine (Ok tt) new.engine
      → new.why ≡ old.why → TakesNews moments old (Ok true) new
  ends : (new : Fleet S C K) (news : News S) (over : Over) → node_lost old.engine.lines.items ≡ None → Heeds moments old.why news old.engine (Err over) new.engine
      → new.why ≡ old.why → TakesNews moments old (Err over) new

-- ---- polls

-- One poll: what is new, and then a poll of the engine. Or none is made: there is to be no connection any more, or memory was refused
-- for one; or nothing more can be sent.
pub data FleetOnce {S C K : Type 0} (answers : Told S) (moments : C → List ℕ) (old : Fleet S C K) : Poll Over → Fleet S C K → Type 0 where
  turned : (mid new : Fleet S C K) (again : Bool) (polled : Poll Stop) → can_only_end old.engine.exchange.core ≡ false → TakesNews moments old (Ok again) mid
      → PollsCluster answers moments mid.engine polled new.engine → new.why ≡ mid.why → FleetOnce answers moments old (over_of polled) new
  ended : (new : Fleet S C K) (over : Over) → can_only_end old.engine.exchange.core ≡ false → TakesNews moments old (Err over) new
      → FleetOnce answers moments old (Ready over) new
  used_up : can_only_end old.engine.exchange.core ≡ true → FleetOnce answers moments old (Ready Spent) old

-- The same, with what keeps its connections: how many it may make anew stays, and it is given up only where it has made as many.
pub record FleetPolls {S C K : Type 0} (answers : Told S) (moments : C → List ℕ) (limit : K → Option ℕ) (made : K → ℕ) (old : Fleet S C K) (result : Poll Over) (new : Fleet S C K) : Type 0 where
  pub once : FleetOnce answers moments old result new
  pub same : limit new.keeping ≡ limit old.keeping
  pub spent : IfGivenUp result (IsSpent (limit new.keeping) (made new.keeping))

-- ---- how it is left

-- it has not stopped
abbrev pub IsGoing : {S C K : Type 0} → Fleet S C K → Type 0
IsGoing fleet = fleet.engine.over ≡ None

-- by the answer of a poll that was made while it had not
abbrev pub IsLeft : {S C K : Type 0} → Poll Over → Fleet S C K → Type 0
IsLeft Pending fleet = IsGoing fleet
IsLeft (Ready Done) fleet = IsDone fleet.engine.exchange
IsLeft (Ready (GaveUp cause)) fleet = cause ≡ fleet.why
IsLeft (Ready Spent) fleet = can_only_end fleet.engine.exchange.core ≡ true
IsLeft (Ready OutOfMemory) fleet = Unit {0}
