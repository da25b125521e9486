-- What is new, and what was done for it.
use Rattle.std.specs.Prelude.{◌≡◌, ◌⊎◌, ◌<◌, ℕ, zero, suc, length, Bool, true, false, List, Option, Some, None, Result, Ok, Err, min, ◌+◌, ◌-◌, ◌^◌, if◌then◌else◌, nat_eq, nat_lt}
use Rattle.std.specs.List.{list_any}
use Rattle.futures.specs.declared.task.Poll.{Poll}
use Rattle.futures.specs.declared.task.Poll.TheVariants.{Ready, Pending}
use Rattle.kp_cluster.specs.Backoff.{Loses}
use Rattle.kp_cluster.specs.Cluster.{Cluster, asking_again, chart_refused, connected, is_open_at, leader_of, with_answered, with_wanted}
use Rattle.kp_cluster.specs.Actions.{told}
use Rattle.kp_cluster.specs.Learning.{learned}
use Rattle.kp_cluster.specs.Metadata.{asked, may_ask}
use Rattle.kp_cluster.specs.Runs.{Call, Step}
use Rattle.kp_cluster.specs.declared.action.Action.{Action}
use Rattle.kp_cluster.specs.declared.action.Action.TheVariants.{Close, Connect}
use Rattle.kp_hello.specs.declared.chart.Chart.{Chart}
use Rattle.kp_hello.specs.declared.fault.HandshakeFault.{HandshakeFault}
use Rattle.kp_hello.specs.declared.fault.HandshakeFault.TheVariants.{Refused}
use Rattle.kp_core.specs.Busy.{has_work_for}
use Rattle.kp_network.specs.Links.{AreStill, IsDialing, OnlyAt, has, link_at}
use Rattle.kp_network.specs.declared.link.Link.{Link}
use Rattle.kp_network.specs.declared.link.Link.TheVariants.{Away, Made}
use Rattle.kp_network.specs.declared.nodes.Nodes.{Nodes}
use Rattle.kp_network.specs.declared.question.Question.{Question}
use Rattle.kp_rules.specs.Records.{Core}
use Rattle.kp_running.specs.declared.keeping.News.{News}
use Rattle.kp_running.specs.declared.keeping.News.TheVariants.{Connected, Dropped, Ended, Led}

-- what a poll answers, where it is ready
abbrev pub ready_of : {A : Type 0} → Poll A → Option A
ready_of Pending = None
ready_of (Ready x) = Some x

-- ---- leaders

-- the node that is told where a partition has no leader: no connection is to it
abbrev pub NOBODY : ℕ
NOBODY = 4294967295

abbrev pub told_leader : Option ℕ → ℕ
told_leader (Some node) = node
told_leader None = NOBODY

-- the connection to the node is wanted, where there is work for it
abbrev pub with_wanted_for : (has_work : ℕ → Bool) → ℕ → Cluster → Cluster
with_wanted_for has_work node c = if has_work node then with_wanted node c else c

-- the same of each of so many nodes
abbrev pub all_wanted : (has_work : ℕ → Bool) → (count : ℕ) → Cluster → Cluster
all_wanted has_work zero c = c
all_wanted has_work (suc node) c = with_wanted_for has_work node (all_wanted has_work node c)

-- there is work for this node: something is queued or open of a partition that it leads, as the engine was told
abbrev pub has_work_in : Core → ℕ → Bool
has_work_in core node = list_any (has_work_for node) core.partitions

-- ---- replies

-- Metadata is wanted where so many replies told of no record, if any did: a leader may have moved.
abbrev pub heeding_replies : ℕ → Cluster → Cluster
heeding_replies unreported c = if nat_lt 0 unreported then asking_again c else c

-- ---- questions

-- Metadata was asked of the node. Where its connection can't be begun, there is no chart.
abbrev pub Asks : {K S : Type 0} → (node now : ℕ) → Cluster → Option (Question K S) → Cluster → Type 0
Asks node now a (Some question) b = (b ≡ asked node now a) × (question.node ≡ node)
Asks node now a None b = b ≡ chart_refused (asked node now a)

-- Another question takes its place where Metadata may be asked for, and of no node that it may not be asked of.
pub data Renews {K S : Type 0} (now : ℕ) (a b : Cluster) (old : Option (Question K S)) : Option (Question K S) → Type 0 where
  stays : ((n : ℕ) → n < length a.slots → may_ask n now a ≡ false) → b ≡ a → Renews now a b old old
  another : (node : ℕ) (new : Option (Question K S)) → may_ask node now a ≡ true → Asks node now a new b → Renews now a b old new

-- A chart is learned, or refused where there is no memory for it; what is no chart is refused. The failures of a node that answered
-- are forgotten.
abbrev pub Hears : (node now : ℕ) → Result Chart HandshakeFault → Cluster → Cluster → Type 0
Hears node now (Ok chart) a b =
    (b ≡ learned chart.nodes.items chart.leaders.items now (with_answered node a)) ⊎ (b ≡ chart_refused (with_answered node a))
Hears node now (Err (Refused code)) a b = b ≡ chart_refused (with_answered node a)
Hears node now (Err fault) a b = b ≡ chart_refused a

-- of how many partitions the engine was told who leads them by the last chart, behind an answer
abbrev pub told_after : Result Chart HandshakeFault → ℕ → ℕ
told_after (Ok chart) count = 0
told_after (Err fault) count = count

-- a question, while the connection to its node is open
abbrev pub while_open : {K S : Type 0} → Cluster → Option (Question K S) → Option (Question K S)
while_open c None = None
while_open c (Some question) = if is_open_at question.node c.slots then Some question else None

-- A question waits on, or its answer is heard, while the connection to its node is open; else it is left.
pub data GoesOn {K S : Type 0} (now : ℕ) (a b : Cluster) (count : ℕ) : ℕ → (old new : Option (Question K S)) → Type 0 where
  none : b ≡ a → GoesOn now a b count count None None
  left : (old : Question K S) → is_open_at old.node a.slots ≡ false → b ≡ a → GoesOn now a b count count (Some old) None
  waits : (old new : Question K S) → is_open_at old.node a.slots ≡ true → new.node ≡ old.node → b ≡ a → GoesOn now a b count count (Some old) (Some new)
  heard : (old : Question K S) (answer : Result Chart HandshakeFault) → is_open_at old.node a.slots ≡ true → Hears old.node now answer a b
      → GoesOn now a b count (told_after answer count) (Some old) None

-- ---- one connection

abbrev pub node_of : Action → ℕ
node_of (Connect node) = node
node_of (Close node) = node

-- The connection to the node is lost, if there was one. It is gone from the engine, where that had it.
pub record Closes {D K : Type 0} (now node : ℕ) (a : Nodes D K) (gone : Option ℕ) (b : Nodes D K) : Type 0 where
  pub lost : Loses node now a.cluster b.cluster
  pub away : link_at node b.links.items ≡ Away
  pub others : OnlyAt node a.links.items b.links.items
  pub had : gone ≡ (if has node a.links.items then Some node else None)

-- It is being made, where there was none.
pub record Begins {D K : Type 0} (node : ℕ) (a b : Nodes D K) : Type 0 where
  pub cluster : b.cluster ≡ a.cluster
  pub none : link_at node a.links.items ≡ Away
  pub dialing : IsDialing (link_at node b.links.items)
  pub others : OnlyAt node a.links.items b.links.items

-- What was told is done. A connection that can't be begun is closed.
pub data Obeys {D K : Type 0} (now : ℕ) (a b : Nodes D K) : Action → Option ℕ → Type 0 where
  begins : (node : ℕ) → Begins node a b → Obeys now a b (Connect node) None
  closes : (action : Action) (gone : Option ℕ) → Closes now (node_of action) a gone b → Obeys now a b action gone

-- What is told next is done, if there is anything.
pub data Acts {D K : Type 0} (now : ℕ) (a b : Nodes D K) : Option ℕ → Type 0 where
  nothing : told now a.cluster ≡ record { action = None; cluster = b.cluster } → b.links.items ≡ a.links.items → Acts now a b None
  something : (mid : Nodes D K) (action : Action) (gone : Option ℕ) → told now a.cluster ≡ record { action = Some action; cluster = mid.cluster }
      → mid.links.items ≡ a.links.items → Obeys now mid b action gone → Acts now a b gone

-- where no connection may be made, nothing is
abbrev pub ActsIf : {D K : Type 0} → Bool → (now : ℕ) → (a b : Nodes D K) → Option ℕ → Type 0
ActsIf true now a b gone = Acts now a b gone
ActsIf false now a b gone = (b ≡ a) × (gone ≡ None)

-- Of the connections that are being made one was made, or one is lost, or neither. The failures of a node to which one was made are
-- forgotten.
pub data Makes {D K S : Type 0} (now : ℕ) (a b : Nodes D K) : Option (ℕ × S) → Type 0 where
  still : b.cluster ≡ a.cluster → AreStill a.links.items b.links.items → Makes now a b None
  lost : (links : List (Link K)) (node : ℕ) → AreStill a.links.items links → IsDialing (link_at node links) → OnlyAt node links b.links.items
      → Loses node now a.cluster b.cluster → link_at node b.links.items ≡ Away → Makes now a b None
  made : (links : List (Link K)) (node : ℕ) (stream : S) → AreStill a.links.items links → IsDialing (link_at node links) → OnlyAt node links b.links.items
      → b.cluster ≡ with_answered node (connected node a.cluster) → link_at node b.links.items ≡ Made → Makes now a b (Some (node, stream))

-- ---- all of them

-- Calls on a cluster at this moment by which it is not told that a connection is open.
abbrev pub IsQuiet : (now : ℕ) → Call → Type 0
IsQuiet now (Call.NextAction at) = at ≡ now
IsQuiet now (Call.Connected node) = ⊥
IsQuiet now (Call.Lost node at) = at ≡ now
IsQuiet now (Call.GiveUp node) = Unit {0}
IsQuiet now (Call.Want node) = Unit {0}
IsQuiet now (Call.Answered node) = Unit {0}
IsQuiet now (Call.Asked node at) = at ≡ now
IsQuiet now Call.AskAgain = Unit {0}
IsQuiet now Call.RefuseChart = Unit {0}
IsQuiet now (Call.Heed at) = at ≡ now
IsQuiet now (Call.Learn nodes leaders at) = at ≡ now

pub data Goes (now : ℕ) (a : Cluster) : Cluster → Type 0 where
  not_yet : Goes now a a
  once_more : (b c : Cluster) (call : Call) → Goes now a b → IsQuiet now call → Step b call c → Goes now a c

-- What the cluster knows of what is new. Last it was told that a connection is open, and of no other one, and that its node's failures
-- are forgotten; or that one is closed; a leader is as it has it.
abbrev pub Knows : {S : Type 0} → (now : ℕ) → Cluster → Option (News S) → Cluster → Type 0
Knows now a None b = Goes now a b
Knows now a (Some (Connected node stream)) b = (mid : Cluster) × Goes now a mid × (b ≡ with_answered node (connected node mid))
Knows now a (Some (Led partition node)) b = Goes now a b × (node ≡ told_leader (leader_of partition b))
Knows now a (Some (Dropped node)) b = (mid : Cluster) × Goes now a mid × Loses node now mid b
Knows now a (Some Ended) b = ⊥

-- whether the engine has a connection to node k behind it, where this says whether it had one
abbrev pub has_after : {S : Type 0} → Option (News S) → (k : ℕ) → Bool → Bool
has_after None k had = had
has_after (Some (Connected node stream)) k had = if nat_eq k node then true else had
has_after (Some (Led partition node)) k had = had
has_after (Some (Dropped node)) k had = if nat_eq k node then false else had
has_after (Some Ended) k had = had

-- how many connections it was given behind it, as a u32
abbrev pub made_after : {S : Type 0} → Option (News S) → ℕ → ℕ
made_after None count = count
made_after (Some (Connected node stream)) count = min (count + 1) (2 ^ 32 - 1)
made_after (Some (Led partition node)) count = count
made_after (Some (Dropped node)) count = count
made_after (Some Ended) count = count

-- Who leads the partitions is told in their order; behind a chart from the first on.
abbrev pub IsToldNext : {S : Type 0} → Option (News S) → (before after : ℕ) → Type 0
IsToldNext None before after = (after ≡ before) ⊎ (after ≡ 0)
IsToldNext (Some (Connected node stream)) before after = after ≡ before
IsToldNext (Some (Led partition node)) before after = (partition ≡ before) × (after ≡ before + 1)
IsToldNext (Some (Dropped node)) before after = after ≡ before
IsToldNext (Some Ended) before after = after ≡ before

-- It is given a connection where it has none, and is to drop one that it has.
abbrev pub IsInTurn : {S : Type 0} → Option (News S) → (had : ℕ → Bool) → Type 0
IsInTurn None had = Unit {0}
IsInTurn (Some (Connected node stream)) had = had node ≡ false
IsInTurn (Some (Led partition node)) had = Unit {0}
IsInTurn (Some (Dropped node)) had = had node ≡ true
IsInTurn (Some Ended) had = Unit {0}

-- What is new is told to both: the cluster, and the engine.
pub record Tells {D K S : Type 0} (now : ℕ) (a : Nodes D K) (news : Option (News S)) (b : Nodes D K) : Type 0 where
  pub knows : Knows now a.cluster news b.cluster
  pub after : (k : ℕ) → has k b.links.items ≡ has_after news k (has k a.links.items)
  pub turn : IsInTurn news (λ node. has node a.links.items)
