-- What is said of any moves.
use Rattle.std.specs.Prelude.{◌≡◌, ℕ, true, [], ◌∷◌, ◌++◌, List, replicate, Some, None, Contains, slice_get}
use Rattle.kp_log.specs.BrokerStep.{DUPLICATE_SEQUENCE_NUMBER}
use Rattle.kp_rules.specs.Attempts.{awaiting}
use Rattle.kp_rules.specs.Calls.{Call, Flush, Life, Lives}
use Rattle.kp_rules.specs.Fetched.{before_each}
use Rattle.kp_rules.specs.Flush.{is_flushed}
use Rattle.kp_rules.specs.Partitions.{partition_at}
use Rattle.kp_rules.specs.Records.{Core}
use Rattle.kp_rules.specs.Reports.{with_reports}
use Rattle.kp_rules.specs.Requesting.{Packet}
use Rattle.kp_world.specs.Accounts.{IsToldBy}
use Rattle.kp_world.specs.Handed.{GrowsAtEnd}
use Rattle.kp_world.specs.Run.{MayBegin}
use Rattle.kp_world.specs.World.{Opening}
use Rattle.kp_headline.specs.Assumptions.{Assumed}
use Rattle.kp_headline.specs.Moves.{Move, Calling, AreMoves, led}
use Rattle.kp_headline.specs.Outside.{Said, State, new_state, known}

-- It holds whatever moves, of which all holds that is assumed, were made from a new state on.
abbrev pub AfterAnyMoves : Opening → (State → Type 0) → Type 0
AfterAnyMoves o Holds =
    (ms : List Move)
    → MayBegin o
    → AreMoves (new_state o) ms
    → Assumed (new_state o) ms
    → Holds (led (new_state o) ms)

-- ---- the calls among moves

abbrev pub calls_in : List Move → List Call
calls_in [] = []
calls_in (Calling c t ∷ ms) = c ∷ calls_in ms
calls_in (m ∷ ms) = calls_in ms

-- The moves lead to this core, and this was told and these packets went out in them.
pub record LeadTo (a : State) (ms : List Move) (life : Life) (t : Core) : Type 0 where
  pub core : (led a ms).core ≡ t
  pub told : (led a ms).outside.told ≡ a.outside.told ++ life.told
  pub packets : (led a ms).outside.packets ≡ a.outside.packets ++ life.packets

-- The calls among them are a life of the core.
abbrev pub IsLife : State → List Move → Type 0
IsLife a ms =
    (life : Life) × (t : Core) × Lives a.core (calls_in ms) life t × LeadTo a ms life t

-- ---- reports

-- By sender, the reports that were fetched, and behind them those that were not, are those of all that was told.
abbrev pub AreReported : ℕ → State → Type 0
AreReported senders b =
    before_each b.outside.fetched b.core.reports ≡ with_reports b.outside.told (replicate senders [])

-- ---- then and later

-- What was handed over for the partition stands first in what is handed over after any further moves.
abbrev pub GrowsWith : ℕ → State → Type 0
GrowsWith p b =
    (later : List Move) → AreMoves b later → Assumed b later → GrowsAtEnd p (known b) (known (led b later))

-- Once a flush is complete, all that was taken before it is told.
abbrev pub AreToldByFlush : State → Type 0
AreToldByFlush b =
    (t : Core) (later : List Move)
    → AreMoves b (Calling Flush t ∷ later)
    → Assumed b (Calling Flush t ∷ later)
    → is_flushed (led b (Calling Flush t ∷ later)).core ≡ true
    → IsToldBy (known (led b (Calling Flush t ∷ later))) (known b)

-- ---- what was said

-- Where a log said that a batch is a duplicate of one that it no longer knows, no attempt under the packet's correlation
-- id is in flight.
abbrev pub NoDuplicateIsAwaited : State → Type 0
NoDuplicateIsAwaited b =
    (x : Said) (packet : Packet)
    → Contains b.outside.said x
    → slice_get b.outside.packets x.packet ≡ Some packet
    → x.answer.code ≡ DUPLICATE_SEQUENCE_NUMBER
    → awaiting packet.correlation (partition_at x.part.partition b.core.partitions) ≡ None
