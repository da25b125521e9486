-- What is said of any polls.
use Rattle.std.specs.Prelude.{◌≡◌, ◌≢◌, ℕ, ◌<◌, true, All, Contains, List, ◌∷◌, ◌++◌}
use Rattle.atomic_table.specs.Table.{Step}
use Rattle.kp_engine.specs.Closing.{ClosedBetween}
use Rattle.kp_engine.specs.Serving.{reports_of}
use Rattle.kp_engine.specs.declared.exchange.Exchange.{Exchange}
use Rattle.kp_headline.specs.Moves.{Move, Calling, led}
use Rattle.kp_headline.specs.Outside.{State, known}
use Rattle.kp_lanes.specs.Gate.{Entering, Gated, Looking, Leaving, Sat, Shutting, less_room, refused}
use Rattle.kp_lanes.specs.Intake.{intake_view}
use Rattle.kp_lanes.specs.declared.gate.view.Stage.TheVariants.{Inside}
use Rattle.kp_lanes.specs.declared.gate.view.View.{View}
use Rattle.kp_rules.specs.Calls.{Call, Flush}
use Rattle.kp_rules.specs.Flush.{is_flushed}
use Rattle.kp_rules.specs.Records.{Core}
use Rattle.kp_rules.specs.Reports.{reports_to}
use Rattle.kp_world.specs.Accounts.{IsToldBy}
use Rattle.kp_world.specs.Handed.{GrowsAtEnd}
use Rattle.kp_world.specs.World.{Opening}

-- Each sender's reports, those that were handed to its ring, the one that is held, and those that wait in the core, are
-- of all that it was told, in order.
abbrev pub ReportsAreOfTold : Opening → State → List Move → Exchange → Type 0
ReportsAreOfTold o a ms x = (i : ℕ) → i < o.senders → reports_of x i ≡ reports_to i (led a ms).outside.told

-- From any place among the moves on: what was handed over for the partition there stands first in the end.
abbrev pub GrowsAllAlong : ℕ → State → List Move → Type 0
GrowsAllAlong p a ms =
    (before later : List Move) → ms ≡ before ++ later → GrowsAtEnd p (known (led a before)) (known (led a ms))

-- Wherever a flush is among the moves: once it is complete, all that was appended before it is told.
abbrev pub AreToldByAnyFlush : State → List Move → Type 0
AreToldByAnyFlush a ms =
    (before later : List Move) (t : Core)
    → ms ≡ before ++ Calling Flush t ∷ later
    → is_flushed (led a ms).core ≡ true
    → IsToldBy (known (led a ms)) (known (led a before))

-- ---- after the close

-- The gate has this word, and its seats know this: none of them is inside, and one that tries to enter is refused.
pub record LetsNobodyIn (word : ℕ) (views : List View) : Type 0 where
  pub nobody_inside : All (λ v. v.stage ≢ Inside) views
  pub refuses : (step : Step (Unit {0})) (m m' : Sat) → Entering step m word m' → m'.0 ≡ refused m.0

-- The core was closed by a poll after which the engine's seat at the gate knew this: and so it is in every state of the gate
-- in which a seat does.
pub record ClosedToAll (x : Exchange) (calls : List Call) (y : Exchange) : Type 0 where
  pub close : ClosedBetween x calls y
  pub lets_nobody_in : (word : ℕ) (views : List View) → Gated word views → Contains views (intake_view close.at.intake) → LetsNobodyIn word views

-- Whatever a seat does at the gate, also where it gives room for senders to a new seat, it goes on to know that the gate is
-- quiet.
pub record KnowsForGood (step : Step (Unit {0})) (m : Sat) (word : ℕ) (m' : Sat) : Type 0 where
  pub entering : Entering step m word m' → m'.0.knows_quiet ≡ true
  pub leaving : Leaving step m word m' → m'.0.knows_quiet ≡ true
  pub shutting : Shutting step m word m' → m'.0.knows_quiet ≡ true
  pub looking : Looking step m word m' → m'.0.knows_quiet ≡ true
  pub parting : (senders : ℕ) → (less_room senders m.0).knows_quiet ≡ true
