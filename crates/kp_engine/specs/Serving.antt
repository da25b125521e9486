-- What polls of the engine come to, one after the other: what became of each sender's items, and where its reports are.
use Rattle.std.specs.Prelude.{◌≡◌, ℕ, ◌<◌, ◌==◌, Bool, List, [], ◌∷◌, ◌++◌, length, filter, option_to_list, Some, Ok}
use Rattle.std.specs.List.{AllByRecursion}
use Rattle.kp_accum.specs.declared.item.Item.{Item}
use Rattle.kp_lanes.specs.Entries.{items_of}
use Rattle.kp_lanes.specs.declared.intake.Intake.{Intake}
use Rattle.kp_rules.specs.Calls.{Call, Life, Lives, Reply, Request}
use Rattle.kp_rules.specs.InOrder.{IsHeld}
use Rattle.kp_rules.specs.Records.{Core, Told}
use Rattle.kp_rules.specs.Reports.{reports_to}
use Rattle.kp_rules.specs.declared.outcome.Report.{Report}
use Rattle.kp_engine.specs.Agreement.{waiting_of}
use Rattle.kp_engine.specs.Engine.{IsNew}
use Rattle.kp_engine.specs.Exchange.{SameLanes, mail_of, senders_of, side_of}
use Rattle.kp_engine.specs.Opening.{MayTurn}
use Rattle.kp_engine.specs.Turn.{Side}
use Rattle.kp_engine.specs.declared.exchange.Exchange.{Exchange}

-- the sender's items, in their order
abbrev pub from_sender : ℕ → List Item → List Item
from_sender sender items = filter (λ x. x.sender == sender) items

-- all reports to a sender: those that were handed to its ring, the one that is held since the ring was full, and those
-- that wait in the core
abbrev pub reports_of : Exchange → ℕ → List Report
reports_of x i = (mail_of x i).told ++ option_to_list (mail_of x i).held ++ waiting_of x.core i

-- each sender has a place in the core, and one for what is held
abbrev pub HasPlaces : Exchange → Type 0
HasPlaces x = length x.core.reports ≡ senders_of x

-- More was taken of a sender's lane: what was held, and behind it what was taken, is what was appended, and behind it
-- what is held now.
pub record Took (old : Side) (appended : List Item) (new : Side) : Type 0 where
  pub more : List Item
  pub taken : items_of new.passed ≡ items_of old.passed ++ more
  pub in_order : option_to_list old.held ++ more ≡ appended ++ option_to_list new.held

-- What was told of the sender's items came behind its reports, of which more were handed to its ring.
pub record Reported (i : ℕ) (old : Exchange) (told : List Told) (new : Exchange) : Type 0 where
  pub more : List Report
  pub handed : (mail_of new i).told ≡ (mail_of old i).told ++ more
  pub in_order : reports_of new i ≡ reports_of old i ++ reports_to i told

-- The core was run over these calls, with values such as a program can hold, on the same lanes. Each sender's items went
-- from its lane into the core, and what the core told of them went to its reports.
pub record Served (old : Exchange) (calls : List Call) (new : Exchange) : Type 0 where
  pub life : Life
  pub lives : Lives old.core calls life new.core
  pub held : AllByRecursion IsHeld calls
  pub lanes : SameLanes old new
  pub places : HasPlaces new
  pub took : (i : ℕ) → i < senders_of old → Took (side_of old i) (from_sender i life.appended) (side_of new i)
  pub told : (i : ℕ) → i < senders_of old → Reported i old life.told new

-- ---- from the beginning

-- An engine that was made of this core and of these lanes has served so, and is this one now.
pub record HasServed (core : Core) (intake : Intake) (calls : List Call) (new : Exchange) : Type 0 where
  pub may : MayTurn core intake
  pub first : Exchange
  pub keeps : Bool
  pub is_new : IsNew core intake keeps first
  pub served : Served first calls new

-- ---- what goes over the connection

-- the frames of the requests that a call gives
abbrev pub asked_by : Call → List (List ℕ)
asked_by (Request node now (Ok (Some request))) = request.bytes ∷ []
asked_by call = []

-- the contents of the replies that it hears
abbrev pub replied_by : Call → List (List ℕ)
replied_by (Reply now content answer) = content ∷ []
replied_by call = []
