-- What came of a run.
use Rattle.std.specs.Prelude.{◌≡◌, ℕ, List, unwrap_or, Option, Some, None}
use Rattle.std.specs.List.Sorted.{IsSorted}
use Rattle.std.specs.declared.net.socket_addr.SocketAddr.{SocketAddr}
use denote.Ref.{Bor}
use Rattle.kp_broker.specs.Broker.{opened, Broker}
use Rattle.kp_broker.specs.Plan.{Plan}
use Rattle.kp_rules.specs.declared.outcome.Report.{Report}
use Rattle.kp_settings.specs.declared.settings.Settings.{Settings}
use Rattle.kp_dealing.specs.Dealing.{asked, Deal}
use Rattle.kp_dealing.specs.Sizing.{largest}
use Rattle.kp_run.specs.Gathered.{by_place}
use Rattle.kp_run.specs.Portions.{Comes}
use Rattle.kp_run.specs.Served.{ServesAll}
use Rattle.kp_run.specs.Settings.{AreSettingsOf}
use Rattle.kp_run.specs.Theirs.{AreOfService}
use Rattle.kp_run.specs.declared.checked.Checked.{Checked}
use Rattle.kp_options.specs.declared.options.Options.{Options}
use Rattle.kp_options.specs.declared.place.Place.{Place}
use Rattle.kp_options.specs.declared.place.Place.TheVariants.{Here, At}
use Rattle.kp_run.specs.declared.running.Came.{Came}

-- the broker is one of the process
abbrev pub IsHere : Place → Type 0
IsHere (Here text) = Unit {0}
IsHere (At address) = ⊥

-- The process's broker is one of the topic that has served connections by the plan; an address has none.
abbrev pub IsBrokerAt : Options → Plan → Place → Option Broker → Type 0
IsBrokerAt options plan (Here text) (Some broker) =
    (port : ℕ) × ServesAll plan (opened options.topic.now (unwrap_or options.partitions 1) port) broker
IsBrokerAt options plan (Here text) None = ⊥
IsBrokerAt options plan (At address) (Some broker) = ⊥
IsBrokerAt options plan (At address) None = Unit {0}

-- The broker that was named is at this address; one of the process is at a port that was free.
abbrev pub IsAt : Place → SocketAddr → Type 0
IsAt (Here text) address = Unit {0}
IsAt (At named) address = address ≡ named

-- This came of lines that were dealt out so, where a record may take so much; the reports are in order, and are those of a
-- service with these settings over the broker at this address, of which the laws speak.
pub record IsProduced (address : SocketAddr) (settings : Settings) (deal : Deal) (most : ℕ) (accepted : ℕ) (reports : List Report) : Type 0 where
  pub comes : Comes deal most accepted reports
  pub in_order : IsSorted by_place reports
  pub of_service : AreOfService address settings reports

-- It came so of these lines, over the broker and with the settings that the options come to.
pub record IsProducedBy (options : Options) (lines : List (Bor (List ℕ))) (accepted : ℕ) (reports : List Report) : Type 0 where
  pub address : SocketAddr
  pub there : IsAt options.place address
  pub settings : Settings
  pub are : AreSettingsOf options settings
  pub produced : IsProduced address settings (asked options lines) (largest options.config) accepted reports

pub record CameOf (looked_at : Checked) (lines : List (Bor (List ℕ))) (came : Came) : Type 0 where
  pub produced : IsProducedBy looked_at.options lines came.accepted came.reports.items
  pub broker : IsBrokerAt looked_at.options looked_at.plan looked_at.options.place came.broker
