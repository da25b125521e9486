-- A producer that was opened, used and settled.
use Rattle.std.specs.Prelude.{◌≡◌, ℕ, ◌<◌, List, length, slice_index_or}
use Rattle.kp_client.specs.Brokers.{IsAt, IsOf}
use Rattle.kp_client.specs.Opening.{Begins}
use Rattle.kp_client.specs.Producer.{Finishes}
use Rattle.kp_client.specs.declared.brokers.Brokers.{Brokers}
use Rattle.kp_client.specs.declared.left.Left.{Left}
use Rattle.kp_client.specs.declared.producer.Producer.{Producer}
use Rattle.kp_client.specs.declared.service.Service.{Service}
use Rattle.kp_client_laws.specs.Over.{IsOver}
use Rattle.kp_lanes.specs.declared.sender.Finished.{Finished}
use Rattle.kp_settings.specs.declared.settings.Settings.{Settings}
use Rattle.kp_client_runs.specs.declared.script.Over.{Over}
use Rattle.kp_client_runs.specs.declared.script.Over.TheVariants.{Cluster, One}

-- What is left of each of the producers, in their order.
pub record FinishEach (producers : List Producer) (finished : List Finished) : Type 0 where
  pub many : length finished ≡ length producers
  pub each : (i : ℕ) (p : Producer) (f : Finished) → i < length producers
      → Finishes (slice_index_or producers i p) (slice_index_or finished i f)

-- They are those that the script names.
abbrev pub AreNamed : Over → Settings → Brokers → Type 0
AreNamed (One address) s = IsAt address s
AreNamed (Cluster bootstrap) s = IsOf bootstrap.addresses.items s

-- The service has run, its senders have finished, and what was left was taken back: the laws of any service speak of it.
pub record WasServed (service : Service) : Type 0 where
  pub finished : List Finished
  pub left : Left
  pub over : IsOver service finished left

-- Its service began so, and is over.
pub record WasHeld (Its : Brokers → Type 0) (settings : Settings) : Type 0 where
  pub service : Service
  pub begins : Begins Its settings service
  pub served : WasServed service
