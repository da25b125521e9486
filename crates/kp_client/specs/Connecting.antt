-- What a service's connections wait for.
use Rattle.std.specs.Prelude.{◌≡◌, ◌⊎◌, ℕ}
use Rattle.tokio.specs.Net.{connect_state, ConnectNeeds}
use Rattle.tokio.specs.Timers.{sleep_source, timeout_delay, timeout_future}
use Rattle.kp_client.specs.declared.connector.Stage.{Stage}
use Rattle.kp_client.specs.declared.connector.Stage.TheVariants.{Idle, Made, Pausing, Trying}

-- the sources that the next connection waits for
abbrev pub waits_of : Stage → ℕ → Type 0
waits_of Idle s = ⊥
waits_of Made s = ⊥
waits_of (Pausing sleep) s = s ≡ sleep_source sleep
waits_of (Trying trying) s = ConnectNeeds (connect_state (timeout_future trying)) s ⊎ (s ≡ sleep_source (timeout_delay trying))
