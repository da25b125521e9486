-- What a connection that is being made waits for.
use Rattle.std.specs.Prelude.{◌≡◌, ◌⊎◌, ℕ}
use Rattle.tokio.specs.Net.{ConnectNeeds, connect_state}
use Rattle.tokio.specs.Timers.{sleep_source, timeout_delay, timeout_future}
use Rattle.tokio.specs.declared.net.stream.ConnectFuture.{ConnectFuture}
use Rattle.tokio.specs.declared.time.timeout.Timeout.{Timeout}
use Rattle.std.specs.declared.time.Duration.{Duration}
use Rattle.kp_dial.specs.declared.sockets.Dialing.{Dialing}
use Rattle.kp_dial.specs.declared.sockets.Dialing.TheVariants.{Looking, Connecting}
use Rattle.kp_dial.specs.declared.sockets.Sockets.{Sockets}

-- the socket's source, and the timer's
abbrev pub connecting_waits : Timeout ConnectFuture → ℕ → Type 0
connecting_waits t s = ConnectNeeds (connect_state (timeout_future t)) s ⊎ (s ≡ sleep_source (timeout_delay t))

-- where a host is looked up, what that waits for
abbrev pub dialing_waits : {L : Type 0} → (L → ℕ → Type 0) → Dialing L → ℕ → Type 0
dialing_waits waits (Looking looking) s = waits looking s
dialing_waits waits (Connecting t) s = connecting_waits t s

-- how long a connection may take to be made
abbrev pub setup_timeout_of : {R L : Type 0} → Sockets R L → Duration
setup_timeout_of sockets = sockets.setup_timeout
