-- What contracts see of a driven producer.
use Rattle.std.specs.Prelude.{◌≡◌, ◌≤◌, ℕ, List}
use Rattle.std.specs.declared.time.Instant.{Instant}
use Rattle.kp_drive.specs.declared.drive.Drive.{Drive}
use Rattle.kp_drive.specs.declared.link.Link.{Link}
use Rattle.kp_embed.specs.Producer.{Producer}
use Rattle.tokio.specs.declared.time.sleep.Sleep.{Sleep}

abbrev pub producer_of : {R D K S : Type 0} → Drive R D K S → Producer
producer_of drive = drive.host.embed

-- the connections, by node
abbrev pub links_of : {R D K S : Type 0} → Drive R D K S → List (Link K S)
links_of drive = drive.links.items

-- when its clock began
abbrev pub start_of : {R D K S : Type 0} → Drive R D K S → Instant
start_of drive = drive.clock.start

-- the moment that its clock showed last
abbrev pub moment_of : {R D K S : Type 0} → Drive R D K S → ℕ
moment_of drive = drive.clock.shown

abbrev pub timer_of : {R D K S : Type 0} → Drive R D K S → Sleep
timer_of drive = drive.timer

-- Its clock is the same, and shows no earlier moment.
pub record GoesOn {R D K S : Type 0} (old new : Drive R D K S) : Type 0 where
  pub start : start_of new ≡ start_of old
  pub later : moment_of old ≤ moment_of new

-- No more than the producer is another.
pub record OnlyProducer {R D K S : Type 0} (old new : Drive R D K S) : Type 0 where
  pub links : links_of new ≡ links_of old
  pub start : start_of new ≡ start_of old
  pub moment : moment_of new ≡ moment_of old
  pub timer : timer_of new ≡ timer_of old
