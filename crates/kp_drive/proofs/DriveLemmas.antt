-- A turn of a driven producer.
use Rattle.std.proofs.Common.{◌≡◌, ℕ, sym, subst}
use Rattle.kp_connection.specs.Wire.{Told}
use Rattle.kp_drive.specs.Driving.{links_of, moment_of, producer_of}
use Rattle.kp_drive.specs.Turning.{Turns}
use Rattle.kp_drive.specs.declared.drive.Drive.{Drive}

pub turn_to : {R D K S : Type 0} (answers : Told S) (old left new : Drive R D K S) (now : ℕ) → new ≡ left → now ≡ moment_of left
    → Turns answers now (producer_of old) (links_of old) (producer_of left) (links_of left) → Turns answers (moment_of new) (producer_of old) (links_of old) (producer_of new) (links_of new)
turn_to {R} {D} {K} {S} answers old left new now is at turn =
    subst (λ (d : Drive R D K S). Turns answers (moment_of d) (producer_of old) (links_of old) (producer_of d) (links_of d)) (sym is)
    (subst (λ (n : ℕ). Turns answers n (producer_of old) (links_of old) (producer_of left) (links_of left)) at turn)
