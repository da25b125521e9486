-- What a schedule brings about with the loopback broker.
use Rattle.std.specs.Prelude.{◌≢◌, ℤ, ℕ, ◌+◌, List, [], ◌∷◌, Option, Some, None, Result, Ok, Err, slice_get}
use Rattle.kp_log.specs.BrokerStep.{NO_ERROR, DUPLICATE_SEQUENCE_NUMBER}
use Rattle.kp_rules.specs.Requesting.{Packet}
use Rattle.kp_world.specs.declared.event.Event.{Event}
use Rattle.kp_world.specs.declared.event.Event.TheVariants.{Deliver, Leader, Other}
use Rattle.kp_world.specs.declared.event.Treatment.{Treatment}
use Rattle.kp_world.specs.declared.event.Treatment.TheVariants.{Judged, Refused, Late}
use Rattle.kp_world.specs.Client.{client, has_partition, leading, only_if}
use Rattle.kp_world.specs.Events.{other_records, meant}
use Rattle.kp_world.specs.Loopback.{delivered}
use Rattle.kp_world.specs.Message.{response_of}
use Rattle.kp_world.specs.Run.{with_delivery, with_others_at}
use Rattle.kp_world.specs.World.{World}

-- ---- what a schedule may ask of the broker

-- The code says nothing of the batch.
abbrev pub MayAnswer : ℤ → Type 0
MayAnswer code = (code ≢ NO_ERROR) × (code ≢ DUPLICATE_SEQUENCE_NUMBER)

abbrev pub MayTreat : Treatment → Type 0
MayTreat Judged = Unit {0}
MayTreat (Refused code) = MayAnswer code
MayTreat (Late code) = MayAnswer code

abbrev pub MayHappen : Event → Type 0
MayHappen (Deliver k how) = MayTreat how
MayHappen _ = Unit {0}

-- ---- the replay

abbrev pub arrived : ℕ → Treatment → Option Packet → World → Option World
arrived k how None w = None
arrived k how (Some o) w =
    let d = delivered how w o.demand in
    Some (with_delivery o d (response_of o.correlation d.content) w)

unfoldable pub stepped : Event → World → Option World
stepped (Deliver k how) w = arrived k how (slice_get w.packets k) w
stepped (Other p n) w = with_others_at p (other_records n) w
stepped (Leader p node) w = only_if (has_partition p w) (leading p node w)
stepped e w = client (meant w.moment e) w

-- The world after the events, or the number of the first that names what isn't there, from n on.
unfoldable pub replayed_from : ℕ → List Event → World → Result World ℕ
replayed_from n [] w = Ok w
replayed_from n (e ∷ es) w =
    elim (stepped e w) [ Some v ↦ replayed_from (n + 1) es v | None ↦ Err n ]

unfoldable pub replayed : List Event → World → Result World ℕ
replayed es w = replayed_from 0 es w
