-- The laws on fresh ids, from what holds of every world of a run.
use Rattle.std.proofs.Common.{ℕ, ◌<◌, List, ◌∙◌, ap}
use Rattle.kp_log.specs.History.{records_of}
use Rattle.kp_log.proofs.PlaceLemmas.{In-from_contains}
use Rattle.kp_world.specs.Facts.{facts}
use Rattle.kp_world.specs.Events.{WorldEvent}
use Rattle.kp_world.specs.FreshIds.{BeginsAnew, GoesOnAlone}
use Rattle.kp_world.specs.Run.{IsReached}
use Rattle.kp_world.specs.World.{World, Opening}
use Rattle.kp_world.proofs.RunLemmas.{lawful_reached}

pub begins_anew : (o : Opening) (es : List WorldEvent) (w : World) → IsReached o es w → (p : ℕ) → p < o.partitions → BeginsAnew p (facts w)
begins_anew o es w r p h = ((lawful_reached o es w r).agree p h).sound.in_sequence

pub goes_on_alone : (o : Opening) (es : List WorldEvent) (w : World) → IsReached o es w → (p : ℕ) → p < o.partitions → GoesOnAlone p (facts w)
goes_on_alone o es w r p h =
    let cut = ((lawful_reached o es w r).agree p h).steady.cut in
    record {
      stored = cut.landed;
      rest = cut.rest;
      handed = cut.split;
      records = cut.owned ∙ ap records_of cut.appended;
      present = λ b has. cut.current b (In-from_contains cut.rest b has);
      alone = cut.first;
    }
