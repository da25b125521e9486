-- Runs of a few events, and what is known of a world after an event.
use Rattle.std.proofs.Common.{◌≡◌, ℕ, List, [], ◌∷◌, ◌++◌, refl, ap, ◌∙◌}
use Rattle.std.proofs.lemmas.List.{append-nil}
use Rattle.std.proofs.lemmas.List.Concat.{flat_map-append}
use Rattle.kp_frames.specs.declared.response.Response.{Response}
use Rattle.kp_rules.specs.Records.{Core, Told}
use Rattle.kp_rules.specs.Requesting.{Packet}
use Rattle.kp_world.specs.Client.{client}
use Rattle.kp_world.specs.Delivering.{Delivery}
use Rattle.kp_world.specs.Events.{WorldEvent}
use Rattle.kp_world.specs.Events as event
use Rattle.kp_world.specs.Facts.{Facts, told_in, facts}
use Rattle.kp_world.specs.Line.{Line}
use Rattle.kp_world.specs.Noting.{noted, only_noted}
use Rattle.kp_world.specs.Run.{with_delivery, Steps, Run}
use Rattle.kp_world.specs.World.{Happened, World}

-- ---- runs

pub run_none : (w : World) → Run w [] w
unfolding Run
run_none w = refl

abbrev pub at_moment : ℕ → World → World
at_moment now w = only_noted [] (record w { moment = now })

pub run_at : (w : World) (now : ℕ) (e : WorldEvent) (v : World) → Steps (at_moment now w) e v → Run w (event.Now now ∷ e ∷ []) v
unfolding Run Steps client
run_at w now e v s = (at_moment now w, refl, (v, s, refl))

-- ---- what is known

told_one : (past : List Happened) (h : Happened) → told_in (past ++ h ∷ []) ≡ told_in past ++ h.told
told_one past h = flat_map-append (λ (x : Happened). x.told) past (h ∷ []) ∙ ap (λ r. told_in past ++ r) (append-nil h.told)

-- the core is this one then, and this was told
abbrev pub stepped : Core → List Told → Facts → Facts
stepped core told f = record f { core = core; told = f.told ++ told }

abbrev of_told : World → Core → List Told → Facts
of_told w core told = record (facts w) { core = core; told = told }

pub facts_noted : (core : Core) (answer : List Line) (told : List Told) (w : World) → facts (noted core answer told w) ≡ stepped core told (facts w)
unfolding noted
facts_noted core answer told w = ap (of_told w core) (told_one w.past _)

pub facts_kept : (answer : List Line) (w : World) → facts (only_noted answer w) ≡ facts w
facts_kept answer w = facts_noted w.core answer [] w ∙ ap (of_told w w.core) (append-nil (told_in w.past))

-- at this moment
pub facts_at : (now : ℕ) (core : Core) (answer : List Line) (told : List Told) (w : World) → facts (noted core answer told (at_moment now w)) ≡ stepped core told (facts w)
facts_at now core answer told w = facts_noted core answer told (at_moment now w) ∙ ap (stepped core told) (facts_kept [] (record w { moment = now }))

abbrev pub delivered_to : Delivery → Facts → Facts
delivered_to d f = record f { logs = d.logs; ids = d.ids }

pub facts_delivered : (o : Packet) (d : Delivery) (response : Response) (w : World) → facts (with_delivery o d response w) ≡ delivered_to d (facts w)
unfolding with_delivery
facts_delivered o d response w = facts_kept _ _
