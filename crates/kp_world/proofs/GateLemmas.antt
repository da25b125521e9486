-- Once the gate is shut nothing is accepted.
use Rattle.std.proofs.Common.{◌≡◌, true, List, ◌∷◌, refl, sym, ap, ◌∙◌}
use Rattle.kp_rules.specs.Requesting.{request_step}
use Rattle.kp_rules.specs.Records.{Core, Told}
use Rattle.kp_world.specs.Events.{WorldEvent}
use Rattle.kp_world.specs.Events as event
use Rattle.kp_world.specs.Client.{client, closing}
use Rattle.kp_world.specs.Line.{Line}
use Rattle.kp_world.specs.Noting.{noted}
use Rattle.kp_world.specs.Run.{with_delivery, Steps, Run}
use Rattle.kp_world.specs.World.{World}
use Rattle.kp_world.proofs.EventLemmas.{at_sent, at_taken, OfEvent, at_step, at_run}

-- ---- what follows a world

pub record Follows (w v : World) : Type 0 where
  pub shut : w.is_shut ≡ true → v.is_shut ≡ true
  pub accepted : w.is_shut ≡ true → v.accepted ≡ w.accepted

same : (w : World) → Follows w w
same w = record { shut = λ h. h; accepted = λ h. refl }

follows_noted : (core : Core) (answer : List Line) (told : List Told) (w : World) → Follows w (noted core answer told w)
unfolding noted
follows_noted core answer told w = record { shut = λ h. h; accepted = λ h. refl }

-- ---- the events

follows_event : (w : World) → OfEvent (λ e. Follows w) w
unfolding noted
follows_event w = record {
  not_accepted = λ s p at body. (follows_noted _ _ _ w, follows_noted _ _ _ w);
  accepted = λ s p at body here there shut small. record { shut = λ h. h; accepted = λ h. absurd cc };
  none_taken = λ s none. follows_noted _ _ _ w;
  taken = λ s i here there. at_taken (Follows w) s i w (record { shut = λ h. h; accepted = λ h. refl }) (follows_noted _ _ _ w);
  now = λ moment. record { shut = λ h. h; accepted = λ h. refl };
  tick = λ node. follows_noted _ _ _ w;
  send = λ node. let step = request_step node w.moment w.core in at_sent (Follows w) w step.after step.answer (λ line. follows_noted _ _ _ w) (λ o line. record { shut = λ h. h; accepted = λ h. refl });
  reply = λ j r there. follows_noted _ _ _ w;
  lost = λ node. follows_noted _ _ _ w;
  led = λ p node. follows_noted _ _ _ w;
  close = record { shut = λ h. refl; accepted = λ h. refl };
  end = follows_noted _ _ _ w;
  flush = follows_noted _ _ _ w;
}

follows_step : (e : WorldEvent) (w v : World) → Steps w e v → Follows w v
unfolding with_delivery noted
follows_step e w v s = at_step (λ e. Follows w) w (record {
  client = follows_event w;
  arrives = λ k o d x went honest says. record { shut = λ h. h; accepted = λ h. refl };
  others = λ p records others there. record { shut = λ h. h; accepted = λ h. refl };
}) e v s

followed : (u w v : World) → Follows u w → Follows w v → Follows u v
followed u w v f g = record { shut = λ h. g.shut (f.shut h); accepted = λ h. g.accepted (f.shut h) ∙ f.accepted h }

follows_run : (es : List WorldEvent) (w v : World) → Run w es v → Follows w v
follows_run es w v r = at_run (Follows w) (λ x f e y s. followed w x y f (follows_step e x y s)) es w v r (same w)

-- ---- closing

closed_step : (w v : World) → Steps w event.Close v → (v.is_shut ≡ true) × (v.accepted ≡ w.accepted)
unfolding Steps client noted
closed_step w v e = let is : closing w ≡ v = cc in (sym (ap (λ (x : World). x.is_shut) is), sym (ap (λ (x : World). x.accepted) is))

pub nothing_after_close : (es : List WorldEvent) (w v : World) → Run w (event.Close ∷ es) v → v.accepted ≡ w.accepted
unfolding Run
nothing_after_close es w v r = let c = closed_step w r.0 r.1 in (follows_run es r.0 v r.2).accepted c.0 ∙ c.1
