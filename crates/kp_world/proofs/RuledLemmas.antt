-- Whatever an event tells is told by a call on the core, and so a case of the outcome rule.
use Rattle.std.proofs.Common.{◌≡◌, true, List, [], ◌∷◌, refl, sym, ap, subst, ◌++◌}
use Rattle.kp_rules.specs.Leading.{lead_step}
use Rattle.kp_rules.specs.Requesting.{request_step}
use Rattle.kp_rules.specs.Dropping.{disconnect_step}
use Rattle.kp_rules.specs.Flush.{flush_step}
use Rattle.kp_rules.specs.OutcomeRule.{Telling, MayTell, told_in}
use Rattle.kp_rules.specs.Records.{Core, Told}
use Rattle.kp_world.specs.Events.{WorldEvent}
use Rattle.kp_world.specs.Events as world
use Rattle.kp_world.specs.Accepting.{accepted_by, taken_by, item_for, with_accepted, with_taken}
use Rattle.kp_world.specs.Client.{with_packet, flush_line}
use Rattle.kp_world.specs.Line.{Line, Full}
use Rattle.kp_world.specs.Delivering.{logs_with_others}
use Rattle.kp_world.specs.Noting.{noted, ends_flush}
use Rattle.kp_world.specs.Run.{with_delivery, Steps}
use Rattle.kp_world.specs.World.{Reply, World, Happened}
use Rattle.std.specs.Prelude.{Option, Some, None, option_map, slice_get}
use Rattle.std.specs.List.{AllByRecursion}
use Rattle.kp_accum.specs.declared.item.Item.{Item}
use Rattle.kp_rules.specs.OutcomeRule as call
use Rattle.kp_rules.proofs.OutcomeLemmas.{each_outcome}
use Rattle.kp_world.specs.Causes.{call_of, told_by, MayBeTold, TellsByRule}
use Rattle.kp_world.proofs.EventLemmas.{at_sent, at_taken, OfEvent, at_step}
use Rattle.kp_world.proofs.ListLemmas.{in_at}
use Rattle.kp_log.proofs.PlaceLemmas.{In}

-- ---- what is told

-- a call that is made in this world: a reply is one that was given
abbrev pub IsMade : World → Telling → Type 0
IsMade w (call.Reply now response) = (r : Reply) × In r w.replies × (response ≡ r.response)
IsMade w c = Unit {0}

abbrev pub MayBeToldIn : World → Told → Type 0
MayBeToldIn w t = (c : Telling) × IsMade w c × MayTell w.core c t.item t.outcome

pub told_in_it : (w : World) (e : WorldEvent) (t : Told) → MayBeTold w.core (call_of e w) t → MayBeToldIn w t
told_in_it w (world.Take s) t m = at_item (slice_get (accepted_by s w) (taken_by s w)) m
  where
    at_item : (o : Option Item) → MayBeTold w.core (option_map call.Append o) t → MayBeToldIn w t
    at_item (Some i) m' = (call.Append i, tt, m')
    at_item None m' = absurd m'
told_in_it w (world.Tick node) t m = (call.Tick node w.moment, tt, m)
told_in_it w (world.Reply j) t m = at_reply (slice_get w.replies j) refl m
  where
    at_reply : (o : Option Reply) → slice_get w.replies j ≡ o → MayBeTold w.core (option_map (λ r. call.Reply w.moment r.response) o) t → MayBeToldIn w t
    at_reply (Some r) is m' = (call.Reply w.moment r.response, (r, in_at w.replies j r is, refl), m')
    at_reply None is m' = absurd m'
told_in_it w world.End t m = (call.End, tt, m)
told_in_it w (world.Accept s p at body) t m = absurd m
told_in_it w (world.Now moment) t m = absurd m
told_in_it w (world.Send node) t m = absurd m
told_in_it w (world.Deliver k) t m = absurd m
told_in_it w (world.Drop node) t m = absurd m
told_in_it w (world.Lead p node) t m = absurd m
told_in_it w (world.Other p records) t m = absurd m
told_in_it w world.Close t m = absurd m
told_in_it w world.Flush t m = absurd m

all_ruled : (s : Core) (c : Option Telling) → AllByRecursion (MayBeTold s c) (told_by c s)
all_ruled s (Some c) = each_outcome s c
all_ruled s None = tt

-- ---- what is noted

ruled_on : (e : WorldEvent) (w x : World) (core : Core) (answer : List Line) (told : List Told) → x.past ≡ w.past → told ≡ told_by (call_of e w) w.core → TellsByRule e w (noted core answer told x)
unfolding noted
ruled_on e w x core answer told p is = record {
  event = record { answer = answer; told = told; flushed = ends_flush x.core core };
  noted = ap (λ (past : List Happened). past ++ (record { answer = answer; told = told; flushed = ends_flush x.core core }) ∷ []) p;
  told = is;
  ruled = subst (AllByRecursion (MayBeTold w.core (call_of e w))) (sym is) (all_ruled w.core (call_of e w));
}

-- ---- the events

ruled_event : (w : World) → OfEvent (λ e. TellsByRule e w) w
ruled_event w = record {
  not_accepted = λ s p at body. (ruled_on (world.Accept s p at body) w w w.core _ [] refl refl, ruled_on (world.Accept s p at body) w w w.core _ [] refl refl);
  accepted = λ s p at body here there shut small. ruled_on (world.Accept s p at body) w (with_accepted (item_for s p at body w) w) w.core [] [] refl refl;
  none_taken = λ s none. ruled_on (world.Take s) w w w.core _ [] refl (sym (ap (λ (o : Option Item). told_by (option_map call.Append o) w.core) none));
  taken = λ s i here there.
      let told : told_in w.core (call.Append i) ≡ told_by (call_of (world.Take s) w) w.core = sym (ap (λ (o : Option Item). told_by (option_map call.Append o) w.core) there) in
      at_taken (TellsByRule (world.Take s) w) s i w (ruled_on (world.Take s) w (with_taken s w) _ [] _ refl told) (ruled_on (world.Take s) w w _ (Full s ∷ []) _ refl told);
  now = λ moment. ruled_on (world.Now moment) w (record w { moment = moment }) w.core [] [] refl refl;
  tick = λ node. ruled_on (world.Tick node) w w _ _ _ refl refl;
  send = λ node. let step = request_step node w.moment w.core in at_sent (TellsByRule (world.Send node) w) w step.after step.answer (λ line. ruled_on (world.Send node) w w _ _ [] refl refl) (λ o line. ruled_on (world.Send node) w (with_packet o w) _ _ [] refl refl);
  reply = λ j r there. ruled_on (world.Reply j) w w _ _ _ refl (sym (ap (λ (o : Option Reply). told_by (option_map (λ (x : Reply). call.Reply w.moment x.response) o) w.core) there));
  lost = λ node. ruled_on (world.Drop node) w w (disconnect_step node w.moment w.core) [] [] refl refl;
  led = λ p node. ruled_on (world.Lead p node) w w (lead_step p node w.moment w.core) [] [] refl refl;
  close = ruled_on world.Close w (record w { is_shut = true }) _ [] [] refl refl;
  end = ruled_on world.End w w _ _ _ refl refl;
  flush = ruled_on world.Flush w w (flush_step w.core) (flush_line w.core ∷ []) [] refl refl;
}

pub ruled_step : (w : World) (e : WorldEvent) (v : World) → Steps w e v → TellsByRule e w v
unfolding with_delivery
ruled_step w e v s = at_step (λ e. TellsByRule e w) w (record {
  client = ruled_event w;
  arrives = λ k o d x went honest says. ruled_on (world.Deliver k) w _ w.core _ [] refl refl;
  others = λ p records others there. ruled_on (world.Other p records) w (record w { logs = logs_with_others p records w.logs }) w.core [] [] refl refl;
}) e v s
