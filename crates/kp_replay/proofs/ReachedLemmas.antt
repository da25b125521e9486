-- What a schedule leads to is what a run reaches.
use Rattle.std.proofs.Common.{ℕ, ◌<◌, Bool, true, false, [], pos, arith, subst}
use Rattle.std.specs.Prelude.{ℤ, ◌≤ℤ◌, length, All}
use Rattle.kp_accum.specs.declared.config.Config.{Config}
use Rattle.kp_log.specs.HandedOver.{IsStored}
use Rattle.kp_log.proofs.PlaceLemmas.{In-nil}
use Rattle.kp_rules.specs.Auditing.{opened, without_audits}
use Rattle.kp_rules.specs.Opening.{new_core}
use Rattle.kp_rules.proofs.ListLemmas.{all_weaker}
use Rattle.kp_schedule.specs.Grammar.{IsCode, MayBeSaid}
use Rattle.kp_world.specs.Delivering.{log_at}
use Rattle.kp_world.specs.Events.{events_of}
use Rattle.kp_world.specs.Replay.{MayAnswer, MayHappen}
use Rattle.kp_world.specs.Run.{IsReached}
use Rattle.kp_world.specs.World.{Opening, World, opening, scheduled}
use Rattle.kp_world.specs.declared.event.Event.{Event}
use Rattle.kp_world.specs.declared.event.Event.TheVariants.{Accept, Take, Now, Tick, TickNode, Send, SendNode, Deliver, Reply, Drop, DropNode, Leader, Other, Close, End, Flush}
use Rattle.kp_world.specs.declared.event.Treatment.TheVariants.{Judged, Refused, Late}
use Rattle.kp_world.proofs.ReplayLemmas.{replay_is_run}
use Rattle.kp_world.proofs.EventLemmas.{at_run}
use Rattle.kp_world.proofs.LawfulLemmas.{IsLawful}
use Rattle.kp_world.proofs.RunLemmas.{lawful_opening, lawful_reached, lawful_step, within_five}
use Rattle.kp_replay.specs.Shown.{IsReplayed}
use Rattle.kp_replay.proofs.KindLemmas.{Kinds, OfKinds, kinds_step}

may-answer : (code : ℤ) → IsCode code → MayAnswer code
may-answer code is = (λ none. let low : pos 1 ≤ℤ pos 0 = subst (λ k. pos 1 ≤ℤ k) none is.low in omega (arith, low), is.tells_nothing)

pub may-happen : (e : Event) → MayBeSaid e → MayHappen e
may-happen (Accept s p value) may = tt
may-happen (Take s) may = tt
may-happen (Now moment) may = tt
may-happen Tick may = tt
may-happen (TickNode node) may = tt
may-happen Send may = tt
may-happen (SendNode node) may = tt
may-happen (Deliver k Judged) may = tt
may-happen (Deliver k (Refused code)) may = may-answer code may.1
may-happen (Deliver k (Late code)) may = may-answer code may.1
may-happen (Reply j) may = tt
may-happen Drop may = tt
may-happen (DropNode node) may = tt
may-happen (Leader p node) may = tt
may-happen (Other p n) may = tt
may-happen Close may = tt
may-happen End may = tt
may-happen Flush may = tt

pub reached : (c : Config) (w : World) (r : IsReplayed c w) → IsReached (scheduled c r.partitions r.senders) (events_of 0 r.events) w
reached c w r = record {
  may_begin = r.may_begin;
  run = replay_is_run c r.partitions r.senders r.events w (all_weaker MayBeSaid MayHappen may-happen r.events r.may_be) r.leads;
}

-- the batches that a log has stand in it as a whole
pub stored-whole : (c : Config) (w : World) → IsReplayed c w → (p : ℕ) → p < length w.logs → All (IsStored (log_at p w.logs).records) (log_at p w.logs).batches
stored-whole c w r p inside =
    let lawful = lawful_reached (scheduled c r.partitions r.senders) (events_of 0 r.events) w (reached c w r) in
    (lawful.agree p (omega (arith, inside, lawful.logs_count))).sound.came.whole

-- ---- kinds

no-kinds : (o : Opening) → Kinds (opening o)
unfolding opening new_core without_audits
no-kinds o = at-audits o.audits
  where
    at-audits : (audits : Bool) → OfKinds (opened audits (new_core o.config o.names o.partitions o.senders o.id o.correlation)).requests [] []
    at-audits true = record { requests = λ q i. absurd (In-nil q i); replies = λ r i. absurd (In-nil r i) }
    at-audits false = record { requests = λ q i. absurd (In-nil q i); replies = λ r i. absurd (In-nil r i) }

pub replayed-kinds : (c : Config) (w : World) → IsReplayed c w → Kinds w
replayed-kinds c w r =
    let o = scheduled c r.partitions r.senders in
    let way = reached c w r in
    (at_run (λ v. IsLawful r.partitions v × Kinds v) (λ v k e u s. (lawful_step r.partitions e v u s k.0, kinds_step r.partitions e v u s k.0 k.1)) (events_of 0 r.events) (opening o) w way.run
    (lawful_opening o (within_five c r.may_begin.config), no-kinds o)).1
