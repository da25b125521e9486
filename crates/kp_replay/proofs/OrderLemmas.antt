-- The core of a world to which a schedule leads is in order.
use Rattle.std.proofs.Common.{◌≡◌, ℕ, zero, suc, ◌<◌, ◌^◌, List, [], ◌∷◌, ◌++◌, get_or, replicate, Some, refl, sym, subst, ⊎_elim, arith}
use Rattle.std.specs.Prelude.{codes}
use lib.Utf8.{encode}
use Rattle.std.specs.List.{AllByRecursion}
use Rattle.std.specs.Str.{IsUtf8}
use Rattle.kp_accum.specs.declared.config.Config.{Config}
use Rattle.kp_accum.specs.declared.item.Item.{Item}
use Rattle.kp_batch.specs.declared.record.Record.{Record}
use Rattle.kp_frames.specs.declared.response.Response.{Response}
use Rattle.kp_frames.specs.Response as response
use Rattle.kp_frames.proofs.ResponseLemmas.{response_only}
use Rattle.kp_log.proofs.PlaceLemmas.{In, In-append_left, In-nil}
use Rattle.kp_rules.specs.Appending.{Appends, append_step}
use Rattle.kp_rules.specs.Calls as call
use Rattle.kp_rules.specs.Closing.{close_step, end_step}
use Rattle.kp_rules.specs.Dropping.{disconnect_step}
use Rattle.kp_rules.specs.Flush.{flush_step}
use Rattle.kp_rules.specs.Held.{IsRecord}
use Rattle.kp_rules.specs.InOrder.{IsInOrder}
use Rattle.kp_rules.specs.Leading.{lead_step}
use Rattle.kp_rules.specs.Records.{Core}
use Rattle.kp_rules.specs.Replies.{response_step}
use Rattle.kp_rules.specs.Requesting.{Requested, request_step}
use Rattle.kp_rules.specs.Tick.{tick_step}
use Rattle.kp_rules.specs.declared.outcome.Reason.TheVariants as reason
use Rattle.kp_rules.proofs.CallLemmas.{at_append, at_request}
use Rattle.kp_rules.proofs.ListLemmas.{at_put}
use Rattle.kp_rules.proofs.OrderedCallLemmas.{has_id, kept, new_in_order, order_alike, order_out, order_queued, order_response, order_turned, same_requests}
use Rattle.kp_schedule.specs.Grammar.{MayBeSaid}
use Rattle.kp_world.specs.Accepting.{accepted_by, item_for, taken_by, taking, with_accepted}
use Rattle.kp_world.specs.Client.{sending}
use Rattle.kp_world.specs.Events.{WorldEvent, events_of, moment_after, record_at}
use Rattle.kp_world.specs.Events as event
use Rattle.kp_world.specs.Noting.{noted}
use Rattle.kp_world.specs.Run.{MayBegin, Run, Steps, with_delivery}
use Rattle.kp_world.specs.World.{Reply, World, names, opening, scheduled}
use Rattle.kp_world.specs.declared.event.Event.{Event}
use Rattle.kp_world.specs.declared.event.Event.TheVariants as schedule
use Rattle.kp_world.proofs.EventLemmas.{OfEvent, OfStep, at_run, at_step, at_taken}
use Rattle.kp_world.proofs.ListLemmas.{in_at, one_more}
use Rattle.kp_replay.specs.Shown.{IsReplayed}
use Rattle.kp_replay.proofs.ReachedLemmas.{reached}

-- ---- calls

appended : (i : Item) (s : Core) → IsRecord i.body → IsInOrder s → IsInOrder (append_step i s).after
appended i s held h = at_append (λ (x : Appends). IsInOrder x.after) i s (record {
  outside = h;
  past_end = λ m e. order_turned reason.Ended i s h;
  by_fence = λ m e f. order_turned reason.Fenced i s h;
  full = order_alike {s = s} refl refl refl refl refl refl (same_requests s) h;
  room = λ m e f r. order_queued i s held m e f r h;
})

heard : (now : ℕ) (x : Response) (s : Core) → response.FitsResponse x → IsInOrder s → IsInOrder (response_step now x s).after
heard now x s fits h =
    let a = response.api_of x.body in
    order_response now x s (has_id a (response.spelling x) x (response_only a (response.spelling x) x (record { is_of = refl; fits = fits; is_spelling = refl }))) h

-- ---- worlds

-- what was accepted is a record
abbrev AreRecords : World → Type 0
AreRecords w = (s : ℕ) (i : Item) → In i (accepted_by s w) → IsRecord i.body

abbrev Ordered : World → Type 0
Ordered w = IsInOrder w.core × AreRecords w

abbrev AllFit : List Reply → Type 0
AllFit replies = (r : Reply) → In r replies → response.FitsResponse r.response

abbrev MayBe : WorldEvent → Type 0
MayBe (event.Accept s p at body) = IsRecord body
MayBe e = Unit {0}

abbrev Comes : World → WorldEvent → World → Type 0
Comes w e v = MayBe e → AllFit v.replies → Ordered v

sends : (node : ℕ) (w : World) → Ordered w → Ordered (sending w (request_step node w.moment w.core).after (request_step node w.moment w.core).answer)
unfolding noted
sends node w h = at_request (λ (r : Requested). Ordered (sending w r.after r.answer)) node w.moment w.core (record { ended = h; idle = h; spent = h; out = λ going d wanted left. (order_out node w.moment w.core d going wanted h.0, h.1) })

accepts : (w : World) (s p at : ℕ) (body : Record) → IsRecord body → Ordered w → AreRecords (with_accepted (item_for s p at body w) w)
accepts w s p at body may h t i = at_put (λ items. In i items → IsRecord i.body) w.accepted s t (accepted_by s w ++ item_for s p at body w ∷ []) []
    (λ same j. ⊎_elim (λ (old : In i (accepted_by s w)). h.1 s i old) (λ new. subst (λ (x : Item). IsRecord x.body) (sym new) may) (one_more (accepted_by s w) (item_for s p at body w) i j))
    (h.1 t i)

order_client : (w : World) → Ordered w → OfEvent (Comes w) w
unfolding noted
order_client w h = record {
  not_accepted = λ s p at body. (λ may fit. h, λ may fit. h);
  accepted = λ s p at body here there going small may fit. (h.0, accepts w s p at body may h);
  none_taken = λ s none may fit. h;
  taken = λ s i there is. taken s i (in_at (accepted_by s w) (taken_by s w) i is);
  now = λ moment may fit. h;
  tick = λ node may fit. (kept w.core (tick_step node w.moment w.core).after (call.Tick node w.moment (tick_step node w.moment w.core).answer) tt (refl, refl) h.0, h.1);
  send = λ node may fit. sends node w h;
  reply = λ j r is may fit. (heard w.moment r.response w.core (fit r (in_at w.replies j r is)) h.0, h.1);
  lost = λ node may fit. (kept w.core (disconnect_step node w.moment w.core) (call.Disconnect node w.moment) tt refl h.0, h.1);
  led = λ p node may fit. (kept w.core (lead_step p node w.moment w.core) (call.Lead p node w.moment) tt refl h.0, h.1);
  close = λ may fit. (kept w.core (close_step w.core) call.Close tt refl h.0, h.1);
  end = λ may fit. (kept w.core (end_step w.core).after (call.End (end_step w.core).answer) tt (refl, refl) h.0, h.1);
  flush = λ may fit. (kept w.core (flush_step w.core) call.Flush tt refl h.0, h.1);
}
  where
    taken : (s : ℕ) (i : Item) → In i (accepted_by s w) → Comes w (event.Take s) (taking s (Some i) w)
    taken s i there may = at_taken (λ v. AllFit v.replies → Ordered v) s i w
        (λ fit. (appended i w.core (h.1 s i there) h.0, h.1)) (λ fit. (appended i w.core (h.1 s i there) h.0, h.1))

order_event : (w : World) → Ordered w → OfStep (Comes w) w
unfolding noted with_delivery
order_event w h = record {
  client = order_client w h;
  arrives = λ k o d x is honest says may fit. h;
  others = λ p records there within may fit. h;
}

-- ---- replies stay

abbrev Keeps : Reply → WorldEvent → World → Type 0
Keeps r e v = In r v.replies

keeps_client : (r : Reply) (w : World) → In r w.replies → OfEvent (Keeps r) w
unfolding noted
keeps_client r w i = record {
  not_accepted = λ s p at body. (i, i);
  accepted = λ s p at body here there going small. i;
  none_taken = λ s none. i;
  taken = λ s x there is. at_taken (λ (v : World). In r v.replies) s x w i i;
  now = λ moment. i;
  tick = λ node. i;
  send = λ node. at_request (λ (y : Requested). In r (sending w y.after y.answer).replies) node w.moment w.core (record { ended = i; idle = i; spent = i; out = λ going d wanted left. i });
  reply = λ j x is. i;
  lost = λ node. i;
  led = λ p node. i;
  close = i;
  end = i;
  flush = i;
}

keeps_step : (r : Reply) (w : World) → In r w.replies → (e : WorldEvent) (v : World) → Steps w e v → In r v.replies
unfolding noted with_delivery
keeps_step r w i e v s = at_step (Keeps r) w (record {
  client = keeps_client r w i;
  arrives = λ k o d x is honest says. In-append_left r w.replies _ i;
  others = λ p records there within. i;
}) e v s

-- ---- runs

order_run : (es : List WorldEvent) (w v : World) → Run w es v → AllByRecursion MayBe es → AllFit v.replies → Ordered w → Ordered v
unfolding Run
order_run [] w v run may fit h = subst Ordered (sym run) h
order_run (e ∷ es) w v run may fit h =
    let middle : World = run.0 in
    order_run es middle v run.2 may.1 fit (at_step (Comes w) w (order_event w h) e middle run.1 may.0
    (λ r i. fit r (at_run (λ (u : World). In r u.replies) (keeps_step r) es middle v run.2 i)))

all_may : (now : ℕ) (es : List Event) → now < 2 ^ 63 → AllByRecursion MayBeSaid es → AllByRecursion MayBe (events_of now es)
unfolding events_of
all_may now [] small may = tt
all_may now (schedule.Accept s p value ∷ es) small may = (record { moment = small; keys = tt }, all_may now es small may.1)
all_may now (schedule.Take s ∷ es) small may = (tt, all_may now es small may.1)
all_may now (schedule.Now moment ∷ es) small may = (tt, all_may moment es may.0 may.1)
all_may now (schedule.Tick ∷ es) small may = (tt, all_may now es small may.1)
all_may now (schedule.TickNode node ∷ es) small may = (tt, all_may now es small may.1)
all_may now (schedule.Send ∷ es) small may = (tt, all_may now es small may.1)
all_may now (schedule.SendNode node ∷ es) small may = (tt, all_may now es small may.1)
all_may now (schedule.Deliver k how ∷ es) small may = (tt, all_may now es small may.1)
all_may now (schedule.Reply j ∷ es) small may = (tt, all_may now es small may.1)
all_may now (schedule.Drop ∷ es) small may = (tt, all_may now es small may.1)
all_may now (schedule.DropNode node ∷ es) small may = (tt, all_may now es small may.1)
all_may now (schedule.Leader p node ∷ es) small may = (tt, all_may now es small may.1)
all_may now (schedule.Other p n ∷ es) small may = (tt, all_may now es small may.1)
all_may now (schedule.Close ∷ es) small may = (tt, all_may now es small may.1)
all_may now (schedule.End ∷ es) small may = (tt, all_may now es small may.1)
all_may now (schedule.Flush ∷ es) small may = (tt, all_may now es small may.1)

-- ---- what a schedule leads to

topic-is-text : IsUtf8 names.topic
unfolding encode
topic-is-text = (codes "t", (refl, refl))

client-is-text : IsUtf8 names.client
unfolding encode
client-is-text = (codes "kp", (refl, refl))

first : (c : Config) (partitions senders : ℕ) → MayBegin (scheduled c partitions senders) → Ordered (opening (scheduled c partitions senders))
unfolding opening
first c partitions senders may = (
  new_in_order c names partitions senders 1000 2 may topic-is-text client-is-text,
  λ s i j. absurd (In-nil i (subst (λ items. In i items) (none senders s) j)),
)
  where
    none : (n s : ℕ) → get_or (replicate {A = List Item} n []) s [] ≡ []
    none zero s = refl
    none (suc n) zero = refl
    none (suc n) (suc s) = none n s

pub replayed-order : (c : Config) (w : World) → IsReplayed c w → AllFit w.replies → IsInOrder w.core
replayed-order c w r fit =
    let way = reached c w r in
    (order_run (events_of 0 r.events) (opening (scheduled c r.partitions r.senders)) w way.run (all_may 0 r.events (omega arith) r.may_be) fit (first c r.partitions r.senders r.may_begin)).0
