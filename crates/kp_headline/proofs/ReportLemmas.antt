-- In every world of a run the reports are those of all that was told.
use Rattle.std.proofs.Common.{◌≡◌, ℕ, ◌+◌, Bool, true, false, List, [], ◌∷◌, ◌++◌, map, replicate, refl, sym, ap, ◌∙◌, subst, append_assoc}
use Rattle.std.specs.Prelude.{filter, ◌==◌}
use Rattle.std.specs.List.{enumerate_from}
use Rattle.std.proofs.lemmas.List.{append-nil, map-append}
use Rattle.std.proofs.lemmas.List.Elements.{filter-append}
use Rattle.kp_accum.specs.declared.item.Item.{Item}
use Rattle.kp_frames.specs.declared.response.Response.{Response}
use Rattle.kp_rules.specs.declared.outcome.Report.{Report}
use Rattle.kp_rules.specs.Appending.{Appends, append_step}
use Rattle.kp_rules.specs.Auditing.{without_audits, opened}
use Rattle.kp_rules.specs.Closing.{close_step, end_step}
use Rattle.kp_rules.specs.Dropping.{drop_requests, disconnect_step}
use Rattle.kp_rules.specs.Flush.{flush_step}
use Rattle.kp_rules.specs.Next.{Sending}
use Rattle.kp_rules.specs.Opening.{new_core}
use Rattle.kp_rules.specs.Leading.{lead_step}
use Rattle.kp_rules.specs.Records.{Demand, Produce, InitProducerId, Core, Told, Called}
use Rattle.kp_rules.specs.Replies.{Replies, settle_id, response_step}
use Rattle.kp_rules.specs.Reports.{reports_to, with_reports}
use Rattle.kp_rules.specs.Requesting.{Requested, sent_out, request_step}
use Rattle.kp_rules.specs.Telling.{with_partitions, at_each, at_these}
use Rattle.kp_rules.specs.Tick.{Ticks, tick_step}
use Rattle.kp_rules.proofs.CallLemmas.{at_append, at_request, at_id, at_response, at_tick, at_end_step, at_disconnect, at_close}
use Rattle.kp_world.specs.Accepting.{with_accepted, with_taken}
use Rattle.kp_world.specs.Client.{with_packet}
use Rattle.kp_world.specs.Delivering.{logs_with_others}
use Rattle.kp_world.specs.Events.{WorldEvent}
use Rattle.kp_world.specs.Facts.{Facts, facts}
use Rattle.kp_world.specs.Line.{Line}
use Rattle.kp_world.specs.Noting.{noted, only_noted}
use Rattle.kp_world.specs.Run.{IsReached}
use Rattle.kp_world.specs.World.{World, Opening, opening}
use Rattle.kp_world.proofs.EventLemmas.{OfEvent, OfStep, at_sent, at_taken, at_step, at_run}
use Rattle.kp_headline.proofs.EventLemmas.{facts_noted, facts_kept, facts_delivered}

-- ---- reports of lists

reports_of_both : (s : ℕ) (told more : List Told) → reports_to s (told ++ more) ≡ reports_to s told ++ reports_to s more
reports_of_both s told more =
    ap (map report) (filter-append (λ (t : Told). t.item.sender == s) told more)
    ∙ map-append report (filter (λ (t : Told). t.item.sender == s) told) (filter (λ (t : Told). t.item.sender == s) more)
  where
    report : Told → Report
    report t = record { sender = t.item.sender; partition = t.item.partition; number = t.item.number; outcome = t.outcome }

abbrev from : ℕ → List Told → List (List Report) → List (List Report)
from k told reports = map (λ (x : ℕ × List Report). x.1 ++ reports_to x.0 told) (enumerate_from k reports)

none_from : (k : ℕ) (reports : List (List Report)) → from k [] reports ≡ reports
none_from k [] = refl
none_from k (x ∷ xs) = ap (λ (y : List Report). y ∷ from (k + 1) [] xs) (append-nil x) ∙ ap (λ (ys : List (List Report)). x ∷ ys) (none_from (k + 1) xs)

more_from : (k : ℕ) (told more : List Told) (reports : List (List Report)) → from k more (from k told reports) ≡ from k (told ++ more) reports
more_from k told more [] = refl
more_from k told more (x ∷ xs) =
    ap (λ (y : List Report). y ∷ from (k + 1) more (from (k + 1) told xs)) (append_assoc x (reports_to k told) (reports_to k more) ∙ ap (λ (z : List Report). x ++ z) (sym (reports_of_both k told more)))
    ∙ ap (λ (ys : List (List Report)). (x ++ reports_to k (told ++ more)) ∷ ys) (more_from (k + 1) told more xs)

with_none : (reports : List (List Report)) → with_reports [] reports ≡ reports
unfolding with_reports
with_none reports = none_from 0 reports

with_more : (told more : List Told) (reports : List (List Report)) → with_reports more (with_reports told reports) ≡ with_reports (told ++ more) reports
unfolding with_reports
with_more told more reports = more_from 0 told more reports

-- ---- a call adds the reports of what it tells

abbrev Adds : Core → Core → List Told → Type 0
Adds s t told = t.reports ≡ with_reports told s.reports

quiet : (s t : Core) → t.reports ≡ s.reports → Adds s t []
quiet s t e = e ∙ sym (with_none s.reports)

appends : (i : Item) (s : Core) → Adds s (append_step i s).after (append_step i s).told
appends i s = at_append (λ (x : Appends). Adds s x.after x.told) i s (record {
  outside = quiet s s refl;
  past_end = λ m e. refl;
  by_fence = λ m e f. refl;
  full = sym (with_none s.reports);
  room = λ m e f r. sym (with_none s.reports);
})

sends_out : (node now : ℕ) (s : Core) (d : Demand Sending) → (sent_out node now s d).reports ≡ s.reports
sends_out node now s (Produce xs) = refl
sends_out node now s (InitProducerId p) = refl

requests : (node now : ℕ) (s : Core) → (request_step node now s).after.reports ≡ s.reports
requests node now s = at_request (λ (x : Requested). x.after.reports ≡ s.reports) node now s (record { ended = refl; idle = refl; spent = refl; out = λ e d is going. sends_out node now s d })

responds : (now : ℕ) (response : Response) (s : Core) → Adds s (response_step now response s).after (response_step now response s).told
unfolding at_these with_partitions
responds now response s = at_response (λ (x : Replies). Adds s x.after x.told) now response s (record {
  same = λ answer. quiet s s refl;
  batches = λ r ps produce is demand has fits. refl;
  id = λ r p x is demand has fits. quiet s (settle_id now p x s) (at_id (λ (t : Core). t.reports ≡ s.reports) now p x s (record { wanted = λ given. refl; unwanted = refl; refused = refl }));
})

ticks : (node now : ℕ) (s : Core) → Adds s (tick_step node now s).after (tick_step node now s).told
unfolding at_each with_partitions drop_requests
ticks node now s = at_tick (λ (x : Ticks). Adds s x.after x.told) node now s (record { ended = quiet s s refl; timed_out = refl; on_time = refl })

ends : (s : Core) → Adds s (end_step s).after (end_step s).told
unfolding at_each with_partitions
ends s = at_end_step (λ (x : Called ℕ). Adds s x.after x.told) s (quiet s s refl) refl

disconnects : (node now : ℕ) (s : Core) → Adds s (disconnect_step node now s) []
unfolding drop_requests
disconnects node now s = quiet s (disconnect_step node now s) (at_disconnect (λ (t : Core). t.reports ≡ s.reports) node now s refl refl)

leads_on : (p leader now : ℕ) (s : Core) → Adds s (lead_step p leader now s) []
unfolding lead_step
leads_on p leader now s = quiet s (lead_step p leader now s) refl

closes : (s : Core) → Adds s (close_step s) []
closes s = quiet s (close_step s) (at_close (λ (t : Core). t.reports ≡ s.reports) s refl refl)

flushes : (s : Core) → Adds s (flush_step s) []
unfolding flush_step
flushes s = quiet s (flush_step s) refl

-- ---- in a world

abbrev pub Reports : ℕ → Facts → Type 0
Reports senders f = f.core.reports ≡ with_reports f.told (replicate senders [])

stays_so : (n : ℕ) (w : World) (core : Core) (line : List Line) (told : List Told) → Reports n (facts w) → Adds w.core core told → Reports n (facts (noted core line told w))
stays_so n w core line told h adds =
    subst (Reports n) (sym (facts_noted core line told w))
    (adds ∙ ap (with_reports told) h ∙ with_more (facts w).told told (replicate n []))

same_so : (n : ℕ) (w : World) (line : List Line) → Reports n (facts w) → Reports n (facts (only_noted line w))
same_so n w line h = subst (Reports n) (sym (facts_kept line w)) h

abbrev After : ℕ → WorldEvent → World → Type 0
After n e v = Reports n (facts v)

of_event : (n : ℕ) (w : World) → Reports n (facts w) → OfEvent (After n) w
of_event n w h = record {
  not_accepted = λ s p at body. (same_so n w _ h, same_so n w _ h);
  accepted = λ s p at body there within going small. same_so n (with_accepted _ w) [] h;
  none_taken = λ s is. same_so n w _ h;
  taken = λ s i there is. at_taken (λ (v : World). Reports n (facts v)) s i w
      (stays_so n (with_taken s w) (append_step i w.core).after [] (append_step i w.core).told h (appends i w.core))
      (stays_so n w (append_step i w.core).after _ (append_step i w.core).told h (appends i w.core));
  now = λ moment. same_so n (record w { moment = moment }) [] h;
  tick = λ node. stays_so n w (tick_step node w.moment w.core).after _ (tick_step node w.moment w.core).told h (ticks node w.moment w.core);
  send = λ node. at_sent (λ (v : World). Reports n (facts v)) w (request_step node w.moment w.core).after (request_step node w.moment w.core).answer
      (λ line. stays_so n w (request_step node w.moment w.core).after (line ∷ []) [] h (quiet w.core (request_step node w.moment w.core).after (requests node w.moment w.core)))
      (λ o line. stays_so n (with_packet o w) (request_step node w.moment w.core).after (line ∷ []) [] h (quiet w.core (request_step node w.moment w.core).after (requests node w.moment w.core)));
  reply = λ j r is. stays_so n w (response_step w.moment r.response w.core).after _ (response_step w.moment r.response w.core).told h (responds w.moment r.response w.core);
  lost = λ node. stays_so n w (disconnect_step node w.moment w.core) [] [] h (disconnects node w.moment w.core);
  led = λ p node. stays_so n w (lead_step p node w.moment w.core) [] [] h (leads_on p node w.moment w.core);
  close = stays_so n (record w { is_shut = true }) (close_step w.core) [] [] h (closes w.core);
  end = stays_so n w (end_step w.core).after [] (end_step w.core).told h (ends w.core);
  flush = stays_so n w (flush_step w.core) _ [] h (flushes w.core);
}

of_step : (n : ℕ) (w : World) → Reports n (facts w) → OfStep (After n) w
of_step n w h = record {
  client = of_event n w h;
  arrives = λ k o d x there honest says. subst (Reports n) (sym (facts_delivered o d x w)) h;
  others = λ p records none within. same_so n (record w { logs = logs_with_others p records w.logs }) [] h;
}

first_reports : (o : Opening) (audits : Bool) → (opened audits (new_core o.config o.names o.partitions o.senders o.id o.correlation)).reports ≡ replicate o.senders []
unfolding new_core without_audits
first_reports o true = refl
first_reports o false = refl

begins : (o : Opening) → Reports o.senders (facts (opening o))
unfolding opening
begins o = first_reports o o.audits ∙ sym (with_none (replicate o.senders []))

pub reported : (o : Opening) (es : List WorldEvent) (w : World) → IsReached o es w → Reports o.senders (facts w)
reported o es w r = at_run (λ (v : World). Reports o.senders (facts v)) (λ v h e u s. at_step (After o.senders) v (of_step o.senders v h) e u s) es (opening o) w r.run (begins o)
