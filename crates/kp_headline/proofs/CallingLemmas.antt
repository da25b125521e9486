-- A call on the core is an event at its moment.
use Rattle.std.proofs.Common.{◌≡◌, ℕ, ◌+◌, ◌<◌, Bool, true, [], ◌∷◌, ◌++◌, length, Some, None, refl, sym, ap, ◌∙◌, subst}
use Rattle.std.specs.Prelude.{Option, Result, Ok, Err, slice_get, slice_set, slice_index, slice_index_or}
use Rattle.std.proofs.lemmas.Bool.{lt-ltb}
use Rattle.kp_accum.specs.declared.fault.AppendFault.{AppendFault}
use Rattle.kp_accum.specs.declared.fault.AppendFault.TheVariants as append
use Rattle.kp_accum.specs.declared.item.Item.{Item}
use Rattle.kp_rules.specs.declared.fault.CoreFault.{CoreFault}
use Rattle.kp_rules.specs.declared.fault.CoreFault.TheVariants as fault
use Rattle.kp_rules.specs.declared.outcome.Report.{Report}
use Rattle.kp_rules.specs.declared.outgoing.Outgoing.{Outgoing}
use Rattle.kp_rules.specs.declared.ticked.Ticked.{Ticked}
use Rattle.kp_rules.specs.Appending.{Appends, append_step}
use Rattle.kp_rules.specs.Calls.{Step, answered_as, packet_in}
use Rattle.kp_rules.specs.Calls as call
use Rattle.kp_rules.specs.Closing.{close_step, end_step}
use Rattle.kp_rules.specs.Dropping.{disconnect_step}
use Rattle.kp_rules.specs.Fetched.{with_fetched, after_fetched}
use Rattle.kp_rules.specs.Flush.{flush_step}
use Rattle.kp_rules.specs.Leading.{lead_step}
use Rattle.kp_rules.specs.Records.{Core, Called, quietly}
use Rattle.kp_rules.specs.Reports.{fetch_step}
use Rattle.kp_rules.specs.Requesting.{Packet, Requested, request_step}
use Rattle.kp_rules.specs.Tick.{tick_step}
use Rattle.kp_rules.proofs.FetchedLemmas.{append_behind, request_behind, tick_behind, end_behind, disconnect_behind, lead_behind, close_behind, flush_behind}
use Rattle.kp_world.specs.Accepting.{accepted_by, taken_by, with_taken, taking_of, taking}
use Rattle.kp_world.specs.Client.{only_if, handed_with, with_packet, sending, ticking, ending, closing, flush_line, client}
use Rattle.kp_world.specs.Events as event
use Rattle.kp_world.specs.Facts.{Facts}
use Rattle.kp_world.specs.Noting.{noted}
use Rattle.kp_world.specs.Run.{Steps, Run}
use Rattle.kp_world.specs.World.{World}
use Rattle.kp_world.proofs.EventLemmas.{run_one}
use Rattle.kp_headline.specs.Assumptions.{IsNext}
use Rattle.kp_headline.specs.Matching.{Remembers, Matches, CanFollow}
use Rattle.kp_headline.specs.Moves.{Calling, with_packets, with_report, after}
use Rattle.kp_headline.specs.Outside.{State}
use Rattle.kp_headline.proofs.EventLemmas.{at_moment, run_at, stepped, facts_noted, facts_kept, facts_at}
use Rattle.kp_headline.proofs.FetchingLemmas.{report_fetched, none_fetched}
use Rattle.kp_headline.proofs.InFlightLemmas.{AfterRequest, after_request, remembers_one_more, shrinks_appended, shrinks_ticked, shrinks_ended, shrinks_disconnected, shrinks_led, shrinks_closed, shrinks_flushed}
use Rattle.kp_headline.proofs.MatchLemmas.{core_is, same_by, in_flight_still, parts_still, given_still, contained_front, got_front, untold, stays, stays_so}

-- ---- calls that change nothing outside

abbrev pub Leads : State → World → call.Call → Core → Type 0
Leads a w c t = CanFollow w (after (Calling c t) a)

pub tick_moved : (a : State) (w : World) (t : Core) (node now : ℕ) (answer : Ticked) → Matches a w → Step a.core (call.Tick node now answer) t → Leads a w (call.Tick node now answer) t
unfolding Steps client noted
tick_moved a w t node now answer m step = record {
  events = event.Now now ∷ event.Tick node ∷ [];
  world = ticking node (at_moment now w);
  run = run_at w now (event.Tick node) (ticking node (at_moment now w)) refl;
  matches = record {
    same = same_by (λ f. f) a w (ticking node (at_moment now w)) (tick_step node now w.core) (tick_step node now a.core) t m
        (facts_at now (tick_step node now w.core).after _ (tick_step node now w.core).told w)
        (ap (tick_step node now) (core_is a w m) ∙ tick_behind a.outside.fetched node now a.core) step.1;
    shut = m.shut;
    said = m.said;
    answered = m.answered;
    again = m.again;
    in_flight = in_flight_still a w (tick_step node now a.core).after t m (shrinks_ticked node now a.core) step.1;
  };
}

abbrev quiet : Core → Called (Unit {0})
quiet s = quietly s tt

pub disconnect_moved : (a : State) (w : World) (t : Core) (node now : ℕ) → Matches a w → Step a.core (call.Disconnect node now) t → Leads a w (call.Disconnect node now) t
unfolding Steps client noted
disconnect_moved a w t node now m step = record {
  events = event.Now now ∷ event.Drop node ∷ [];
  world = noted (disconnect_step node now w.core) [] [] (at_moment now w);
  run = run_at w now (event.Drop node) (noted (disconnect_step node now w.core) [] [] (at_moment now w)) refl;
  matches = record {
    same = same_by (λ f. f) a w (noted (disconnect_step node now w.core) [] [] (at_moment now w)) (quiet (disconnect_step node now w.core)) (quiet (disconnect_step node now a.core)) t m
        (facts_at now (disconnect_step node now w.core) [] [] w)
        (ap quiet (ap (disconnect_step node now) (core_is a w m) ∙ disconnect_behind a.outside.fetched node now a.core)) step;
    shut = m.shut;
    said = m.said;
    answered = m.answered;
    again = m.again;
    in_flight = in_flight_still a w (disconnect_step node now a.core) t m (shrinks_disconnected node now a.core) step;
  };
}

pub lead_moved : (a : State) (w : World) (t : Core) (p leader now : ℕ) → Matches a w → Step a.core (call.Lead p leader now) t → Leads a w (call.Lead p leader now) t
unfolding Steps client noted
lead_moved a w t p leader now m step = record {
  events = event.Now now ∷ event.Lead p leader ∷ [];
  world = noted (lead_step p leader now w.core) [] [] (at_moment now w);
  run = run_at w now (event.Lead p leader) (noted (lead_step p leader now w.core) [] [] (at_moment now w)) refl;
  matches = record {
    same = same_by (λ f. f) a w (noted (lead_step p leader now w.core) [] [] (at_moment now w)) (quiet (lead_step p leader now w.core)) (quiet (lead_step p leader now a.core)) t m
        (facts_at now (lead_step p leader now w.core) [] [] w)
        (ap quiet (ap (lead_step p leader now) (core_is a w m) ∙ lead_behind a.outside.fetched p leader now a.core)) step;
    shut = m.shut;
    said = m.said;
    answered = m.answered;
    again = m.again;
    in_flight = in_flight_still a w (lead_step p leader now a.core) t m (shrinks_led p leader now a.core) step;
  };
}

pub end_moved : (a : State) (w : World) (t : Core) (reports : ℕ) → Matches a w → Step a.core (call.End reports) t → Leads a w (call.End reports) t
unfolding Steps client noted
end_moved a w t reports m step = record {
  events = event.End ∷ [];
  world = ending w;
  run = run_one w event.End (ending w) refl;
  matches = record {
    same = same_by (λ f. f) a w (ending w) (end_step w.core) (end_step a.core) t m
        (facts_noted (end_step w.core).after [] (end_step w.core).told w)
        (ap end_step (core_is a w m) ∙ end_behind a.outside.fetched a.core) step.1;
    shut = m.shut;
    said = m.said;
    answered = m.answered;
    again = m.again;
    in_flight = in_flight_still a w (end_step a.core).after t m (shrinks_ended a.core) step.1;
  };
}

abbrev pub flushed : World → World
flushed w = noted (flush_step w.core) (flush_line w.core ∷ []) [] w

pub flush_runs : (w : World) → Run w (event.Flush ∷ []) (flushed w)
unfolding Steps client
flush_runs w = run_one w event.Flush (flushed w) refl

pub flush_matches : (a : State) (w : World) (t : Core) → Matches a w → Step a.core call.Flush t → Matches (after (Calling call.Flush t) a) (flushed w)
unfolding noted
flush_matches a w t m step = record {
  same = same_by (λ f. f) a w (flushed w) (quiet (flush_step w.core)) (quiet (flush_step a.core)) t m
      (facts_noted (flush_step w.core) (flush_line w.core ∷ []) [] w)
      (ap quiet (ap flush_step (core_is a w m) ∙ flush_behind a.outside.fetched a.core)) step;
  shut = m.shut;
  said = m.said;
  answered = m.answered;
  again = m.again;
  in_flight = in_flight_still a w (flush_step a.core) t m (shrinks_flushed a.core) step;
}

pub flush_moved : (a : State) (w : World) (t : Core) → Matches a w → Step a.core call.Flush t → Leads a w call.Flush t
flush_moved a w t m step = record { events = event.Flush ∷ []; world = flushed w; run = flush_runs w; matches = flush_matches a w t m step }

-- ---- closing

pub close_moved : (a : State) (w : World) (t : Core) → Matches a w → Step a.core call.Close t → Leads a w call.Close t
unfolding Steps client noted
close_moved a w t m step = record {
  events = event.Close ∷ [];
  world = closing w;
  run = run_one w event.Close (closing w) refl;
  matches = record {
    same = same_by (λ f. f) a w (closing w) (quiet (close_step w.core)) (quiet (close_step a.core)) t m
        (facts_noted (close_step w.core) [] [] (record w { is_shut = true }))
        (ap quiet (ap close_step (core_is a w m) ∙ close_behind a.outside.fetched a.core)) step;
    shut = refl;
    said = m.said;
    answered = m.answered;
    again = m.again;
    in_flight = in_flight_still a w (close_step a.core) t m (shrinks_closed a.core) step;
  };
}

-- ---- fetching a report, which is no event

pub fetch_moved : (a : State) (w : World) (t : Core) (sender : ℕ) (answer : Option Report) → Matches a w → Step a.core (call.Fetch sender answer) t → Leads a w (call.Fetch sender answer) t
fetch_moved a w t sender None m step = stays_so a w t m (step.1 ∙ none_fetched a.core sender step.0)
fetch_moved a w t sender (Some r) m step =
    stays a w (with_report sender r a.outside.fetched) t m
    (ap (with_fetched (with_report sender r a.outside.fetched)) step.1 ∙ report_fetched a.core sender r a.outside.fetched step.0)
    (in_flight_still a w (fetch_step sender a.core).after t m (record { correlation = refl; requests = λ P h. h }) step.1)

-- ---- a request

sent : (w : World) (node now : ℕ) (x : Result (Option Packet) CoreFault) → (request_step node now w.core).answer ≡ x → Run w (event.Now now ∷ event.Send node ∷ []) (sending (at_moment now w) (request_step node now w.core).after x)
unfolding Steps client noted
sent w node now x e =
    run_at w now (event.Send node) (sending (at_moment now w) (request_step node now w.core).after x)
    (ap (λ (y : Result (Option Packet) CoreFault). Some (sending (at_moment now w) (request_step node now w.core).after y)) e)

abbrev out_with : Packet → Facts → Facts
out_with o f = record f { packets = f.packets ++ o ∷ []; handed = handed_with o.demand f.handed }

abbrev with_answer : State → Core → Result (Option Packet) CoreFault → State
with_answer a t y = record { core = t; outside = record (with_packets (packet_in y) a.outside) { told = a.outside.told ++ [] } }

out_moved : (a : State) (w : World) (t : Core) (node now : ℕ) (o : Packet) → Matches a w → (request_step node now a.core).answer ≡ Ok (Some o) → t ≡ (request_step node now a.core).after → CanFollow w (with_answer a t (Ok (Some o)))
unfolding noted
out_moved a w t node now o m is leaves =
    let behind : request_step node now w.core ≡ after_fetched a.outside.fetched (request_step node now a.core) = ap (request_step node now) (core_is a w m) ∙ request_behind a.outside.fetched node now a.core in
    let out : AfterRequest node now a.core (Ok (Some o)) (request_step node now a.core).after = subst (λ (y : Result (Option Packet) CoreFault). AfterRequest node now a.core y (request_step node now a.core).after) is (after_request node now a.core) in
    record {
      events = event.Now now ∷ event.Send node ∷ [];
      world = sending (at_moment now w) (request_step node now w.core).after (Ok (Some o));
      run = sent w node now (Ok (Some o)) (ap (λ (z : Requested). z.answer) behind ∙ is);
      matches = record {
        same = same_by (out_with o) a w (sending (at_moment now w) (request_step node now w.core).after (Ok (Some o))) (quiet (request_step node now w.core).after) (quiet (request_step node now a.core).after) t m
            (facts_noted (request_step node now w.core).after _ [] (with_packet o (at_moment now w)) ∙ ap (λ (f : Facts). stepped (request_step node now w.core).after [] (out_with o f)) (facts_kept [] (record w { moment = now })))
            (ap (λ (z : Requested). quiet z.after) behind) leaves;
        shut = m.shut;
        said = parts_still a.outside.packets (a.outside.packets ++ o ∷ []) w.replies w.replies a.outside.said (got_front a.outside.packets (o ∷ [])) (λ r i. i) m.said;
        answered = given_still a.outside.packets (a.outside.packets ++ o ∷ []) w.replies w.replies a.outside.answered (contained_front a.outside.packets (o ∷ [])) (λ r i. i) m.answered;
        again = m.again;
        in_flight = subst (λ (s : Core). Remembers s (a.outside.packets ++ o ∷ [])) (sym (leaves ∙ out.1)) (remembers_one_more node now a.core a.outside.packets o out.0 m.in_flight);
      };
    }

-- where nothing goes out, the core is as it was
unsent : (node now : ℕ) (s t : Core) (y : Result (Option Packet) CoreFault) (f : CoreFault) → AfterRequest node now s y t → answered_as s y ≡ Err f → t ≡ s
unsent node now s t (Ok (Some o)) f h e = absurd cc
unsent node now s t (Ok None) f h e = h
unsent node now s t (Err g) f h e = h

refused : (a : State) (w : World) (t : Core) (node now : ℕ) (f : CoreFault) → Matches a w → answered_as a.core (request_step node now a.core).answer ≡ Err f → t ≡ (request_step node now a.core).after → CanFollow w (untold a a.outside.fetched t)
refused a w t node now f m is leaves = stays_so a w t m (leaves ∙ unsent node now a.core (request_step node now a.core).after (request_step node now a.core).answer f (after_request node now a.core) is)

pub request_moved : (a : State) (w : World) (t : Core) (node now : ℕ) (answer : Result (Option Outgoing) CoreFault) → Matches a w → Step a.core (call.Request node now answer) t → Leads a w (call.Request node now answer) t
request_moved a w t node now (Ok out) m step = at_answer (request_step node now a.core).answer refl step.0
  where
    at_answer : (y : Result (Option Packet) CoreFault) → (request_step node now a.core).answer ≡ y → answered_as a.core y ≡ Ok out → CanFollow w (with_answer a t y)
    at_answer (Ok (Some o)) is e = out_moved a w t node now o m is step.1
    at_answer (Ok None) is e = stays_so a w t m (step.1 ∙ subst (λ (y : Result (Option Packet) CoreFault). AfterRequest node now a.core y (request_step node now a.core).after) is (after_request node now a.core))
    at_answer (Err f) is e = absurd cc
request_moved a w t node now (Err fault.OutOfMemory) m step = stays_so a w t m step.1
request_moved a w t node now (Err fault.Ended) m step = refused a w t node now fault.Ended m step.0 step.1
request_moved a w t node now (Err fault.CorrelationSpent) m step = refused a w t node now fault.CorrelationSpent m step.0 step.1
request_moved a w t node now (Err (fault.ReplyFault f)) m step = refused a w t node now (fault.ReplyFault f) m step.0 step.1

-- ---- an append

taken : (w : World) (i : Item) (x : Result (Unit {0}) AppendFault) → i.sender < length w.accepted → slice_get (accepted_by i.sender w) (taken_by i.sender w) ≡ Some i → (append_step i w.core).answer ≡ x
    → Run w (event.Take i.sender ∷ []) (taking_of i.sender (append_step i w.core).after (append_step i w.core).told x w)
unfolding Steps client
taken w i x there is e =
    run_one w (event.Take i.sender) (taking_of i.sender (append_step i w.core).after (append_step i w.core).told x w) (
    ap (λ (t : Bool). only_if t (taking i.sender (slice_get (accepted_by i.sender w) (taken_by i.sender w)) w)) (lt-ltb i.sender (length w.accepted) there)
    ∙ ap (λ (o : Option Item). Some (taking i.sender o w)) is
    ∙ ap (λ (y : Result (Unit {0}) AppendFault). Some (taking_of i.sender (append_step i w.core).after (append_step i w.core).told y w)) e
    )

append_same : (a : State) (w : World) (i : Item) → Matches a w → append_step i w.core ≡ after_fetched a.outside.fetched (append_step i a.core)
append_same a w i m = ap (append_step i) (core_is a w m) ∙ append_behind a.outside.fetched i a.core

the_next : (a : State) (w : World) (i : Item) (x : Result (Unit {0}) AppendFault) → Matches a w → IsNext a.outside i → (append_step i a.core).answer ≡ x
    → Run w (event.Take i.sender ∷ []) (taking_of i.sender (append_step i w.core).after (append_step i w.core).told x w)
the_next a w i x m fed e =
    taken w i x (subst (λ (f : Facts). i.sender < length f.accepted) (sym m.same) fed.sender)
    (ap (λ (f : Facts). slice_get (slice_index_or f.accepted i.sender []) (slice_index f.taken i.sender)) m.same ∙ fed.oldest)
    (ap (λ (z : Appends). z.answer) (append_same a w i m) ∙ e)

abbrev took : ℕ → Facts → Facts
took s f = record f { taken = slice_set f.taken s (slice_index f.taken s + 1) }

pub append_moved : (a : State) (w : World) (t : Core) (i : Item) (answer : Result (Unit {0}) AppendFault) → Matches a w → IsNext a.outside i → Step a.core (call.Append i answer) t → Leads a w (call.Append i answer) t
unfolding noted
append_moved a w t i (Ok done) m fed step = record {
  events = event.Take i.sender ∷ [];
  world = taking_of i.sender (append_step i w.core).after (append_step i w.core).told (Ok done) w;
  run = the_next a w i (Ok done) m fed step.0;
  matches = record {
    same = same_by (took i.sender) a w (taking_of i.sender (append_step i w.core).after (append_step i w.core).told (Ok done) w) (append_step i w.core) (append_step i a.core) t m
        (facts_noted (append_step i w.core).after [] (append_step i w.core).told (with_taken i.sender w)) (append_same a w i m) step.1;
    shut = m.shut;
    said = m.said;
    answered = m.answered;
    again = m.again;
    in_flight = in_flight_still a w (append_step i a.core).after t m (shrinks_appended i a.core) step.1;
  };
}
append_moved a w t i (Err append.OutOfMemory) m fed step = stays_so a w t m step.1
append_moved a w t i (Err append.BufferFull) m fed step = record {
  events = event.Take i.sender ∷ [];
  world = taking_of i.sender (append_step i w.core).after (append_step i w.core).told (Err append.BufferFull) w;
  run = the_next a w i (Err append.BufferFull) m fed step.0;
  matches = record {
    same = same_by (λ f. f) a w (taking_of i.sender (append_step i w.core).after (append_step i w.core).told (Err append.BufferFull) w) (append_step i w.core) (append_step i a.core) t m
        (facts_noted (append_step i w.core).after _ (append_step i w.core).told w) (append_same a w i m) step.1;
    shut = m.shut;
    said = m.said;
    answered = m.answered;
    again = m.again;
    in_flight = in_flight_still a w (append_step i a.core).after t m (shrinks_appended i a.core) step.1;
  };
}
