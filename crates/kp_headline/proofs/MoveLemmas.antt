-- Every move is a run, and so is every list of moves.
use Rattle.std.proofs.Common.{◌≡◌, ℕ, ◌<◌, ◌≤◌, Bool, true, false, List, [], ◌∷◌, ◌++◌, length, Some, refl, sym, ap, ◌∙◌, subst}
use Rattle.std.specs.Prelude.{slice_set, slice_index_or, ◌&&◌, if◌then◌else◌}
use Rattle.std.specs.List.{AllByRecursion}
use Rattle.std.proofs.lemmas.Bool.{lt-ltb, le-ltb, or_from}
use Rattle.kp_accum.specs.declared.config.Config.{Config}
use Rattle.kp_accum.specs.declared.item.Item.{Item}
use Rattle.kp_accum.specs.Queue.{charge_of}
use Rattle.kp_log.specs.declared.stored.Stored.{Stored}
use Rattle.kp_rules.specs.Auditing.{without_audits, opened}
use Rattle.kp_rules.specs.Calls.{Call, Step}
use Rattle.kp_rules.specs.Calls as call
use Rattle.kp_rules.specs.Opening.{new_core}
use Rattle.kp_rules.specs.Records.{Core}
use Rattle.kp_world.specs.Accepting.{for_partition, item_for, is_large, with_accepted, accepting}
use Rattle.kp_world.specs.Client.{has_partition, only_if, client}
use Rattle.kp_world.specs.Delivering.{log_at, with_records, logs_with_others, AreOthers}
use Rattle.kp_world.specs.Events as event
use Rattle.kp_world.specs.Facts.{Facts}
use Rattle.kp_world.specs.Line.{Closed, Large}
use Rattle.kp_world.specs.Noting.{noted, only_noted}
use Rattle.kp_world.specs.Run.{with_others_at, Steps, MayBegin}
use Rattle.kp_world.specs.World.{World, Opening, opening}
use Rattle.kp_world.proofs.EventLemmas.{run_one, run_append}
use Rattle.kp_headline.specs.Assumptions.{IsHonest, IsNotMadeUp, IsInTurn, KeepsIdsApart, Assumed}
use Rattle.kp_headline.specs.Matching.{IsOfPackets, Matches, CanFollow, IsMatched}
use Rattle.kp_headline.specs.Moves.{Move, Accepting, Calling, Meeting, Drawing, Others, IsAccepted, IsMove, AreMoves, after, led}
use Rattle.kp_headline.specs.Outside.{State, new_state, known}
use Rattle.kp_headline.proofs.AgainLemmas.{others_grow, grown_at, all_again_later}
use Rattle.kp_headline.proofs.CallingLemmas.{tick_moved, disconnect_moved, lead_moved, close_moved, flush_moved, end_moved, fetch_moved, request_moved, append_moved}
use Rattle.kp_headline.proofs.EventLemmas.{run_none, facts_kept}
use Rattle.kp_headline.proofs.FetchingLemmas.{nothing_fetched}
use Rattle.kp_headline.proofs.HearingLemmas.{reply_moved}
use Rattle.kp_headline.proofs.MeetingLemmas.{met, drawn}

-- ---- a call

called : (a : State) (w : World) (c : Call) (t : Core) → Matches a w → Step a.core c t → IsNotMadeUp a (Calling c t) → IsInTurn a (Calling c t) → CanFollow w (after (Calling c t) a)
called a w (call.Append i x) t m step fair fed = append_moved a w t i x m fed step
called a w (call.Request node now x) t m step fair fed = request_moved a w t node now x m step
called a w (call.Reply now content x) t m step fair fed = reply_moved a w t now content x m fair step
called a w (call.Tick node now x) t m step fair fed = tick_moved a w t node now x m step
called a w (call.Disconnect node now) t m step fair fed = disconnect_moved a w t node now m step
called a w (call.Lead p leader now) t m step fair fed = lead_moved a w t p leader now m step
called a w call.Close t m step fair fed = close_moved a w t m step
called a w call.Flush t m step fair fed = flush_moved a w t m step
called a w (call.End reports) t m step fair fed = end_moved a w t reports m step
called a w (call.Fetch sender x) t m step fair fed = fetch_moved a w t sender x m step

-- ---- an accept

abbrev accepted_with : Item → Facts → Facts
accepted_with i f = record f { accepted = slice_set f.accepted i.sender (slice_index_or f.accepted i.sender [] ++ i ∷ []) }

abbrev numbered : Item → ℕ → Item
numbered i n = record { sender = i.sender; partition = i.partition; number = n; at = i.at; body = i.body }

abbrev by_size : Item → World → Bool → World
by_size i w large = if large then only_noted (Large i.sender i.partition ∷ []) w else only_noted [] (with_accepted i w)

abbrev by_gate : Item → World → Bool → World
by_gate i w shut = if shut then only_noted (Closed i.sender i.partition ∷ []) w else by_size i w (is_large i w)

accepted : (a : State) (w : World) (i : Item) → Matches a w → IsAccepted a i → CanFollow w (after (Accepting i) a)
unfolding Steps client noted
accepted a w i m x = record {
  events = event.Accept i.sender i.partition i.at i.body ∷ [];
  world = only_noted [] (with_accepted i w);
  run = run_one w (event.Accept i.sender i.partition i.at i.body) (only_noted [] (with_accepted i w)) (
      ap (λ (b : Bool). only_if (b && has_partition i.partition w) (accepting item w)) (lt-ltb i.sender (length w.accepted) (subst (λ (f : Facts). i.sender < length f.accepted) (sym m.same) x.sender))
      ∙ ap (λ (b : Bool). only_if (true && b) (accepting item w)) (lt-ltb i.partition (length w.logs) (subst (λ (f : Facts). i.partition < length f.logs) (sym m.same) x.partition))
      ∙ ap (λ (j : Item). Some (accepting j w)) same
      ∙ ap (λ (b : Bool). Some (by_gate i w b)) (m.shut ∙ x.going)
      ∙ ap (λ (b : Bool). Some (by_size i w b)) small
      );
  matches = record {
    same = facts_kept [] (with_accepted i w) ∙ ap (accepted_with i) m.same;
    shut = m.shut;
    said = m.said;
    answered = m.answered;
    again = m.again;
    in_flight = m.in_flight;
  };
}
  where
    item : Item
    item = item_for i.sender i.partition i.at i.body w

    same : item_for i.sender i.partition i.at i.body w ≡ i
    same = ap (λ (f : Facts). numbered i (length (for_partition i.partition (slice_index_or f.accepted i.sender [])))) m.same ∙ ap (numbered i) (sym x.number)

    config : w.core.config ≡ a.core.config
    config = ap (λ (f : Facts). f.core.config) m.same

    small : is_large i w ≡ false
    small = or_from _ _
        (le-ltb w.core.config.max_request_size (charge_of i) (subst (λ (c : Config). charge_of i ≤ c.max_request_size) (sym config) x.fits_request))
        (le-ltb w.core.config.buffer_memory (charge_of i) (subst (λ (c : Config). charge_of i ≤ c.buffer_memory) (sym config) x.fits_memory))

-- ---- other producers

abbrev other_with : ℕ → List Stored → Facts → Facts
other_with p records f = record f { logs = logs_with_others p records f.logs }

abbrev other_world : ℕ → List Stored → World → World
other_world p records w = only_noted [] (record w { logs = logs_with_others p records w.logs })

others : (a : State) (w : World) (p : ℕ) (records : List Stored) → Matches a w → p < length a.outside.logs → AreOthers a.outside.ids records → CanFollow w (after (Others p records) a)
unfolding Steps with_others_at noted
others a w p records m within none = record {
  events = event.Other p records ∷ [];
  world = other_world p records w;
  run = run_one w (event.Other p records) (other_world p records w) (
    subst (λ (f : Facts). AreOthers f.ids records) (sym m.same) none,
    ap (λ (b : Bool). only_if b (other_world p records w)) (lt-ltb p (length w.logs) (subst (λ (f : Facts). p < length f.logs) (sym m.same) within)),
  );
  matches = record {
    same = facts_kept [] (record w { logs = logs_with_others p records w.logs }) ∙ ap (other_with p records) m.same;
    shut = m.shut;
    said = m.said;
    answered = m.answered;
    again = all_again_later a.outside.logs (logs_with_others p records a.outside.logs) a.outside.said
        (grown_at a.outside.logs p (with_records records (log_at p a.outside.logs)) within (others_grow records (log_at p a.outside.logs))) m.again;
    in_flight = m.in_flight;
  };
}

-- ---- moves

moved : (a : State) (x : Move) (w : World) → Matches a w → IsMove a x → IsHonest a x → IsNotMadeUp a x → IsInTurn a x → KeepsIdsApart a x → CanFollow w (after x a)
moved a (Accepting i) w m is honest fair fed ids = accepted a w i m is
moved a (Calling c t) w m is honest fair fed ids = called a w c t m is fair fed
moved a (Meeting k x answer log) w m is honest fair fed ids = met a w k x answer log m is honest
moved a (Drawing k drawn_ids reply) w m is honest fair fed ids = drawn a w k drawn_ids reply m is ids
moved a (Others p records) w m is honest fair fed ids = others a w p records m is ids

pub all_moved : (a : State) (w : World) (ms : List Move) → Matches a w → AreMoves a ms → Assumed a ms → CanFollow w (led a ms)
all_moved a w [] m are h = record { events = []; world = w; run = run_none w; matches = m }
all_moved a w (x ∷ ms) m are h =
    let one : CanFollow w (after x a) = moved a x w m are.0 h.honest.0 h.not_made_up.0 h.in_turn.0 h.ids_once.0 in
    let rest : CanFollow one.world (led (after x a) ms) = all_moved (after x a) one.world ms one.matches are.1
    (record { honest = h.honest.1; not_made_up = h.not_made_up.1; in_turn = h.in_turn.1; ids_once = h.ids_once.1 }) in
    record { events = one.events ++ rest.events; world = rest.world; run = run_append one.events rest.events w one.world rest.world one.run rest.run; matches = rest.matches }

-- ---- from the beginning

none_in_flight : (o : Opening) (audits : Bool) → (opened audits (new_core o.config o.names o.partitions o.senders o.id o.correlation)).requests ≡ []
unfolding new_core without_audits
none_in_flight o true = refl
none_in_flight o false = refl

begin : (o : Opening) → Matches (new_state o) (opening o)
unfolding opening
begin o = record {
  same = ap (λ (s : Core). let f : Facts = record (known (new_state o)) { core = s } in f) (sym (nothing_fetched (new_state o).core));
  shut = refl;
  said = tt;
  answered = tt;
  again = tt;
  in_flight = record { used = tt; requests = subst (AllByRecursion (IsOfPackets (new_state o).core.correlation [])) (sym (none_in_flight o o.audits)) tt };
}

pub matched : (o : Opening) (ms : List Move) → MayBegin o → AreMoves (new_state o) ms → Assumed (new_state o) ms → IsMatched o (led (new_state o) ms)
matched o ms may are h =
    let r : CanFollow (opening o) (led (new_state o) ms) = all_moved (new_state o) (opening o) ms (begin o) are h in
    record { events = r.events; world = r.world; reached = record { may_begin = may; run = r.run }; matches = r.matches }
