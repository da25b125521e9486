-- What holds after any moves holds after any service.
use Rattle.std.proofs.Common.{◌≡◌, ℕ, zero, suc, ◌<◌, true, false, List, [], ◌∷◌, ◌++◌, length, map, refl, sym, ap, ◌∙◌, subst, ⊎_elim, eq-eqb, ne_eqb, arith}
use Rattle.std.specs.Prelude.{All, slice_index_or, ◌==◌}
use Rattle.std.proofs.lemmas.List.{length-map}
use Rattle.std.proofs.lemmas.List.FromFn.{get_or-map-range_with_len, length-map-range_with_len}
use mathlib.Core.List.{IsPrefix}
use Rattle.kp_accum.specs.declared.item.Item.{Item}
use Rattle.kp_client.specs.Ends.{Looks, WasServed, WasUnserved}
use Rattle.kp_client.specs.Left.{parts_in, rings_left}
use Rattle.kp_client.specs.Service.{core_of, intake_of}
use Rattle.kp_client.specs.declared.left.Left.{Left}
use Rattle.kp_client.specs.declared.service.Service.{Service}
use Rattle.kp_client.proofs.ServiceLemmas.{same_lanes}
use Rattle.kp_client_laws.specs.Over.{AfterAnyService, IsOver, accepted_in, accepted_of, opening_of}
use Rattle.kp_engine.specs.Agreement.{Serves}
use Rattle.kp_engine.specs.Engine.{IsNew}
use Rattle.kp_engine.specs.Made.{anything}
use Rattle.kp_engine.specs.Opening.{MayTurn}
use Rattle.kp_engine.specs.declared.parts.Parts.{Parts}
use Rattle.kp_engine.proofs.FreshLemmas.{fresh_agrees}
use Rattle.kp_headline.specs.Assumptions.{IsHonest, IsNotMadeUp, IsInTurn, KeepsIdsApart}
use Rattle.kp_headline.specs.Laws.{AfterAnyMoves, calls_in}
use Rattle.kp_headline.specs.Moves.{Move, Accepting, Calling, Meeting, Drawing, Others, IsMove, AreMoves, Throughout, after, led}
use Rattle.kp_headline.specs.Offering.{AllOffered, MayComeFirst, accepting, having_accepted}
use Rattle.kp_headline.specs.Outside.{State, new_state}
use Rattle.kp_headline.proofs.FedLemmas.{of_fed}
use Rattle.kp_lanes.specs.Intake.{intake_limits, lanes_of}
use Rattle.kp_lanes.specs.Sender.{all_entered, all_accepted, finished_number}
use Rattle.kp_lanes.specs.Lane.{LaneId}
use Rattle.kp_lanes.specs.Settling.{Differ, EachOnce, IsInPlace, IsOf, left_items, numbers}
use Rattle.kp_lanes.specs.declared.intake.Intake.{Intake}
use Rattle.kp_lanes.specs.declared.limits.Limits.{Limits}
use Rattle.kp_lanes.specs.declared.entry.Entry.{Entry}
use Rattle.kp_lanes.specs.declared.sender.Finished.{Finished}
use Rattle.kp_headline.specs.Around.{Around, AssumedAround}
use Rattle.kp_polls.specs.Polling.{HaveAccepted, Polling}
use Rattle.kp_polls.specs.Polling as polling
use Rattle.kp_polls.specs.Settled.{AreSettled, HadAccepted}
use Rattle.kp_polls.proofs.AroundLemmas.{alone, of_polls}
use Rattle.kp_polls.proofs.SettledLemmas.{all_are_offered, have_accepted}
use Rattle.kp_rules.specs.Calls.{Call}
use Rattle.kp_rules.specs.Records.{Core}
use Rattle.kp_rules.specs.declared.outcome.Report.{Report}
use Rattle.kp_world.specs.Run.{MayBegin}
use Rattle.kp_world.specs.World.{Opening}

-- ---- moves among which there is no call

none_in_turn : (a : State) (ms : List Move) → calls_in ms ≡ [] → Throughout IsInTurn a ms
none_in_turn a [] none = tt
none_in_turn a (Accepting i ∷ ms) none = (tt, none_in_turn (after (Accepting i) a) ms none)
none_in_turn a (Calling c t ∷ ms) none = absurd cc
none_in_turn a (Meeting k x answer log ∷ ms) none = (tt, none_in_turn (after (Meeting k x answer log) a) ms none)
none_in_turn a (Drawing k ids reply ∷ ms) none = (tt, none_in_turn (after (Drawing k ids reply) a) ms none)
none_in_turn a (Others p records ∷ ms) none = (tt, none_in_turn (after (Others p records) a) ms none)

-- ---- a service that is over

module _ (service : Service) (finished : List Finished) (left : Left) (accepted : List (List Item)) (ms : List Move)
    (over : IsOver service finished left) (had : HadAccepted (opening_of service) finished accepted) where
  abbrev o : Opening
  o = opening_of service

  abbrev calls : List Call
  calls = over.has_ended.calls

  abbrev parts : Parts
  parts = parts_in over.ended

  pub is_core : core_of service ≡ polling.core_of o
  is_core = service.fits.is

  -- what was settled, as it was before the ends looked
  pub settled_at : (t : Intake) → Looks t parts.intake → AreSettled t finished (rings_left left)
  settled_at t looks = record {
    theirs = subst (λ (ls : List LaneId). All (IsOf ls) finished) looks.lanes over.settled.theirs;
    each_once = subst (λ (ls : List LaneId). EachOnce (length ls) finished) looks.lanes over.settled.each_once;
    in_place = subst (λ (l : Limits). All (IsInPlace l) finished) looks.limits over.settled.in_place;
    adds = λ k d near.
        let f : Finished = slice_index_or finished k d in
        let both = over.settled.adds k d near in record {
          entries = subst (λ (ls : List (List Entry)). IsPrefix (slice_index_or ls (finished_number f) []) (all_entered f)) looks.passed both.entries;
          items = both.items ∙ ap (λ (ls : List (List Item)). slice_index_or ls (finished_number f) [] ++ slice_index_or (left_items left.items.items) (finished_number f) []) looks.taken;
          reports = sym (ap (λ (ls : List (List Report)). slice_index_or ls (finished_number f) []) looks.told) ∙ both.reports;
        };
  }

  module _ (s : WasServed (core_of service) (intake_of service) calls over.ended) where
    pub polls : Polling anything o calls s.engine.last
    polls =
        let w = s.engine.polled in record {
          may_begin = service.fits.may;
          intake = intake_of service;
          may_turn = subst (λ (c : Core). MayTurn c (intake_of service)) is_core w.may_turn;
          keeps = w.keeps;
          first = w.first;
          is_new = subst (λ (c : Core). IsNew c (intake_of service) w.keeps w.first) is_core w.is_new;
          polled = w.polled;
        }

    pub looks_since : Looks s.engine.last.intake parts.intake
    looks_since = subst (λ (t : Intake). Looks t parts.intake) s.engine.apart.intake s.looks

    pub have : HaveAccepted o s.engine.last accepted
    have = have_accepted anything o calls s.engine.last finished (rings_left left) accepted polls (settled_at s.engine.last.intake looks_since) had

  module _ (n : WasUnserved (core_of service) (intake_of service) calls over.ended) where
    serves : Serves (polling.core_of o) (intake_limits (intake_of service))
    serves = subst (λ (c : Core). Serves c (intake_limits (intake_of service))) is_core (fresh_agrees (core_of service) (intake_of service) n.may_turn).serves

    pub offered : AllOffered o 0 accepted
    offered = all_are_offered o finished (rings_left left) accepted (intake_of service) service.fits.senders (settled_at (intake_of service) n.looks) had serves

  module _ (around : Around o accepted calls ms) (assumed : AssumedAround (having_accepted o accepted) ms) where
    pub after_service : (Holds : State → Type 0) → AfterAnyMoves o Holds → Holds (led (having_accepted o accepted) ms)
    after_service Holds law = ⊎_elim
        (λ (s : WasServed (core_of service) (intake_of service) calls over.ended).
        of_polls anything o Holds law calls s.engine.last accepted ms (polls s) (have s) around assumed)
        (λ (n : WasUnserved (core_of service) (intake_of service) calls over.ended).
        of_fed o accepted ms had.senders (offered n) around.moves (none_in_turn (having_accepted o accepted) ms (around.same_calls ∙ n.no_call)) assumed Holds service.fits.may law)
        over.has_ended.how

-- ---- what senders had accepted

-- It holds whatever names what they had accepted.
abbrev pub Whatever : (Opening → State → Left → List Finished → Type 0) → Type 0
Whatever Holds =
    (service : Service) (finished : List Finished) (left : Left) (accepted : List (List Item)) (ms : List Move)
    → (over : IsOver service finished left)
    → HadAccepted (opening_of service) finished accepted
    → Around (opening_of service) accepted over.has_ended.calls ms
    → AssumedAround (having_accepted (opening_of service) accepted) ms
    → Holds (opening_of service) (led (having_accepted (opening_of service) accepted) ms) left finished

at_mapped : (fs : List Finished) (k : ℕ) (d : Finished) → k < length fs → slice_index_or (map finished_number fs) k 0 ≡ finished_number (slice_index_or fs k d)
at_mapped [] k d near = absurd (omega (arith, near))
at_mapped (f ∷ fs) zero d near = refl
at_mapped (f ∷ fs) (suc k) d near = at_mapped fs k d (omega (arith, near))

rest_differ : (m : ℕ) (ns : List ℕ) → Differ (m ∷ ns) → Differ ns
rest_differ m ns h = λ j k less near. h (suc j) (suc k) (omega (arith, less)) (omega (arith, near))

at_number : (fs : List Finished) (k : ℕ) (d : Finished) → k < length fs → Differ (numbers fs)
    → accepted_of fs (finished_number (slice_index_or fs k d)) ≡ all_accepted (slice_index_or fs k d)
at_number [] k d near differ = absurd (omega (arith, near))
at_number (f ∷ fs) zero d near differ =
    let same : (finished_number f == finished_number f) ≡ true = eq-eqb (finished_number f) (finished_number f) refl in rw same refl
at_number (f ∷ fs) (suc k) d near differ =
    let there : k < length fs = omega (arith, near) in
    let long : length (numbers fs) ≡ length fs = length-map fs finished_number in
    let apart = differ 0 (suc k) (omega arith) (omega (arith, there, long)) in
    let other : (finished_number f == finished_number (slice_index_or fs k d)) ≡ false =
    ne_eqb (finished_number f) (finished_number (slice_index_or fs k d)) (λ same. apart (same ∙ sym (at_mapped fs k d there))) in
    rw other (at_number fs k d there (rest_differ (finished_number f) (numbers fs) differ))

module _ (service : Service) (finished : List Finished) (left : Left) (over : IsOver service finished left) where
  pub so_many : length (lanes_of (parts_in over.ended).intake) ≡ (opening_of service).senders
  so_many = ap length (same_lanes (core_of service) (intake_of service) over.ended over.has_ended) ∙ service.fits.senders

  pub had_accepted : HadAccepted (opening_of service) finished (accepted_in service finished)
  had_accepted = record {
    senders = length-map-range_with_len (accepted_of finished) 0 (opening_of service).senders;
    all = λ k d near.
        let lane : finished_number (slice_index_or finished k d) < length (lanes_of (parts_in over.ended).intake) = (over.settled.theirs k d near).0 in
        get_or-map-range_with_len (accepted_of finished) 0 (opening_of service).senders (finished_number (slice_index_or finished k d)) (finished_number (slice_index_or finished k d)) []
        (omega (arith, lane, so_many)) (omega arith)
        ∙ at_number finished k d near over.settled.each_once.1;
  }

pub of_whatever : (Holds : Opening → State → Left → List Finished → Type 0) → Whatever Holds → AfterAnyService Holds
of_whatever Holds law service finished left ms over around assumed =
    law service finished left (accepted_in service finished) ms over (had_accepted service finished left over) around assumed

-- ---- with nothing around it

pub stands_alone : (service : Service) (finished : List Finished) (left : Left) → (over : IsOver service finished left)
    → (ms : List Move) × Around (opening_of service) (accepted_in service finished) over.has_ended.calls ms
stands_alone service finished left over = ⊎_elim
    (λ (s : WasServed (core_of service) (intake_of service) over.has_ended.calls over.ended).
    alone anything (opening_of service) over.has_ended.calls s.engine.last (accepted_in service finished)
    (polls service finished left (accepted_in service finished) [] over (had_accepted service finished left over) s))
    (λ (n : WasUnserved (core_of service) (intake_of service) over.has_ended.calls over.ended).
    ([], record { moves = tt; same_calls = sym n.no_call; all_before = refl }))
    over.has_ended.how
