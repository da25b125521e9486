-- A sender's reports are of all that was told of its records.
use Rattle.std.proofs.Common.{◌≡◌, ℕ, ◌<◌, List, [], ◌∷◌, ◌++◌, length, get_or, refl, sym, ap, ◌∙◌, subst, ⊎_elim, arith}
use Rattle.std.specs.Prelude.{slice_index_or, option_to_list}
use Rattle.kp_client.specs.Ends.{Looks, WasServed, WasUnserved}
use Rattle.kp_client.specs.Left.{parts_in, rings_left}
use Rattle.kp_client.specs.Service.{core_of, intake_of}
use Rattle.kp_client.specs.declared.left.Left.{Left}
use Rattle.kp_client_laws.specs.Over.{opening_of}
use Rattle.kp_client_laws.specs.Told.{AreReported, all_reports}
use Rattle.kp_client_laws.proofs.OverLemmas.{Whatever, have, looks_since, polls}
use Rattle.kp_engine.specs.Agreement.{waiting_of}
use Rattle.kp_engine.specs.Made.{anything}
use Rattle.kp_engine.specs.Exchange.{mail_of, senders_of}
use Rattle.kp_engine.specs.Parts.{to_sender}
use Rattle.kp_engine.specs.Serving.{HasServed}
use Rattle.kp_engine.specs.declared.exchange.Exchange.{Exchange}
use Rattle.kp_engine.specs.declared.parts.Held.{Held}
use Rattle.kp_engine.specs.declared.parts.Parts.{Parts}
use Rattle.kp_engine.proofs.BegunLemmas.{empty_at}
use Rattle.kp_engine.proofs.FreshLemmas.{fresh_reports, nothing_at}
use Rattle.kp_engine.proofs.MadeLemmas.{has_served}
use Rattle.kp_engine.proofs.PartsLemmas.{reports_held}
use Rattle.kp_engine.proofs.RunLemmas.{nothing_lived}
use Rattle.kp_headline.specs.Moves.{led}
use Rattle.kp_headline.specs.Offering.{having_accepted}
use Rattle.kp_headline.specs.Outside.{State}
use Rattle.kp_headline.proofs.LifeLemmas.{leads_to}
use Rattle.kp_lanes.specs.Intake.{lanes_of, told_lists, told_of}
use Rattle.kp_lanes.specs.Sender.{all_got, finished_number}
use Rattle.kp_lanes.specs.Settling.{Adds, left_reports}
use Rattle.kp_lanes.specs.declared.sender.Finished.{Finished}
use Rattle.kp_polls.proofs.AroundLemmas.{now_senders, reported}
use Rattle.kp_rules.specs.Calls.{Call, Life, Lives}
use Rattle.kp_rules.specs.Records.{Core}
use Rattle.kp_rules.specs.Reports.{reports_to}
use Rattle.kp_rules.specs.declared.outcome.Report.{Report}

abbrev no_life : Life
no_life = record { appended = []; told = []; packets = [] }

-- four lists in a row
in_a_row : (a b c d : List Report) → a ++ (b ++ c ++ d) ≡ (a ++ b) ++ c ++ d
in_a_row [] b c d = refl
in_a_row (x ∷ a) b c d = ap (λ (rs : List Report). x ∷ rs) (in_a_row a b c d)

-- Those that a sender received, and those left, are those of its ring, the one that is held, and those that wait in the core.
together : (parts : Parts) (left : Left) (f : Finished) → left.core ≡ parts.core → left.held ≡ parts.held → Adds parts.intake (rings_left left) f
    → all_reports left f ≡ told_of parts.intake (finished_number f) ++ to_sender (finished_number f) parts.held.reports.items ++ waiting_of parts.core (finished_number f)
together parts left f core held adds =
    let i = finished_number f in
    let ring : List Report = slice_index_or (left_reports left.reports.items) i [] in
    in_a_row (all_got f) ring (to_sender i left.held.reports.items) (waiting_of left.core i)
    ∙ ap (λ (rs : List Report). rs ++ to_sender i left.held.reports.items ++ waiting_of left.core i) (sym adds.reports)
    ∙ ap (λ (h : Held). told_of parts.intake i ++ to_sender i h.reports.items ++ waiting_of left.core i) held
    ∙ ap (λ (c : Core). told_of parts.intake i ++ to_sender i parts.held.reports.items ++ waiting_of c i) core

pub are_reported : Whatever AreReported
are_reported service finished left accepted ms over had around assumed k d near = ⊎_elim served unserved over.has_ended.how
  where
    f : Finished
    f = slice_index_or finished k d

    i : ℕ
    i = finished_number f

    parts : Parts
    parts = parts_in over.ended

    b : State
    b = led (having_accepted (opening_of service) accepted) ms

    its : all_reports left f ≡ told_of parts.intake i ++ to_sender i parts.held.reports.items ++ waiting_of parts.core i
    its = together parts left f over.settled.same_core over.settled.same_held (over.settled.adds k d near)

    lane : i < length (lanes_of parts.intake)
    lane = (over.settled.theirs k d near).0

    served : WasServed (core_of service) (intake_of service) over.has_ended.calls over.ended → all_reports left f ≡ reports_to i b.outside.told
    served s =
        let x : Exchange = s.engine.last in
        let h : HasServed (core_of service) (intake_of service) over.has_ended.calls x = has_served (core_of service) (intake_of service) over.has_ended.calls x s.engine.polled in
        let looks : Looks x.intake parts.intake = looks_since service finished left accepted ms over had s in
        let there : i < senders_of x = omega (arith, lane, ap length looks.lanes, x.agree.lanes) in
        let many : senders_of x ≡ (opening_of service).senders = now_senders anything (opening_of service) over.has_ended.calls x (polls service finished left accepted ms over had s) in
        its
        ∙ ap (λ (ls : List (List Report)). slice_index_or ls i [] ++ to_sender i parts.held.reports.items ++ waiting_of parts.core i) looks.told
        ∙ ap (λ (q : Held). told_of x.intake i ++ to_sender i q.reports.items ++ waiting_of parts.core i) s.same_held
        ∙ ap (λ (rs : List Report). told_of x.intake i ++ rs ++ waiting_of parts.core i)
        (reports_held (core_of service) (intake_of service) over.has_ended.calls x s.parts h s.engine.ended s.engine.apart i there)
        ∙ ap (λ (c : Core). told_of x.intake i ++ option_to_list (mail_of x i).held ++ waiting_of c i) (s.same_core ∙ s.engine.apart.core)
        ∙ reported anything (opening_of service) over.has_ended.calls x accepted ms (polls service finished left accepted ms over had s)
        (have service finished left accepted ms over had s) around assumed i (omega (arith, there, many))

    unserved : WasUnserved (core_of service) (intake_of service) over.has_ended.calls over.ended → all_reports left f ≡ reports_to i b.outside.told
    unserved n =
        let none : all_reports left f ≡ [] =
        its
        ∙ ap (λ (ls : List (List Report)). slice_index_or ls i [] ++ to_sender i parts.held.reports.items ++ waiting_of parts.core i) n.looks.told
        ∙ ap (λ (rs : List Report). rs ++ to_sender i parts.held.reports.items ++ waiting_of parts.core i) (empty_at (told_lists (intake_of service)) i n.may_turn.nothing_told)
        ∙ ap (λ (rs : List Report). to_sender i rs ++ waiting_of parts.core i) n.no_report
        ∙ ap (λ (c : Core). waiting_of c i) n.same_core
        ∙ ap (λ (l : List (List Report)). get_or l i []) (fresh_reports (core_of service) n.may_turn.fresh)
        ∙ nothing_at n.may_turn.fresh.senders i in
        let a : State = having_accepted (opening_of service) accepted in
        let lead = leads_to a ms no_life a.core around.moves
        (subst (λ (cs : List Call). Lives a.core cs no_life a.core) (sym (around.same_calls ∙ n.no_call)) (nothing_lived a.core a.core refl)) in
        none ∙ sym (ap (reports_to i) lead.told)
