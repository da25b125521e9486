-- What polls of the engine come to, one after the other.
use Rattle.std.proofs.Common.{◌≡◌, ℕ, ◌<◌, List, [], ◌∷◌, ◌++◌, length, map, refl, sym, ap, ◌∙◌, subst, inl, inr, append-nil, append_assoc, arith}
use Rattle.std.specs.Prelude.{Option, Some, None, filter, option_to_list, ◌==◌}
use Rattle.std.specs.List.{AllByRecursion}
use Rattle.std.proofs.lemmas.Grind.{flat_map-append}
use Rattle.std.proofs.lemmas.List.{map-append}
use Rattle.std.proofs.lemmas.List.Elements.{filter-append}
use Rattle.futures.specs.declared.task.Poll.{Poll}
use Rattle.futures.specs.declared.task.Poll.TheVariants.{Ready, Pending}
use Rattle.kp_accum.specs.declared.item.Item.{Item}
use Rattle.kp_connection.specs.Wire.{Told, Wired}
use Rattle.kp_frames.specs.declared.fault.FrameFault.{FrameFault}
use Rattle.kp_lanes.specs.Entries.{items_of}
use Rattle.kp_wire.proofs.ListLemmas.{all_append}
use Rattle.kp_rules.specs.Calls.{Call, End, Life, Lives, Step, appended_by, told_by, Lead}
use Rattle.kp_rules.specs.Calls as call
use Rattle.kp_rules.specs.InOrder.{IsHeld}
use Rattle.kp_rules.specs.Records.{Core}
use Rattle.kp_rules.specs.Records as core
use Rattle.kp_rules.specs.Reports.{reports_to}
use Rattle.kp_rules.specs.declared.outcome.Report.{Report}
use Rattle.kp_rules.specs.declared.outgoing.Outgoing.{Outgoing}
use Rattle.kp_rules.proofs.LeadingOnLemmas.{led_on}
use Rattle.kp_engine.specs.Agreement.{waiting_of}
use Rattle.kp_engine.specs.Away.{EndsAway, MakesTurnAway, cut_if_late}
use Rattle.kp_engine.specs.Closing.{calls_of_poll, calls_of_turn}
use Rattle.kp_engine.specs.Engine.{Cleared, Polls}
use Rattle.kp_engine.specs.Exchange.{OnlyCore, Runs, SameLanes, SameMail, mail_of, senders_of, side_of}
use Rattle.kp_engine.specs.Polls.{TalkUntil, Turn, TurnUntil, Turns, TurnsCut, TurnsOn, TurnsOut, is_cut}
use Rattle.kp_engine.specs.Serving.{HasPlaces, Served, Took, from_sender, reports_of}
use Rattle.kp_engine.specs.Turn.{Heard, RepliesPart, RepliesPartUntil, RequestsPart, RequestsPartUntil, Side, TickPart}
use Rattle.kp_engine.specs.declared.engine.Line.{Line}
use Rattle.kp_engine.specs.declared.engine.Line.TheVariants.{Open, Stopped}
use Rattle.kp_engine.specs.declared.exchange.Exchange.{Exchange}
use Rattle.kp_engine.specs.declared.stop.Cause.{Cause}
use Rattle.kp_engine.specs.declared.stop.Stop.{Stop}
use Rattle.kp_engine.specs.declared.stop.Stop.TheVariants.{Done, NeedStream, OutOfMemory}
use Rattle.kp_engine.proofs.RunLemmas.{nothing_lived, one_lived}
use Rattle.kp_engine.proofs.ServingLemmas.{HandReports, Handed, Silent, TakeItems, appended_in, asked_silent, before_nothing, fetched_in, from_then, handed_none, items_taken, items_then, items_until, replied_silent, reports_handed, reports_until, silent_then, took_none}
use Rattle.kp_engine.proofs.StepLemmas.{each_call, fetched_by}
use Rattle.kp_engine.proofs.TurnLemmas.{core_lanes, core_mail, core_sides, lanes_then}

-- ---- calls on the core, one after the other

lived_appends : (s : Core) (calls : List Call) (life : Life) (t : Core) → Lives s calls life t → life.appended ≡ appended_in calls
unfolding Lives
lived_appends s [] life t lives = ap (λ (l : Life). l.appended) lives.0
lived_appends s (x ∷ calls) life t lives =
    ap (λ (l : Life). l.appended) lives.4 ∙ ap (λ (items : List Item). appended_by x ++ items) (lived_appends lives.0 calls lives.1 t lives.3)

lived_shape : (s : Core) (calls : List Call) (life : Life) (t : Core) → Lives s calls life t → length t.reports ≡ length s.reports
unfolding Lives
lived_shape s [] life t lives = ap (λ (u : Core). length u.reports) lives.1
lived_shape s (x ∷ calls) life t lives = lived_shape lives.0 calls lives.1 t lives.3 ∙ (each_call s lives.0 x lives.2).shape.senders

pub reports_then : (i : ℕ) (xs ys : List core.Told) → reports_to i (xs ++ ys) ≡ reports_to i xs ++ reports_to i ys
reports_then i xs ys =
    ap (map _) (filter-append (λ (t : core.Told). t.item.sender == i) xs ys)
    ∙ map-append _ (filter (λ (t : core.Told). t.item.sender == i) xs) (filter (λ (t : core.Told). t.item.sender == i) ys)

-- what waited, what was told, what was fetched and what waits, of two stretches
waited_then : (w r f m r2 f2 t : List Report) → w ++ r ≡ f ++ m → m ++ r2 ≡ f2 ++ t → w ++ (r ++ r2) ≡ (f ++ f2) ++ t
waited_then w r f m r2 f2 t p q =
    sym (append_assoc w r r2) ∙ ap (λ (rs : List Report). rs ++ r2) p ∙ append_assoc f m r2 ∙ ap (λ (rs : List Report). f ++ rs) q ∙ sym (append_assoc f f2 t)

lived_waits : (i : ℕ) (s : Core) (calls : List Call) (life : Life) (t : Core) → i < length s.reports → Lives s calls life t
    → waiting_of s i ++ reports_to i life.told ≡ fetched_in i calls ++ waiting_of t i
unfolding Lives
lived_waits i s [] life t near lives =
    ap (λ (l : Life). waiting_of s i ++ reports_to i l.told) lives.0 ∙ append-nil (waiting_of s i) ∙ ap (λ (u : Core). waiting_of u i) (sym lives.1)
lived_waits i s (x ∷ calls) life t near lives =
    let goes = each_call s lives.0 x lives.2 in
    ap (λ (l : Life). waiting_of s i ++ reports_to i l.told) lives.4
    ∙ ap (λ (rs : List Report). waiting_of s i ++ rs) (reports_then i (told_by s x) lives.1.told)
    ∙ waited_then (waiting_of s i) (reports_to i (told_by s x)) (fetched_by i x) (waiting_of lives.0 i) (reports_to i lives.1.told) (fetched_in i calls) (waiting_of t i)
    (goes.waiting i near)
    (lived_waits i lives.0 calls lives.1 t (omega (arith, near, goes.shape.senders)) lives.3)

-- ---- from calls to what is served

-- Calls by which items and reports move so.
pub record Moves (x : Exchange) (calls : List Call) (y : Exchange) : Type 0 where
  pub sides : (i : ℕ) → i < senders_of x → Took (side_of x i) (from_sender i (appended_in calls)) (side_of y i)
  pub mails : (i : ℕ) → i < senders_of x → Handed (mail_of x i) (fetched_in i calls) (mail_of y i)

-- all reports, before and after
all_reports : (told held waiting handed fetched told2 held2 waiting2 news : List Report)
    → told2 ≡ told ++ handed → held ++ fetched ≡ handed ++ held2 → waiting ++ news ≡ fetched ++ waiting2
    → told2 ++ held2 ++ waiting2 ≡ told ++ held ++ waiting ++ news
all_reports told held waiting handed fetched told2 held2 waiting2 news p q r =
    ap (λ (rs : List Report). rs ++ held2 ++ waiting2) p
    ∙ ap (λ (rs : List Report). rs ++ waiting2) (append_assoc told handed held2 ∙ ap (λ (rs : List Report). told ++ rs) (sym q) ∙ sym (append_assoc told held fetched))
    ∙ append_assoc (told ++ held) fetched waiting2
    ∙ ap (λ (rs : List Report). told ++ held ++ rs) (sym r)
    ∙ sym (append_assoc (told ++ held) waiting news)

pub served : (x y : Exchange) (calls : List Call) (life : Life) → Lives x.core calls life y.core → AllByRecursion IsHeld calls → HasPlaces x → SameLanes x y → Moves x calls y → Served x calls y
served x y calls life lives held places lanes moves = record {
  life = life;
  lives = lives;
  held = held;
  lanes = lanes;
  places = lived_shape x.core calls life y.core lives ∙ places ∙ sym lanes.senders;
  took = λ i near. subst (λ (items : List Item). Took (side_of x i) (from_sender i items) (side_of y i)) (sym (lived_appends x.core calls life y.core lives)) (moves.sides i near);
  told = λ i near. let m = moves.mails i near in record {
    more = m.handed;
    handed = m.were_handed;
    in_order = all_reports (mail_of x i).told (option_to_list (mail_of x i).held) (waiting_of x.core i) m.handed (fetched_in i calls)
        (mail_of y i).told (option_to_list (mail_of y i).held) (waiting_of y.core i) (reports_to i life.told)
        m.were_handed m.in_order (lived_waits i x.core calls life y.core (omega (arith, near, places)) lives);
  };
}

-- ---- two stretches

took_then : (a b c : Side) (xs ys : List Item) → Took a xs b → Took b ys c → Took a (xs ++ ys) c
took_then a b c xs ys p q = record {
  more = p.more ++ q.more;
  taken = q.taken ∙ ap (λ (items : List Item). items ++ q.more) p.taken ∙ append_assoc (items_of a.passed) p.more q.more;
  in_order =
      sym (append_assoc (option_to_list a.held) p.more q.more)
      ∙ ap (λ (items : List Item). items ++ q.more) p.in_order
      ∙ append_assoc xs (option_to_list b.held) q.more
      ∙ ap (λ (items : List Item). xs ++ items) q.in_order
      ∙ sym (append_assoc xs ys (option_to_list c.held));
}

pub joined : (x y z : Exchange) (a b : List Call) → Served x a y → Served y b z → Served x (a ++ b) z
joined x y z a b p q = record {
  life = call.followed_by p.life q.life;
  lives = led_on x.core y.core z.core a b p.life q.life p.lives q.lives;
  held = all_append IsHeld a b p.held q.held;
  lanes = lanes_then x y z p.lanes q.lanes;
  places = q.places;
  took = λ i near.
      subst (λ (items : List Item). Took (side_of x i) items (side_of z i)) (sym (from_then i p.life.appended q.life.appended))
      (took_then (side_of x i) (side_of y i) (side_of z i) (from_sender i p.life.appended) (from_sender i q.life.appended) (p.took i near)
      (q.took i (omega (arith, near, p.lanes.senders))));
  told = λ i near.
      let first = p.told i near in
      let then = q.told i (omega (arith, near, p.lanes.senders)) in record {
        more = first.more ++ then.more;
        handed = then.handed ∙ ap (λ (rs : List Report). rs ++ then.more) first.handed ∙ append_assoc (mail_of x i).told first.more then.more;
        in_order =
            then.in_order
            ∙ ap (λ (rs : List Report). rs ++ reports_to i q.life.told) first.in_order
            ∙ append_assoc (reports_of x i) (reports_to i p.life.told) (reports_to i q.life.told)
            ∙ ap (λ (rs : List Report). reports_of x i ++ rs) (sym (reports_then i p.life.told q.life.told));
      };
}

-- ---- a turn

items_moved : (x y : Exchange) (calls : List Call) → TakeItems (senders_of x) (side_of x) calls (side_of y) → SameMail x y → Moves x calls y
items_moved x y calls p same = record {
  sides = p.sides;
  mails = λ i near. subst (λ (rs : List Report). Handed (mail_of x i) rs (mail_of y i)) (sym (p.fetches i)) (handed_none (mail_of x i) (mail_of y i) (same i));
}

both_moved : (x y : Exchange) (a b : List Call) → TakeItems (senders_of x) (side_of x) a (side_of y) → HandReports (senders_of x) (mail_of x) b (mail_of y) → Moves x (a ++ b) y
both_moved x y a b p q = record {
  sides = λ i near. subst (λ (items : List Item). Took (side_of x i) (from_sender i items) (side_of y i)) (sym (before_nothing appended_by a b (appended_in a) refl q.appends)) (p.sides i near);
  mails = λ i near. subst (λ (rs : List Report). Handed (mail_of x i) rs (mail_of y i)) (sym (nothing_before i)) (q.mails i near);
}
  where
    nothing_before : (i : ℕ) → fetched_in i (a ++ b) ≡ fetched_in i b
    nothing_before i = flat_map-append (fetched_by i) a b ∙ ap (λ (rs : List Report). rs ++ fetched_in i b) (p.fetches i)

of_asked : (node now : ℕ) (sent : List Outgoing) (calls : List Call) → RequestsPart node now sent calls → Silent calls
of_asked node now sent calls p = subst Silent (sym p.made) (asked_silent node now sent p.last)

of_asked_until : (node now : ℕ) (sent : List Outgoing) (calls : List Call) → RequestsPartUntil node now sent calls → Silent calls
of_asked_until node now sent calls p = subst Silent (sym p.made) (asked_silent node now sent p.last)

of_replied : (now : ℕ) (heard : List Heard) (refused : Option (List ℕ × FrameFault)) (calls : List Call) → RepliesPart now heard refused calls → Silent calls
of_replied now heard refused calls p = subst Silent (sym p.made) (replied_silent now heard)

of_replied_until : (now : ℕ) (heard : List Heard) (calls : List Call) → RepliesPartUntil now heard calls → Silent calls
of_replied_until now heard calls p = subst Silent (sym p.made) (replied_silent now heard)

of_tick : (node now : ℕ) (ticked : _) (calls : List Call) → TickPart node now ticked calls → Silent calls
of_tick node now ticked calls is = subst Silent (sym is) (record { appends = refl; fetches = λ i. refl })

of_talk : (node now : ℕ) (sent : List Outgoing) (heard : List Heard) (calls : List Call) → TalkUntil node now sent heard calls → Silent calls
of_talk node now _ _ _ (TalkUntil.in_requests sent asked p) = of_asked_until node now sent asked p
of_talk node now _ _ _ (TalkUntil.in_replies sent heard asked replied p q) = silent_then asked replied (of_asked node now sent asked p) (of_replied_until now heard replied q)

turn_moves : (node now : ℕ) (x y : Exchange) (sent : List Outgoing) (heard : List Heard) (refused : Option (List ℕ × FrameFault)) (cut : Option Cause) (calls : List Call)
    → Turn node now x sent heard refused cut calls y → Moves x calls y
turn_moves node now x y sent heard refused cut calls t =
    let n = senders_of x in
    subst (λ (cs : List Call). Moves x cs y) (sym t.made)
    (both_moved x y (t.items ++ t.tick ++ (t.asked ++ t.replied)) t.reports
    (items_then n (side_of x) (side_of y) (t.items ++ t.tick) (t.asked ++ t.replied)
    (items_then n (side_of x) (side_of y) t.items t.tick (items_taken n (side_of x) (side_of y) t.closes t.items t.of_items) (of_tick node now t.ticked t.tick t.of_tick))
    (silent_then t.asked t.replied (of_asked node now sent t.asked t.of_requests) (of_replied now heard refused t.replied t.of_replies)))
    (reports_handed n node now (is_cut cut) (mail_of x) (mail_of y) t.reports t.of_reports))

until_moves : (node now : ℕ) (x y : Exchange) (sent : List Outgoing) (heard : List Heard) (calls : List Call) → TurnUntil node now x y sent heard calls → Moves x calls y
until_moves node now x y _ _ _ (TurnUntil.in_items calls p closed same) =
    items_moved x y calls (items_until (senders_of x) (side_of x) (side_of y) calls p) same
until_moves node now x y _ _ _ (TurnUntil.before_the_tick closes items p closed same) =
    items_moved x y items (items_taken (senders_of x) (side_of x) (side_of y) closes items p) same
until_moves node now x y _ _ _ (TurnUntil.in_talk closes ticked items tick talked sent heard p closed t q same) =
    let n = senders_of x in
    items_moved x y (items ++ tick ++ talked)
    (items_then n (side_of x) (side_of y) (items ++ tick) talked
    (items_then n (side_of x) (side_of y) items tick (items_taken n (side_of x) (side_of y) closes items p) (of_tick node now ticked tick t))
    (of_talk node now sent heard talked q))
    same
until_moves node now x y _ _ _ (TurnUntil.in_reports closes ticked items tick asked replied reports sent heard refused cut p closed t q r s) =
    let n = senders_of x in
    both_moved x y (items ++ tick ++ (asked ++ replied)) reports
    (items_then n (side_of x) (side_of y) (items ++ tick) (asked ++ replied)
    (items_then n (side_of x) (side_of y) items tick (items_taken n (side_of x) (side_of y) closes items p) (of_tick node now ticked tick t))
    (silent_then asked replied (of_asked node now sent asked q) (of_replied now heard refused replied r)))
    (reports_until n node now cut (mail_of x) (mail_of y) reports s)

ran : (x y : Exchange) (calls : List Call) → Runs x calls y → HasPlaces x → SameLanes x y → Moves x calls y → Served x calls y
ran x y calls runs places lanes moves = served x y calls runs.life runs.lives runs.held places lanes moves

module _ {S : Type 0} (answers : Told S) (node now : ℕ) (x : Exchange) (w : Wired S) (y : Exchange) (v : Wired S) (places : HasPlaces x) where
  on : (p : TurnsOn answers node now x w y v) → Served x p.calls y
  on p = ran x y p.calls p.runs places p.lanes (turn_moves node now x y p.sent p.heard None None p.calls p.turn)

  cut_off : (cause : Cause) (p : TurnsCut answers node now x w cause y v) → Served x p.calls y
  cut_off cause p = ran x y p.calls p.runs places p.lanes (turn_moves node now x y p.sent p.heard p.refused (Some cause) p.calls p.turn)

  out : (p : TurnsOut answers node now x w y v) → Served x p.calls y
  out p = ran x y p.calls p.runs places p.lanes (until_moves node now x y p.sent p.heard p.calls p.turn)

  its_turn_serves : (result : Poll Stop) (turns : Turns answers node now x w result y v) → Served x (calls_of_turn answers node now x w result y v turns) y
  its_turn_serves Pending p = on p
  its_turn_serves (Ready Done) (done, inl p) = on p
  its_turn_serves (Ready Done) (done, inr (cause, p)) = cut_off cause p
  its_turn_serves (Ready (NeedStream cause)) p = cut_off cause p
  its_turn_serves (Ready OutOfMemory) p = out p

  pub turn_serves : (result : Poll Stop) → Turns answers node now x w result y v → (calls : List Call) × Served x calls y
  turn_serves result turns = (calls_of_turn answers node now x w result y v turns, its_turn_serves result turns)

-- ---- the core alone

pub only_core_serves : (x y : Exchange) (calls : List Call) (life : Life) → Lives x.core calls life y.core → AllByRecursion IsHeld calls → HasPlaces x → OnlyCore x y → Silent calls → Served x calls y
only_core_serves x y calls life lives held places only silent = served x y calls life lives held places (core_lanes x y only) (record {
  sides = λ i near. subst (λ (items : List Item). Took (side_of x i) (from_sender i items) (side_of y i)) (sym silent.appends) (took_none (side_of x i) (side_of y i) (core_sides x y only i));
  mails = λ i near. subst (λ (rs : List Report). Handed (mail_of x i) rs (mail_of y i)) (sym (silent.fetches i)) (handed_none (mail_of x i) (mail_of y i) (core_mail x y only i));
})

pub end_serves : (x y : Exchange) (reports : ℕ) → HasPlaces x → Step x.core (End reports) y.core → OnlyCore x y → Served x (End reports ∷ []) y
end_serves x y reports places step only = only_core_serves x y (End reports ∷ []) _ (one_lived x.core y.core (End reports) step) (tt, tt) places only (record { appends = refl; fetches = λ i. refl })

pub lead_serves : (x y : Exchange) (partition leader now : ℕ) → HasPlaces x → Step x.core (Lead partition leader now) y.core → OnlyCore x y → Served x (Lead partition leader now ∷ []) y
lead_serves x y partition leader now places step only =
    only_core_serves x y (Lead partition leader now ∷ []) _ (one_lived x.core y.core (Lead partition leader now) step) (tt, tt) places only (record { appends = refl; fetches = λ i. refl })

cleared_serves : (x y : Exchange) → HasPlaces x → Cleared x y → Served x [] y
cleared_serves x y places h =
    only_core_serves x y [] _ (nothing_lived x.core y.core h.core) tt places (record { intake = h.intake; items = h.items; reports = h.reports; closed = h.closed })
    (record { appends = refl; fetches = λ i. refl })

pub poll_serves_its : {S : Type 0} (answers : Told S) (line : Line S) (x : Exchange) (result : Poll Stop) (y : Exchange) (left : Line S)
    → HasPlaces x → (poll : Polls answers line x result y left) → Served x (calls_of_poll answers line x result y left poll) y
poll_serves_its answers (Open wire) x result y left places p =
    let begun = cleared_serves x p.begun places p.cleared in
    joined x p.begun y [] (calls_of_turn answers p.node p.now p.begun wire result y p.after p.turns) begun (its_turn_serves answers p.node p.now p.begun wire y p.after begun.places result p.turns)
poll_serves_its answers (Stopped stop) x result y left places p = cleared_serves x y places p.0

pub poll_serves : {S : Type 0} (answers : Told S) (line : Line S) (x : Exchange) (result : Poll Stop) (y : Exchange) (left : Line S)
    → HasPlaces x → Polls answers line x result y left → (calls : List Call) × Served x calls y
poll_serves answers line x result y left places poll = (calls_of_poll answers line x result y left poll, poll_serves_its answers line x result y left places poll)

-- ---- with no connection

ends_away_serves : (node now : ℕ) (cause : Cause) (x : Exchange) (calls : List Call) (stop : Stop) (y : Exchange) → HasPlaces x → EndsAway node now cause x calls stop y → Served x calls y
ends_away_serves node now cause x calls Done y places (done, t) = ran x y calls t.runs places t.lanes (turn_moves node now x y [] [] None (cut_if_late t.late) calls t.turn)
ends_away_serves node now cause x calls (NeedStream still) y places (same, t) = ran x y calls t.runs places t.lanes (turn_moves node now x y [] [] None (cut_if_late t.late) calls t.turn)
ends_away_serves node now cause x calls OutOfMemory y places t = ran x y calls t.runs places t.lanes (until_moves node now x y [] [] calls t.turn)

pub away_serves : (cause : Cause) (x : Exchange) (stop : Stop) (y : Exchange) → HasPlaces x → (turn : MakesTurnAway cause x stop y) → Served x turn.calls y
away_serves cause x stop y places t =
    let begun = cleared_serves x t.begun places t.cleared in
    joined x t.begun y [] t.calls begun (ends_away_serves t.node t.now cause t.begun t.calls stop y begun.places t.turns)
