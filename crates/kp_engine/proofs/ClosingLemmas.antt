-- How often polls close the core.
use Rattle.std.proofs.Common.{◌≡◌, ℕ, Bool, true, false, List, [], ◌∷◌, ◌++◌, map, refl, sym, ap, subst, ◌∙◌, inl, inr, append-nil, append_assoc}
use Rattle.std.specs.Prelude.{Option, Some, None, IsTrue, flat_map, ◌||◌}
use Rattle.std.proofs.lemmas.Grind.{flat_map-append}
use Rattle.futures.specs.declared.task.Poll.{Poll}
use Rattle.futures.specs.declared.task.Poll.TheVariants.{Ready, Pending}
use Rattle.kp_connection.specs.Wire.{Told, Wired}
use Rattle.kp_frames.specs.declared.fault.FrameFault.{FrameFault}
use Rattle.kp_rules.specs.Calls.{Call, Close, End, Lead}
use Rattle.kp_rules.specs.declared.outgoing.Outgoing.{Outgoing}
use Rattle.kp_engine.specs.Away.{EndsAway, cut_if_late}
use Rattle.kp_engine.specs.Closing.{ClosedBetween, ClosesOnce, Polled, calls_of_poll, calls_of_turn, closing}
use Rattle.kp_engine.specs.Engine.{Cleared, Polls}
use Rattle.kp_engine.specs.Exchange.{mail_of, senders_of, side_of}
use Rattle.kp_engine.specs.Polls.{Closed, TalkUntil, Turn, TurnUntil, Turns, is_cut}
use Rattle.kp_engine.specs.Serving.{HasPlaces, Served}
use Rattle.kp_engine.specs.Turn.{Heard, ItemsPart, RequestsPart, TickPart, hears, if_so}
use Rattle.kp_engine.specs.declared.engine.Line.{Line}
use Rattle.kp_engine.specs.declared.engine.Line.TheVariants.{Open, Stopped}
use Rattle.kp_engine.specs.declared.exchange.Exchange.{Exchange}
use Rattle.kp_engine.specs.declared.stop.Cause.{Cause}
use Rattle.kp_engine.specs.declared.stop.Stop.{Stop}
use Rattle.kp_engine.specs.declared.stop.Stop.TheVariants.{Done, NeedStream, OutOfMemory}
use Rattle.kp_engine.proofs.RoundLemmas.{talk_closes_none, talk_serves}
use Rattle.kp_engine.proofs.RunLemmas.{nothing_lived}
use Rattle.kp_engine.proofs.ServedLemmas.{away_serves, end_serves, lead_serves, joined, only_core_serves, poll_serves_its}
use Rattle.kp_engine.proofs.ServingLemmas.{before_nothing, items_until_none, none_asked, none_of, parts_none, reports_none, reports_until_none}
use Rattle.kp_engine.proofs.TalkLemmas.{only_same}

-- ---- the calls of a turn

-- the close where there is one
only_so : (b : Bool) → flat_map closing (if_so b Close) ≡ if_so b Close
only_so true = refl
only_so false = refl

items_close : (x y : Exchange) (closes : Bool) (items : List Call) → ItemsPart (senders_of x) (side_of x) closes items (side_of y) → flat_map closing items ≡ if_so closes Close
items_close x y closes items p =
    ap (flat_map closing) p.made
    ∙ flat_map-append closing p.of_senders (if_so closes Close)
    ∙ ap (λ (cs : List Call). cs ++ flat_map closing (if_so closes Close)) (parts_none closing (λ i answer. refl) refl (senders_of x) (side_of x) (side_of y) p.of_senders p.parts)
    ∙ only_so closes

asked_none : (node now : ℕ) (sent : List Outgoing) (asked : List Call) → RequestsPart node now sent asked → flat_map closing asked ≡ []
asked_none node now sent asked p = ap (flat_map closing) p.made ∙ none_asked closing (λ node n answer. refl) node now sent p.last

heard_none : (now : ℕ) (heard : List Heard) (replied : List Call) → replied ≡ map (hears now) heard → flat_map closing replied ≡ []
heard_none now heard replied is = ap (flat_map closing) is ∙ none_of closing (hears now) (λ reply. refl) heard

ticked_none : (node now : ℕ) (ticked : _) (tick : List Call) → TickPart node now ticked tick → flat_map closing tick ≡ []
ticked_none node now ticked tick is = ap (flat_map closing) is

talked_none : (node now : ℕ) (sent : List Outgoing) (heard : List Heard) (calls : List Call) → TalkUntil node now sent heard calls → flat_map closing calls ≡ []
talked_none node now _ _ _ (TalkUntil.in_requests sent asked p) = ap (flat_map closing) p.made ∙ none_asked closing (λ node n answer. refl) node now sent p.last
talked_none node now _ _ _ (TalkUntil.in_replies sent heard asked replied p q) =
    before_nothing closing asked replied [] (asked_none node now sent asked p) (heard_none now heard replied q.made)

-- behind what closes nothing more does
behind : (items tick talk : List Call) (closes : Bool) → flat_map closing items ≡ if_so closes Close → flat_map closing tick ≡ [] → flat_map closing talk ≡ []
    → flat_map closing (items ++ tick ++ talk) ≡ if_so closes Close
behind items tick talk closes p q r = before_nothing closing (items ++ tick) talk (if_so closes Close) (before_nothing closing items tick (if_so closes Close) p q) r

-- These calls close so.
record Closes (x : Exchange) (calls : List Call) (y : Exchange) : Type 0 where
  closes : Bool
  stands : flat_map closing calls ≡ if_so closes Close
  closed : Closed x closes y

turn_closes : (node now : ℕ) (x y : Exchange) (sent : List Outgoing) (heard : List Heard) (refused : Option (List ℕ × FrameFault)) (cut : Option Cause) (calls : List Call)
    → Turn node now x sent heard refused cut calls y → Closes x calls y
turn_closes node now x y sent heard refused cut calls t = record {
  closes = t.closes;
  stands =
      ap (flat_map closing) t.made
      ∙ before_nothing closing (t.items ++ t.tick ++ (t.asked ++ t.replied)) t.reports (if_so t.closes Close)
      (behind t.items t.tick (t.asked ++ t.replied) t.closes (items_close x y t.closes t.items t.of_items) (ticked_none node now t.ticked t.tick t.of_tick)
      (before_nothing closing t.asked t.replied [] (asked_none node now sent t.asked t.of_requests) (heard_none now heard t.replied t.of_replies.made)))
      (reports_none closing (λ i answer. refl) (senders_of x) node now (is_cut cut) (mail_of x) (mail_of y) t.reports refl t.of_reports);
  closed = record { closed = t.closed; only = t.only };
}

still_open : (b : Bool) → b ≡ (b || false)
still_open true = refl
still_open false = refl

never : IsTrue false → ⊥
never so = cc

until_closes : (node now : ℕ) (x y : Exchange) (sent : List Outgoing) (heard : List Heard) (calls : List Call) → TurnUntil node now x y sent heard calls → Closes x calls y
until_closes node now x y _ _ _ (TurnUntil.in_items calls p same mail) = record {
  closes = false;
  stands = items_until_none closing (λ i answer. refl) refl (side_of x) (side_of y) calls p;
  closed = record { closed = same ∙ still_open x.closed; only = λ so. absurd (never so) };
}
until_closes node now x y _ _ _ (TurnUntil.before_the_tick closes items p closed same) = record { closes = closes; stands = items_close x y closes items p; closed = closed }
until_closes node now x y _ _ _ (TurnUntil.in_talk closes ticked items tick talked sent heard p closed t q same) = record {
  closes = closes;
  stands = behind items tick talked closes (items_close x y closes items p) (ticked_none node now ticked tick t) (talked_none node now sent heard talked q);
  closed = closed;
}
until_closes node now x y _ _ _ (TurnUntil.in_reports closes ticked items tick asked replied reports sent heard refused cut p closed t q r s) = record {
  closes = closes;
  stands =
      before_nothing closing (items ++ tick ++ (asked ++ replied)) reports (if_so closes Close)
      (behind items tick (asked ++ replied) closes (items_close x y closes items p) (ticked_none node now ticked tick t)
      (before_nothing closing asked replied [] (asked_none node now sent asked q) (heard_none now heard replied r.made)))
      (reports_until_none closing (λ i answer. refl) node now cut (mail_of x) (mail_of y) reports refl s);
  closed = closed;
}

turns_close : {S : Type 0} (answers : Told S) (node now : ℕ) (x : Exchange) (w : Wired S) (result : Poll Stop) (y : Exchange) (v : Wired S)
    → (turns : Turns answers node now x w result y v) → Closes x (calls_of_turn answers node now x w result y v turns) y
turns_close answers node now x w Pending y v t = turn_closes node now x y t.sent t.heard None None t.calls t.turn
turns_close answers node now x w (Ready Done) y v (done, inl t) = turn_closes node now x y t.sent t.heard None None t.calls t.turn
turns_close answers node now x w (Ready Done) y v (done, inr (cause, t)) = turn_closes node now x y t.sent t.heard t.refused (Some cause) t.calls t.turn
turns_close answers node now x w (Ready (NeedStream cause)) y v t = turn_closes node now x y t.sent t.heard t.refused (Some cause) t.calls t.turn
turns_close answers node now x w (Ready OutOfMemory) y v t = until_closes node now x y t.sent t.heard t.calls t.turn

away_closes : (node now : ℕ) (cause : Cause) (x : Exchange) (calls : List Call) (stop : Stop) (y : Exchange) → EndsAway node now cause x calls stop y → Closes x calls y
away_closes node now cause x calls Done y (done, t) = turn_closes node now x y [] [] None (cut_if_late t.late) calls t.turn
away_closes node now cause x calls (NeedStream still) y (same, t) = turn_closes node now x y [] [] None (cut_if_late t.late) calls t.turn
away_closes node now cause x calls OutOfMemory y t = until_closes node now x y [] [] calls t.turn

-- ---- polls, one after the other

stays : (x : Exchange) → HasPlaces x → Served x [] x
stays x places = only_core_serves x x [] _ (nothing_lived x.core x.core refl) tt places (only_same x) (record { appends = refl; fetches = λ i. refl })

one_close : (b : Bool) → IsTrue b → if_so b Close ≡ Close ∷ []
one_close true so = refl
one_close false so = absurd (never so)

closes_here : (x y : Exchange) (calls : List Call) → Served x calls y → Closes x calls y → ClosesOnce x calls y
closes_here x y calls served c = record {
  closes = c.closes;
  stands = c.stands;
  closed = c.closed.closed;
  only = λ so.
      let p = c.closed.only so in (
        p.0,
        record {
          before = calls;
          at = y;
          after = [];
          made = sym (append-nil calls);
          closes = c.stands ∙ one_close c.closes so;
          served = served;
          quiet = p.1;
          idle = p.2;
          goes_on = stays y served.places;
        },
      );
}

-- the calls of an earlier turn were forgotten before
closes_then_here : (x b y : Exchange) (calls : List Call) → Cleared x b → Served x calls y → Closes b calls y → ClosesOnce x calls y
closes_then_here x b y calls cleared served c = closes_here x y calls served (record {
  closes = c.closes;
  stands = c.stands;
  closed = record {
    closed = c.closed.closed ∙ ap (λ (was : Bool). was || c.closes) cleared.closed;
    only = λ so. let o = c.closed.only so in (sym cleared.closed ∙ o.0, o.1, o.2);
  };
})

closes_never : (x y : Exchange) (calls : List Call) → Served x calls y → flat_map closing calls ≡ [] → y.closed ≡ x.closed → ClosesOnce x calls y
closes_never x y calls served none same =
    closes_here x y calls served (record { closes = false; stands = none; closed = record { closed = same ∙ still_open x.closed; only = λ so. absurd (never so) } })

at_most_one : (p q : Bool) → (IsTrue p → IsTrue q → ⊥) → if_so p Close ++ if_so q Close ≡ if_so (p || q) Close
at_most_one true true alone = absurd (alone refl refl)
at_most_one true false alone = refl
at_most_one false q alone = refl

or_then : (a b p q : Bool) → b ≡ (a || p) → (b || q) ≡ (a || (p || q))
or_then true b p q is = ap (λ (c : Bool). c || q) is
or_then false b p q is = ap (λ (c : Bool). c || q) is

was_open : (b : Bool) → (b || false) ≡ false → b ≡ false
was_open true is = is
was_open false is = is

closed_by : (b : Bool) → (b || true) ≡ true
closed_by true = refl
closed_by false = refl

module _ (x y z : Exchange) (a b : List Call) (s : Served x a y) (t : Served y b z) where
  from_first : ClosedBetween x a y → ClosedBetween x (a ++ b) z
  from_first m = record {
    before = m.before;
    at = m.at;
    after = m.after ++ b;
    made = ap (λ (cs : List Call). cs ++ b) m.made ∙ append_assoc m.before m.after b;
    closes = m.closes;
    served = m.served;
    quiet = m.quiet;
    idle = m.idle;
    goes_on = joined m.at y z m.after b m.goes_on t;
  }

  from_second : flat_map closing a ≡ [] → ClosedBetween y b z → ClosedBetween x (a ++ b) z
  from_second none m = record {
    before = a ++ m.before;
    at = m.at;
    after = m.after;
    made = ap (λ (cs : List Call). a ++ cs) m.made ∙ sym (append_assoc a m.before m.after);
    closes = flat_map-append closing a m.before ∙ ap (λ (cs : List Call). cs ++ flat_map closing m.before) none ∙ m.closes;
    served = joined x y m.at a m.before s m.served;
    quiet = m.quiet;
    idle = m.idle;
    goes_on = m.goes_on;
  }

  not_both : (p q : Bool) → y.closed ≡ (x.closed || p) → (IsTrue q → y.closed ≡ false) → IsTrue p → IsTrue q → ⊥
  not_both true q closed unclosed first second = clash (sym (unclosed second) ∙ closed ∙ closed_by x.closed)
    where
      clash : false ≡ true → ⊥
      clash is = cc
  not_both false q closed unclosed first second = never first

  either : (p q : Bool) → flat_map closing a ≡ if_so p Close → y.closed ≡ (x.closed || p) → (IsTrue p → (x.closed ≡ false) × ClosedBetween x a y)
      → (IsTrue q → (y.closed ≡ false) × ClosedBetween y b z) → IsTrue (p || q) → (x.closed ≡ false) × ClosedBetween x (a ++ b) z
  either true q stands closed first second so = let f = first refl in (f.0, from_first f.1)
  either false q stands closed first second so = let f = second so in (was_open x.closed (sym closed ∙ f.0), from_second stands f.1)

  closes_then : ClosesOnce x a y → ClosesOnce y b z → ClosesOnce x (a ++ b) z
  closes_then c d = record {
    closes = c.closes || d.closes;
    stands =
        flat_map-append closing a b
        ∙ ap (λ (cs : List Call). cs ++ flat_map closing b) c.stands
        ∙ ap (λ (cs : List Call). if_so c.closes Close ++ cs) d.stands
        ∙ at_most_one c.closes d.closes (not_both c.closes d.closes c.closed (λ so. (d.only so).0));
    closed = d.closed ∙ or_then x.closed y.closed c.closes d.closes c.closed;
    only = either c.closes d.closes c.stands c.closed c.only d.only;
  }

module _ {S : Type 0} (answers : Told S) where
  poll_closes : (line : Line S) (x : Exchange) (result : Poll Stop) (y : Exchange) (left : Line S) → HasPlaces x → (poll : Polls answers line x result y left)
      → ClosesOnce x (calls_of_poll answers line x result y left poll) y
  poll_closes (Open wire) x result y left places p =
      closes_then_here x p.begun y (calls_of_turn answers p.node p.now p.begun wire result y p.after p.turns) p.cleared (poll_serves_its answers (Open wire) x result y left places p)
      (turns_close answers p.node p.now p.begun wire result y p.after p.turns)
  poll_closes (Stopped stop) x result y left places p = closes_never x y [] (poll_serves_its answers (Stopped stop) x result y left places p) refl p.0.closed

  both : (x y : Exchange) (calls : List Call) → HasPlaces x → Polled answers x calls y → Served x calls y × ClosesOnce x calls y
  both x _ _ places Polled.not_yet = (stays x places, closes_never x x [] (stays x places) refl refl)
  both x _ _ places (Polled.once_more y z calls line left result before poll) =
      let first = both x y calls places before in
      let serves = poll_serves_its answers line y result z left first.0.places poll in
      let its = calls_of_poll answers line y result z left poll in
      (joined x y z calls its first.0 serves, closes_then x y z calls its first.0 serves first.1 (poll_closes line y result z left first.0.places poll))
  both x _ _ places (Polled.away y z calls cause stop before turn) =
      let first = both x y calls places before in
      let serves = away_serves cause y stop z first.0.places turn in (
        joined x y z calls turn.calls first.0 serves,
        closes_then x y z calls turn.calls first.0 serves first.1 (closes_then_here y turn.begun z turn.calls turn.cleared serves (away_closes turn.node turn.now cause turn.begun turn.calls stop z turn.turns)),
      )
  both x _ _ places (Polled.talked y z calls its life before talk lives held only) =
      let first = both x y calls places before in
      let serves = talk_serves y z its life first.0.places talk lives held only in
      (joined x y z calls its first.0 serves, closes_then x y z calls its first.0 serves first.1 (closes_never y z its serves (talk_closes_none its talk) only.closed))
  both x _ _ places (Polled.ended y z calls told before step only) =
      let first = both x y calls places before in
      let serves = end_serves y z told first.0.places step only in (
        joined x y z calls (End told ∷ []) first.0 serves,
        closes_then x y z calls (End told ∷ []) first.0 serves first.1 (closes_never y z (End told ∷ []) serves refl only.closed),
      )
  both x _ _ places (Polled.led y z calls partition leader now before step only) =
      let first = both x y calls places before in
      let its = Lead partition leader now ∷ [] in
      let serves = lead_serves y z partition leader now first.0.places step only in
      (joined x y z calls its first.0 serves, closes_then x y z calls its first.0 serves first.1 (closes_never y z its serves refl only.closed))

  pub polls_serve : (x y : Exchange) (calls : List Call) → HasPlaces x → Polled answers x calls y → Served x calls y
  polls_serve x y calls places polled = (both x y calls places polled).0

  pub polls_close : (x y : Exchange) (calls : List Call) → HasPlaces x → Polled answers x calls y → ClosesOnce x calls y
  polls_close x y calls places polled = (both x y calls places polled).1

-- ---- polls behind polls

pub polls_then : {S : Type 0} (answers : Told S) (x y z : Exchange) (a b : List Call) → Polled answers x a y → Polled answers y b z → Polled answers x (a ++ b) z
polls_then answers x y _ a _ first Polled.not_yet = subst (λ (calls : List Call). Polled answers x calls y) (sym (append-nil a)) first
polls_then answers x y _ a _ first (Polled.once_more u z b line left result before poll) =
    let its = calls_of_poll answers line u result z left poll in
    subst (λ (calls : List Call). Polled answers x calls z) (append_assoc a b its) (Polled.once_more u z (a ++ b) line left result (polls_then answers x y u a b first before) poll)
polls_then answers x y _ a _ first (Polled.away u z b cause stop before turn) =
    subst (λ (calls : List Call). Polled answers x calls z) (append_assoc a b turn.calls) (Polled.away u z (a ++ b) cause stop (polls_then answers x y u a b first before) turn)
polls_then answers x y _ a _ first (Polled.talked u z b its life before talk lives held only) =
    subst (λ (calls : List Call). Polled answers x calls z) (append_assoc a b its) (Polled.talked u z (a ++ b) its life (polls_then answers x y u a b first before) talk lives held only)
polls_then answers x y _ a _ first (Polled.ended u z b told before step only) =
    subst (λ (calls : List Call). Polled answers x calls z) (append_assoc a b (End told ∷ [])) (Polled.ended u z (a ++ b) told (polls_then answers x y u a b first before) step only)
polls_then answers x y _ a _ first (Polled.led u z b partition leader now before step only) =
    subst (λ (calls : List Call). Polled answers x calls z) (append_assoc a b (Lead partition leader now ∷ []))
    (Polled.led u z (a ++ b) partition leader now (polls_then answers x y u a b first before) step only)
