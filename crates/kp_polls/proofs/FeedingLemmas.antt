-- By its polls an engine feeds the core with each sender's items in turn: those that were taken of its lane, in order,
-- and one that is refused again before any other.
use Rattle.std.proofs.Common.{◌≡◌, ◌≢◌, ℕ, zero, suc, ◌<◌, ◌≤◌, Bool, true, false, List, [], ◌∷◌, ◌++◌, length, map, refl, sym, ap, ◌∙◌, subst, ⊎_elim, inl, inr, append-nil, append_assoc, arith}
use Rattle.std.specs.Prelude.{Option, Some, None, drop, option_to_list}
use Rattle.std.proofs.lemmas.Bool.{cases_lt}
use Rattle.std.proofs.lemmas.Grind.{flat_map-append}
use Rattle.std.proofs.lemmas.List.{get_or_past, length-map}
use Rattle.futures.specs.declared.task.Poll.{Poll}
use Rattle.futures.specs.declared.task.Poll.TheVariants.{Ready, Pending}
use Rattle.kp_accum.specs.declared.item.Item.{Item}
use Rattle.kp_connection.specs.Wire.{Told, Wired}
use Rattle.kp_engine.specs.Away.{EndsAway, MakesTurnAway, cut_if_late}
use Rattle.kp_engine.specs.Closing.{IsTalk, Polled, calls_of_poll, calls_of_turn}
use Rattle.kp_engine.specs.Agreement.{held_at}
use Rattle.kp_engine.specs.Engine.{Cleared, Polls}
use Rattle.kp_engine.specs.Exchange.{mail_of, senders_of, side_of}
use Rattle.kp_engine.specs.Polls.{TalkUntil, Turn, TurnUntil, Turns, is_cut}
use Rattle.kp_engine.specs.Serving.{HasPlaces, Served}
use Rattle.kp_engine.specs.Turn.{Heard, ItemsPart, ItemsPartUntil, RequestsPart, SenderPart, SenderParts, SenderPartUntil, Side, Takes, TickPart, appends, fails, hears, if_so, refuses}
use Rattle.kp_engine.specs.declared.engine.Line.{Line}
use Rattle.kp_engine.specs.declared.engine.Line.TheVariants.{Open, Stopped}
use Rattle.kp_engine.specs.declared.exchange.Exchange.{Exchange}
use Rattle.kp_engine.specs.declared.stop.Cause.{Cause}
use Rattle.kp_engine.specs.declared.stop.Stop.{Stop}
use Rattle.kp_engine.specs.declared.stop.Stop.TheVariants.{Done, NeedStream, OutOfMemory}
use Rattle.kp_engine.proofs.ClosingLemmas.{polls_serve}
use Rattle.kp_engine.proofs.RoundLemmas.{talk_none}
use Rattle.kp_engine.proofs.ServedLemmas.{away_serves, poll_serves_its}
use Rattle.kp_engine.proofs.ServingLemmas.{before_nothing, none_asked, none_of, reports_none, reports_until_none}
use Rattle.kp_frames.specs.declared.fault.FrameFault.{FrameFault}
use Rattle.kp_lanes.specs.Entries.{has_mark, items_of}
use Rattle.kp_lanes.specs.Intake.{asked_at_of, lanes_of, passed_lists, passed_of}
use Rattle.kp_lanes.specs.declared.intake.Intake.{Intake}
use Rattle.kp_rules.specs.Calls.{Call, Close, End, Flush, Lead}
use Rattle.kp_rules.specs.Calls as call
use Rattle.kp_rules.specs.declared.outgoing.Outgoing.{Outgoing}
use Rattle.kp_rules.proofs.ListLemmas.{all_back, all_front}
use Rattle.kp_headline.proofs.FeedLemmas.{Feeds, Offer, Theirs, all_appended, all_feed, feeds_then, offered_by, offers, wait_last}
use Rattle.kp_polls.proofs.OfferLemmas.{appends_elsewhere, appends_here, fails_elsewhere, fails_feeds, refused, refused_feeds, refuses_elsewhere, refuses_here}

-- a call that talks offers nothing
no_offer : (i : ℕ) (c : Call) → IsTalk c → offered_by i c ≡ []
no_offer i (call.Append x answer) t = absurd t
no_offer i (call.Request node now answer) t = refl
no_offer i (call.Reply now content answer) t = refl
no_offer i (call.Tick node now answer) t = refl
no_offer i (call.Disconnect node now) t = refl
no_offer i (call.Lead partition leader now) t = absurd t
no_offer i call.Close t = absurd t
no_offer i call.Flush t = absurd t
no_offer i (call.End reports) t = absurd t
no_offer i (call.Fetch sender answer) t = absurd t

-- ---- one sender's side

-- More was taken of the lane, and what was held, and this behind it, was offered in turn up to what is held now.
pub record FeedsSide (old : Side) (os : List Offer) (new : Side) : Type 0 where
  pub more : List Item
  pub taken : items_of new.passed ≡ items_of old.passed ++ more
  pub feeds : (later : List Item) → Feeds (option_to_list old.held ++ (more ++ later)) os (option_to_list new.held ++ later)

pub side_stays : (s t : Side) → items_of t.passed ≡ items_of s.passed → t.held ≡ s.held → FeedsSide s [] t
side_stays s t taken held = record {
  more = [];
  taken = taken ∙ sym (append-nil (items_of s.passed));
  feeds = λ later. ap (λ (o : Option Item). option_to_list o ++ later) held;
}

pub sides_then : (a b c : Side) (os ps : List Offer) → FeedsSide a os b → FeedsSide b ps c → FeedsSide a (os ++ ps) c
sides_then a b c os ps f g = record {
  more = f.more ++ g.more;
  taken = g.taken ∙ ap (λ (xs : List Item). xs ++ g.more) f.taken ∙ append_assoc (items_of a.passed) f.more g.more;
  feeds = λ later.
      feeds_then (option_to_list a.held ++ ((f.more ++ g.more) ++ later)) (option_to_list b.held ++ (g.more ++ later)) (option_to_list c.held ++ later) os ps
      (subst (λ (xs : List Item). Feeds (option_to_list a.held ++ xs) os (option_to_list b.held ++ (g.more ++ later))) (sym (append_assoc f.more g.more later)) (f.feeds (g.more ++ later)))
      (g.feeds later);
}

all_join : (i : ℕ) (xs ys : List Item) → Theirs i xs → Theirs i ys → Theirs i (xs ++ ys)
all_join i [] ys h k = k
all_join i (x ∷ xs) ys h k = (h.0, all_join i xs ys h.1 k)

if_none : (i : ℕ) (b : Bool) (x : Call) → offered_by i x ≡ [] → offers i (if_so b x) ≡ []
if_none i true x none = ap (λ (os : List Offer). os ++ []) none
if_none i false x none = refl

-- ---- one sender's part

module _ (i : ℕ) (old new : Side) (appended : List Item) (t : Takes i old appended new) (own : Theirs i (items_of new.passed)) (had : Theirs i (option_to_list old.held)) where
  all_theirs : Theirs i (appended ++ option_to_list new.held)
  all_theirs = subst (Theirs i) t.in_order
      (all_join i (option_to_list old.held) t.taken had
      (all_back (λ x. x.sender ≡ i) (items_of old.passed) t.taken (subst (Theirs i) t.were_taken own)))

  held_theirs : Theirs i (option_to_list new.held)
  held_theirs = all_back (λ x. x.sender ≡ i) appended (option_to_list new.held) all_theirs

  side_feeds : (last : List Offer) → ((later : List Item) → Feeds (option_to_list new.held ++ later) last (option_to_list new.held ++ later))
      → FeedsSide old (all_appended appended ++ last) new
  side_feeds last h = record {
    more = t.taken;
    taken = t.were_taken;
    feeds = λ later.
        let rest : List Item = option_to_list new.held ++ later in
        let same : option_to_list old.held ++ (t.taken ++ later) ≡ appended ++ rest =
        sym (append_assoc (option_to_list old.held) t.taken later)
        ∙ ap (λ (xs : List Item). xs ++ later) t.in_order
        ∙ append_assoc appended (option_to_list new.held) later in
        feeds_then (option_to_list old.held ++ (t.taken ++ later)) rest rest (all_appended appended) last
        (subst (λ (xs : List Item). Feeds xs (all_appended appended) rest) (sym same) (all_feed appended rest))
        (h later);
  }

module _ (i : ℕ) (old new : Side) (calls : List Call) (p : SenderPart i old calls new) (own : Theirs i (items_of new.passed)) (had : Theirs i (option_to_list old.held)) where
  items_only : (k : ℕ) → offers k calls ≡ offers k (appends p.appended) ++ offers k (refuses new.held)
  items_only k =
      ap (offers k) p.made
      ∙ before_nothing (offered_by k) (appends p.appended ++ refuses new.held) (if_so (has_mark (drop old.asked_at new.passed)) Flush) (offers k (appends p.appended ++ refuses new.held)) refl
      (if_none k (has_mark (drop old.asked_at new.passed)) Flush refl)
      ∙ flat_map-append (offered_by k) (appends p.appended) (refuses new.held)

  part_feeds : FeedsSide old (offers i calls) new
  part_feeds = subst (λ (os : List Offer). FeedsSide old os new)
      (sym (items_only i
      ∙ ap (λ (os : List Offer). os ++ offers i (refuses new.held)) (appends_here i p.appended p.takes.theirs)
      ∙ ap (λ (os : List Offer). all_appended p.appended ++ os) (refuses_here i new.held (held_theirs i old new p.appended p.takes own had))))
      (side_feeds i old new p.appended p.takes own had (refused new.held) (refused_feeds new.held))

  part_elsewhere : (k : ℕ) → i ≢ k → offers k calls ≡ []
  part_elsewhere k other =
      items_only k
      ∙ ap (λ (os : List Offer). os ++ offers k (refuses new.held)) (appends_elsewhere k i p.appended other p.takes.theirs)
      ∙ refuses_elsewhere k i new.held other (held_theirs i old new p.appended p.takes own had)

module _ (i : ℕ) (old new : Side) (calls : List Call) (p : SenderPartUntil i old calls new) (own : Theirs i (items_of new.passed)) (had : Theirs i (option_to_list old.held)) where
  until_only : (k : ℕ) → offers k calls ≡ offers k (appends p.appended) ++ offers k (fails p.last)
  until_only k = ap (offers k) p.made ∙ flat_map-append (offered_by k) (appends p.appended) (fails p.last)

  until_feeds : FeedsSide old (offers i calls) new
  until_feeds = subst (λ (os : List Offer). FeedsSide old os new)
      (sym (until_only i ∙ ap (λ (os : List Offer). os ++ offers i (fails p.last)) (appends_here i p.appended p.takes.theirs)))
      (side_feeds i old new p.appended p.takes own had (offers i (fails p.last))
      (fails_feeds i p.last new.held p.last_held (held_theirs i old new p.appended p.takes own had)))

  until_elsewhere : (k : ℕ) → i ≢ k → offers k calls ≡ []
  until_elsewhere k other =
      until_only k
      ∙ ap (λ (os : List Offer). os ++ offers k (fails p.last)) (appends_elsewhere k i p.appended other p.takes.theirs)
      ∙ fails_elsewhere k i p.last new.held p.last_held other (held_theirs i old new p.appended p.takes own had)

-- ---- all senders' parts

-- every sender's side, by the calls that offer its items
abbrev pub Feeding : (ℕ → Side) → List Call → (ℕ → Side) → Type 0
Feeding old calls new = (i : ℕ) → FeedsSide (old i) (offers i calls) (new i)

module _ (old new : ℕ → Side) (own : (k : ℕ) → Theirs k (items_of (new k).passed)) (had : (k : ℕ) → Theirs k (option_to_list (old k).held)) where
  beyond : (n : ℕ) (calls : List Call) → SenderParts n old calls new → (i : ℕ) → n ≤ i → offers i calls ≡ []
  beyond zero calls parts i far = ap (offers i) parts
  beyond (suc n) calls parts i far =
      ap (offers i) parts.2
      ∙ flat_map-append (offered_by i) parts.0 parts.1
      ∙ ap (λ (os : List Offer). os ++ offers i parts.1) (beyond n parts.0 parts.3 i (omega (arith, far)))
      ∙ part_elsewhere n (old n) (new n) parts.1 parts.4 (own n) (had n) i (λ same. omega (arith, same, far))

  -- the parts of the first so many, and behind them one more
  one_more : (n : ℕ) (before mine : List Call) → ((i : ℕ) → i < n → FeedsSide (old i) (offers i before) (new i)) → ((i : ℕ) → n ≤ i → offers i before ≡ [])
      → FeedsSide (old n) (offers n mine) (new n) → ((k : ℕ) → n ≢ k → offers k mine ≡ []) → (i : ℕ) → i < suc n → FeedsSide (old i) (offers i (before ++ mine)) (new i)
  one_more n before mine first none last other i near = subst (λ (os : List Offer). FeedsSide (old i) os (new i)) (sym (flat_map-append (offered_by i) before mine))
      (⊎_elim
      (λ (below : i < n).
      subst (λ (os : List Offer). FeedsSide (old i) os (new i))
      (sym (ap (λ (os : List Offer). offers i before ++ os) (other i (λ same. omega (arith, same, below))) ∙ append-nil (offers i before)))
      (first i below))
      (λ (here : n ≤ i).
      let same : n ≡ i = omega (arith, here, near) in
      subst (λ (os : List Offer). FeedsSide (old i) (os ++ offers i mine) (new i)) (sym (none i here))
      (subst (λ (k : ℕ). FeedsSide (old k) (offers k mine) (new k)) same last))
      (cases_lt i n))

  within : (n : ℕ) (calls : List Call) → SenderParts n old calls new → (i : ℕ) → i < n → FeedsSide (old i) (offers i calls) (new i)
  within zero calls parts i near = absurd (omega (arith, near))
  within (suc n) calls parts i near = subst (λ (cs : List Call). FeedsSide (old i) (offers i cs) (new i)) (sym parts.2)
      (one_more n parts.0 parts.1 (within n parts.0 parts.3) (beyond n parts.0 parts.3)
      (part_feeds n (old n) (new n) parts.1 parts.4 (own n) (had n))
      (part_elsewhere n (old n) (new n) parts.1 parts.4 (own n) (had n)) i near)

  items_feed : (n : ℕ) (closes : Bool) (calls : List Call) → ((k : ℕ) → n ≤ k → (items_of (new k).passed ≡ items_of (old k).passed) × ((new k).held ≡ (old k).held))
      → ItemsPart n old closes calls new → Feeding old calls new
  items_feed n closes calls same p i = subst (λ (os : List Offer). FeedsSide (old i) os (new i))
      (sym (ap (offers i) p.made ∙ before_nothing (offered_by i) p.of_senders (if_so closes Close) (offers i p.of_senders) refl (if_none i closes Close refl)))
      (⊎_elim
      (λ (near : i < n). within n p.of_senders p.parts i near)
      (λ (far : n ≤ i). subst (λ (os : List Offer). FeedsSide (old i) os (new i)) (sym (beyond n p.of_senders p.parts i far)) (side_stays (old i) (new i) (same i far).0 (same i far).1))
      (cases_lt i n))

  items_feed_until : (calls : List Call) → ItemsPartUntil old calls new → Feeding old calls new
  items_feed_until calls p i = subst (λ (cs : List Call). FeedsSide (old i) (offers i cs) (new i)) (sym p.made)
      (⊎_elim
      (λ (near : i < suc m).
      one_more m p.before p.mine (within m p.before p.parts) (beyond m p.before p.parts)
      (until_feeds m (old m) (new m) p.mine p.part (own m) (had m))
      (until_elsewhere m (old m) (new m) p.mine p.part (own m) (had m)) i near)
      (λ (far : suc m ≤ i).
      subst (λ (os : List Offer). FeedsSide (old i) os (new i))
      (sym (flat_map-append (offered_by i) p.before p.mine
      ∙ ap (λ (os : List Offer). os ++ offers i p.mine) (beyond m p.before p.parts i (omega (arith, far)))
      ∙ until_elsewhere m (old m) (new m) p.mine p.part (own m) (had m) i (λ same. omega (arith, same, far))))
      (side_stays (old i) (new i) (ap (λ (s : Side). items_of s.passed) (p.later i (omega (arith, far)))) (ap (λ (s : Side). s.held) (p.later i (omega (arith, far))))))
      (cases_lt i (suc m)))
    where
      m : ℕ
      m = p.senders

-- ---- a turn

asked_none : (i node now : ℕ) (sent : List Outgoing) (asked : List Call) → RequestsPart node now sent asked → offers i asked ≡ []
asked_none i node now sent asked p = ap (offers i) p.made ∙ none_asked (offered_by i) (λ node n answer. refl) node now sent p.last

heard_none : (i now : ℕ) (heard : List Heard) (replied : List Call) → replied ≡ map (hears now) heard → offers i replied ≡ []
heard_none i now heard replied is = ap (offers i) is ∙ none_of (offered_by i) (hears now) (λ reply. refl) heard

ticked_none : (i node now : ℕ) (ticked : _) (tick : List Call) → TickPart node now ticked tick → offers i tick ≡ []
ticked_none i node now ticked tick is = ap (offers i) is

talked_none : (i node now : ℕ) (sent : List Outgoing) (heard : List Heard) (calls : List Call) → TalkUntil node now sent heard calls → offers i calls ≡ []
talked_none i node now _ _ _ (TalkUntil.in_requests sent asked p) = ap (offers i) p.made ∙ none_asked (offered_by i) (λ node n answer. refl) node now sent p.last
talked_none i node now _ _ _ (TalkUntil.in_replies sent heard asked replied p q) =
    before_nothing (offered_by i) asked replied [] (asked_none i node now sent asked p) (heard_none i now heard replied q.made)

behind : (i : ℕ) (items tick talk : List Call) → offers i tick ≡ [] → offers i talk ≡ [] → offers i (items ++ tick ++ talk) ≡ offers i items
behind i items tick talk q r = before_nothing (offered_by i) (items ++ tick) talk (offers i items) (before_nothing (offered_by i) items tick (offers i items) refl q) r

-- what is said of a turn's first part holds of all of it
more_calls : (old new : ℕ → Side) (items calls : List Call) → ((i : ℕ) → offers i calls ≡ offers i items) → Feeding old items new → Feeding old calls new
more_calls old new items calls same f i = subst (λ (os : List Offer). FeedsSide (old i) os (new i)) (sym (same i)) (f i)

module _ (x y : Exchange) (own : (k : ℕ) → Theirs k (items_of (side_of y k).passed)) (had : (k : ℕ) → Theirs k (option_to_list (side_of x k).held))
    (same : (k : ℕ) → senders_of x ≤ k → (items_of (side_of y k).passed ≡ items_of (side_of x k).passed) × ((side_of y k).held ≡ (side_of x k).held)) where
  turn_feeds : (node now : ℕ) (sent : List Outgoing) (heard : List Heard) (refused : Option (List ℕ × FrameFault)) (cut : Option Cause) (calls : List Call)
      → Turn node now x sent heard refused cut calls y → Feeding (side_of x) calls (side_of y)
  turn_feeds node now sent heard refused cut calls t = more_calls (side_of x) (side_of y) t.items calls
      (λ i.
      ap (offers i) t.made
      ∙ before_nothing (offered_by i) (t.items ++ t.tick ++ (t.asked ++ t.replied)) t.reports (offers i t.items)
      (behind i t.items t.tick (t.asked ++ t.replied) (ticked_none i node now t.ticked t.tick t.of_tick)
      (before_nothing (offered_by i) t.asked t.replied [] (asked_none i node now sent t.asked t.of_requests) (heard_none i now heard t.replied t.of_replies.made)))
      (reports_none (offered_by i) (λ k answer. refl) (senders_of x) node now (is_cut cut) (mail_of x) (mail_of y) t.reports refl t.of_reports))
      (items_feed (side_of x) (side_of y) own had (senders_of x) t.closes t.items same t.of_items)

  until_turn_feeds : (node now : ℕ) (sent : List Outgoing) (heard : List Heard) (calls : List Call) → TurnUntil node now x y sent heard calls → Feeding (side_of x) calls (side_of y)
  until_turn_feeds node now _ _ _ (TurnUntil.in_items calls p closed mail) = items_feed_until (side_of x) (side_of y) own had calls p
  until_turn_feeds node now _ _ _ (TurnUntil.before_the_tick closes items p closed mail) = items_feed (side_of x) (side_of y) own had (senders_of x) closes items same p
  until_turn_feeds node now _ _ _ (TurnUntil.in_talk closes ticked items tick talked sent heard p closed t q mail) = more_calls (side_of x) (side_of y) items (items ++ tick ++ talked)
      (λ i. behind i items tick talked (ticked_none i node now ticked tick t) (talked_none i node now sent heard talked q))
      (items_feed (side_of x) (side_of y) own had (senders_of x) closes items same p)
  until_turn_feeds node now _ _ _ (TurnUntil.in_reports closes ticked items tick asked replied reports sent heard refused cut p closed t q r s) =
      more_calls (side_of x) (side_of y) items (items ++ tick ++ (asked ++ replied) ++ reports)
      (λ i.
      before_nothing (offered_by i) (items ++ tick ++ (asked ++ replied)) reports (offers i items)
      (behind i items tick (asked ++ replied) (ticked_none i node now ticked tick t)
      (before_nothing (offered_by i) asked replied [] (asked_none i node now sent asked q) (heard_none i now heard replied r.made)))
      (reports_until_none (offered_by i) (λ k answer. refl) node now cut (mail_of x) (mail_of y) reports refl s))
      (items_feed (side_of x) (side_of y) own had (senders_of x) closes items same p)

  turns_feed : {S : Type 0} (answers : Told S) (node now : ℕ) (w : Wired S) (result : Poll Stop) (v : Wired S)
      → (turns : Turns answers node now x w result y v) → Feeding (side_of x) (calls_of_turn answers node now x w result y v turns) (side_of y)
  turns_feed answers node now w Pending v t = turn_feeds node now t.sent t.heard None None t.calls t.turn
  turns_feed answers node now w (Ready Done) v (done, inl t) = turn_feeds node now t.sent t.heard None None t.calls t.turn
  turns_feed answers node now w (Ready Done) v (done, inr (cause, t)) = turn_feeds node now t.sent t.heard t.refused (Some cause) t.calls t.turn
  turns_feed answers node now w (Ready (NeedStream cause)) v t = turn_feeds node now t.sent t.heard t.refused (Some cause) t.calls t.turn
  turns_feed answers node now w (Ready OutOfMemory) v t = until_turn_feeds node now t.sent t.heard t.calls t.turn

  away_feeds : (node now : ℕ) (cause : Cause) (calls : List Call) (stop : Stop) → EndsAway node now cause x calls stop y → Feeding (side_of x) calls (side_of y)
  away_feeds node now cause calls Done (done, t) = turn_feeds node now [] [] None (cut_if_late t.late) calls t.turn
  away_feeds node now cause calls (NeedStream still) (same, t) = turn_feeds node now [] [] None (cut_if_late t.late) calls t.turn
  away_feeds node now cause calls OutOfMemory t = until_turn_feeds node now [] [] calls t.turn

-- ---- places that no sender has

abbrev pub IsSized : Exchange → Type 0
IsSized x = length (lanes_of x.intake) ≡ senders_of x

module _ (x : Exchange) (sized : IsSized x) (k : ℕ) (far : senders_of x ≤ k) where
  pub none_passed : passed_of x.intake k ≡ []
  none_passed =
      let wide : length (passed_lists x.intake) ≡ length x.intake.ports.items = length-map x.intake.ports.items _ in
      let lanes : length (lanes_of x.intake) ≡ length x.intake.ports.items = length-map x.intake.ports.items _ in
      get_or_past (passed_lists x.intake) k [] (omega (arith, wide, lanes, sized, far))

  none_held : held_at x.items.items k ≡ None
  none_held = get_or_past x.items.items k None far

same_beyond : (x y : Exchange) → IsSized x → IsSized y → senders_of y ≡ senders_of x → (k : ℕ) → senders_of x ≤ k
    → (items_of (side_of y k).passed ≡ items_of (side_of x k).passed) × ((side_of y k).held ≡ (side_of x k).held)
same_beyond x y sized sized' same k far =
    let far' : senders_of y ≤ k = subst (λ (n : ℕ). n ≤ k) (sym same) far in
    (ap items_of (none_passed y sized' k far' ∙ sym (none_passed x sized k far)), none_held y sized' k far' ∙ sym (none_held x sized k far))

-- ---- polls, one after the other

same_side : (x y : Exchange) → y.intake ≡ x.intake → y.items.items ≡ x.items.items → (k : ℕ) → side_of y k ≡ side_of x k
same_side x y p q k =
    ap (λ (t : Intake). record { passed = passed_of t k; asked_at = asked_at_of t k; held = held_at y.items.items k }) p
    ∙ ap (λ (items : List (Option Item)). record { passed = passed_of x.intake k; asked_at = asked_at_of x.intake k; held = held_at items k }) q

pub sized_then : (x y : Exchange) (calls : List Call) → IsSized x → Served x calls y → IsSized y
sized_then x y calls sized s = ap length s.lanes.lanes ∙ sized ∙ sym s.lanes.senders

-- the calls of an earlier turn were forgotten before
cleared_feeds : (x b y : Exchange) (calls : List Call) → Cleared x b → IsSized x → IsSized y → senders_of y ≡ senders_of x → ((k : ℕ) → Theirs k (option_to_list (side_of x k).held))
    → (((k : ℕ) → Theirs k (option_to_list (side_of b k).held))
    → ((k : ℕ) → senders_of b ≤ k → (items_of (side_of y k).passed ≡ items_of (side_of b k).passed) × ((side_of y k).held ≡ (side_of b k).held)) → Feeding (side_of b) calls (side_of y))
    → Feeding (side_of x) calls (side_of y)
cleared_feeds x b y calls cleared sized sized' same had feeds i =
    let alike : (k : ℕ) → side_of b k ≡ side_of x k = same_side x b cleared.intake cleared.items in
    let many : senders_of b ≡ senders_of x = ap length cleared.items in
    let sized_b : IsSized b = ap (λ (t : Intake). length (lanes_of t)) cleared.intake ∙ sized ∙ sym many in
    subst (λ (s : Side). FeedsSide s (offers i calls) (side_of y i)) (alike i)
    (feeds (λ k. subst (λ (s : Side). Theirs k (option_to_list s.held)) (sym (alike k)) (had k)) (same_beyond b y sized_b sized' (same ∙ sym many)) i)

away_turn_feeds : (cause : Cause) (x : Exchange) (stop : Stop) (y : Exchange) → IsSized x → IsSized y → senders_of y ≡ senders_of x
    → ((k : ℕ) → Theirs k (items_of (side_of y k).passed)) → ((k : ℕ) → Theirs k (option_to_list (side_of x k).held))
    → (turn : MakesTurnAway cause x stop y) → Feeding (side_of x) turn.calls (side_of y)
away_turn_feeds cause x stop y sized sized' same own had p =
    cleared_feeds x p.begun y p.calls p.cleared sized sized' same had (λ had_b beyond. away_feeds p.begun y own had_b beyond p.node p.now cause p.calls stop p.turns)

module _ {S : Type 0} (answers : Told S) where
  poll_feeds : (line : Line S) (x : Exchange) (result : Poll Stop) (y : Exchange) (left : Line S) → IsSized x → IsSized y → senders_of y ≡ senders_of x
      → ((k : ℕ) → Theirs k (items_of (side_of y k).passed)) → ((k : ℕ) → Theirs k (option_to_list (side_of x k).held))
      → (poll : Polls answers line x result y left) → Feeding (side_of x) (calls_of_poll answers line x result y left poll) (side_of y)
  poll_feeds (Open wire) x result y left sized sized' same own had p i =
      cleared_feeds x p.begun y (calls_of_turn answers p.node p.now p.begun wire result y p.after p.turns) p.cleared sized sized' same had
      (λ had_b beyond. turns_feed p.begun y own had_b beyond answers p.node p.now wire result p.after p.turns) i
  poll_feeds (Stopped stop) x result y left sized sized' same own had p i =
      let alike : side_of y i ≡ side_of x i = same_side x y p.0.intake p.0.items i in
      side_stays (side_of x i) (side_of y i) (ap (λ (s : Side). items_of s.passed) alike) (ap (λ (s : Side). s.held) alike)

  module _ (first : Exchange) (places : HasPlaces first) (sized : IsSized first) (had : (k : ℕ) → Theirs k (option_to_list (side_of first k).held)) where
    -- what was taken before is its sender's
    own_before : (x y : Exchange) (calls : List Call) → IsSized x → Served x calls y → ((k : ℕ) → Theirs k (items_of (side_of y k).passed))
        → (k : ℕ) → Theirs k (items_of (side_of x k).passed)
    own_before x y calls sized' s own k = ⊎_elim
        (λ (near : k < senders_of x).
        all_front (λ i. i.sender ≡ k) (items_of (side_of x k).passed) (s.took k near).more (subst (Theirs k) (s.took k near).taken (own k)))
        (λ (far : senders_of x ≤ k). subst (λ (es : _). Theirs k (items_of es)) (sym (none_passed x sized' k far)) tt)
        (cases_lt k (senders_of x))

    -- what is held is its sender's
    held_own : (y : Exchange) (calls : List Call) → ((k : ℕ) → Theirs k (items_of (side_of y k).passed)) → Feeding (side_of first) calls (side_of y)
        → (k : ℕ) → Theirs k (option_to_list (side_of y k).held)
    held_own y calls own f k =
        let side = f k in
        let held : List Item = option_to_list (side_of y k).held in
        let last = wait_last (option_to_list (side_of first k).held ++ (side.more ++ [])) (held ++ []) (offers k calls) (side.feeds []) in
        let all : Theirs k (option_to_list (side_of first k).held ++ (side.more ++ [])) =
        all_join k (option_to_list (side_of first k).held) (side.more ++ []) (had k)
        (all_join k side.more [] (all_back (λ i. i.sender ≡ k) (items_of (side_of first k).passed) side.more (subst (Theirs k) side.taken (own k))) tt) in
        subst (Theirs k) (append-nil held)
        (all_back (λ i. i.sender ≡ k) last.0 (held ++ []) (subst (Theirs k) last.1 all))

    -- behind what was fed, more is
    fed_then : (calls mine : List Call) (y z : Exchange) → Served first calls y → Served y mine z → ((k : ℕ) → Theirs k (items_of (side_of z k).passed))
        → (((k : ℕ) → Theirs k (items_of (side_of y k).passed)) → Feeding (side_of first) calls (side_of y))
        → (IsSized y → IsSized z → ((k : ℕ) → Theirs k (option_to_list (side_of y k).held)) → Feeding (side_of y) mine (side_of z))
        → Feeding (side_of first) (calls ++ mine) (side_of z)
    fed_then calls mine y z served further own before then i =
        let sized_y : IsSized y = sized_then first y calls sized served in
        let own_y = own_before y z mine sized_y further own in
        let f : Feeding (side_of first) calls (side_of y) = before own_y in
        let g : Feeding (side_of y) mine (side_of z) = then sized_y (sized_then y z mine sized_y further) (held_own y calls own_y f) in
        subst (λ (os : List Offer). FeedsSide (side_of first i) os (side_of z i)) (sym (flat_map-append (offered_by i) calls mine))
        (sides_then (side_of first i) (side_of y i) (side_of z i) (offers i calls) (offers i mine) (f i) (g i))

    pub polls_feed : (calls : List Call) (y : Exchange) → Polled answers first calls y → ((k : ℕ) → Theirs k (items_of (side_of y k).passed))
        → Feeding (side_of first) calls (side_of y)
    polls_feed _ _ Polled.not_yet own i = side_stays (side_of first i) (side_of first i) refl refl
    polls_feed _ _ (Polled.once_more y z calls line left result before poll) own i =
        let served : Served first calls y = polls_serve answers first y calls places before in
        let further : Served y (calls_of_poll answers line y result z left poll) z = poll_serves_its answers line y result z left served.places poll in
        fed_then calls (calls_of_poll answers line y result z left poll) y z served further own (λ own_y. polls_feed calls y before own_y)
        (λ sized_y sized_z had_y. poll_feeds line y result z left sized_y sized_z further.lanes.senders own had_y poll) i
    polls_feed _ _ (Polled.away y z calls cause stop before turn) own i =
        let served : Served first calls y = polls_serve answers first y calls places before in
        let further : Served y turn.calls z = away_serves cause y stop z served.places turn in
        fed_then calls turn.calls y z served further own (λ own_y. polls_feed calls y before own_y)
        (λ sized_y sized_z had_y. away_turn_feeds cause y stop z sized_y sized_z further.lanes.senders own had_y turn) i
    polls_feed _ _ (Polled.talked y z calls its life before talk lives held only) own i =
        let alike : (k : ℕ) → side_of z k ≡ side_of y k = same_side y z only.intake only.items in
        let f : Feeding (side_of first) calls (side_of y) = polls_feed calls y before (λ k. subst (λ (s : Side). Theirs k (items_of s.passed)) (alike k) (own k)) in
        subst (λ (os : List Offer). FeedsSide (side_of first i) os (side_of z i))
        (sym (before_nothing (offered_by i) calls its (offers i calls) refl (talk_none (offered_by i) (no_offer i) its talk)))
        (subst (λ (os : List Offer). FeedsSide (side_of first i) os (side_of z i)) (append-nil (offers i calls))
        (sides_then (side_of first i) (side_of y i) (side_of z i) (offers i calls) [] (f i)
        (side_stays (side_of y i) (side_of z i) (ap (λ (s : Side). items_of s.passed) (alike i)) (ap (λ (s : Side). s.held) (alike i)))))
    polls_feed _ _ (Polled.ended y z calls told before step only) own i =
        let alike : (k : ℕ) → side_of z k ≡ side_of y k = same_side y z only.intake only.items in
        let f : Feeding (side_of first) calls (side_of y) = polls_feed calls y before (λ k. subst (λ (s : Side). Theirs k (items_of s.passed)) (alike k) (own k)) in
        subst (λ (os : List Offer). FeedsSide (side_of first i) os (side_of z i)) (sym (flat_map-append (offered_by i) calls (End told ∷ [])))
        (sides_then (side_of first i) (side_of y i) (side_of z i) (offers i calls) [] (f i)
        (side_stays (side_of y i) (side_of z i) (ap (λ (s : Side). items_of s.passed) (alike i)) (ap (λ (s : Side). s.held) (alike i))))
    polls_feed _ _ (Polled.led y z calls partition leader now before step only) own i =
        let alike : (k : ℕ) → side_of z k ≡ side_of y k = same_side y z only.intake only.items in
        let f : Feeding (side_of first) calls (side_of y) = polls_feed calls y before (λ k. subst (λ (s : Side). Theirs k (items_of s.passed)) (alike k) (own k)) in
        subst (λ (os : List Offer). FeedsSide (side_of first i) os (side_of z i)) (sym (flat_map-append (offered_by i) calls (Lead partition leader now ∷ [])))
        (sides_then (side_of first i) (side_of y i) (side_of z i) (offers i calls) [] (f i)
        (side_stays (side_of y i) (side_of z i) (ap (λ (s : Side). items_of s.passed) (alike i)) (ap (λ (s : Side). s.held) (alike i))))
