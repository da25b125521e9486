-- What a connection's round makes.
use Rattle.std.proofs.Common.{◌≡◌, ℕ, List, [], ◌∷◌, ◌++◌, map, refl, sym, ap, subst, ◌∙◌, append-nil}
use Rattle.std.specs.Prelude.{Option, Some, None, Result, Ok, Err, IfOk, OnErr, flat_map}
use Rattle.std.specs.List.{AllByRecursion}
use Rattle.std.specs.declared.alloc.AllocError.{AllocError}
use Rattle.kp_connection.specs.Answers.{Answer}
use Rattle.kp_connection.specs.Wire.{Told, Wired}
use Rattle.kp_wire.proofs.ListLemmas.{all_append}
use Rattle.kp_rules.specs.Calls.{Call, Append, Close, Disconnect, End, Fetch, Flush, Lead, Life, Lives, Reply, Request, Tick, appended_by}
use Rattle.kp_rules.specs.InOrder.{IsHeld}
use Rattle.kp_rules.specs.declared.fault.CoreFault.{CoreFault}
use Rattle.kp_rules.specs.declared.outgoing.Outgoing.{Outgoing}
use Rattle.kp_engine.specs.Closing.{IsTalk, Polled, closing}
use Rattle.kp_engine.specs.Exchange.{OnlyCore, with_strays}
use Rattle.kp_engine.specs.Polls.{TalkUntil}
use Rattle.kp_engine.specs.Rounds.{Drops, HasRound, IsCut, Makes, Rounds, line_behind}
use Rattle.kp_engine.specs.Serving.{HasPlaces, Served}
use Rattle.kp_engine.specs.Turn.{Heard, RequestsPart, asks, hears, requests}
use Rattle.kp_engine.specs.declared.engine.Line.{Line}
use Rattle.kp_engine.specs.declared.exchange.Exchange.{Exchange}
use Rattle.kp_engine.specs.declared.stop.Cause.{Cause}
use Rattle.kp_engine.proofs.RunLemmas.{runs_then}
use Rattle.kp_engine.proofs.ServedLemmas.{only_core_serves}
use Rattle.kp_engine.proofs.ServingLemmas.{Silent}
use Rattle.kp_engine.proofs.StepLemmas.{fetched_by}
use Rattle.kp_engine.proofs.TalkLemmas.{only_then}

-- ---- calls that talk

abbrev pub AllTalk : List Call → Type 0
AllTalk calls = AllByRecursion IsTalk calls

-- calls on the core alone, each of which talks
pub record IsMade (x : Exchange) (calls : List Call) (y : Exchange) : Type 0 where
  pub makes : Makes calls x y
  pub talk : AllTalk calls

pub talk_none : {A : Type 0} (f : Call → List A) → ((c : Call) → IsTalk c → f c ≡ []) → (calls : List Call) → AllTalk calls → flat_map f calls ≡ []
talk_none f none [] h = refl
talk_none {A = A} f none (c ∷ calls) h = ap (λ (zs : List A). zs ++ flat_map f calls) (none c h.0) ∙ talk_none f none calls h.1

no_append : (c : Call) → IsTalk c → appended_by c ≡ []
no_append (Append i answer) t = absurd t
no_append (Request node now answer) t = refl
no_append (Reply now content answer) t = refl
no_append (Tick node now answer) t = refl
no_append (Disconnect node now) t = refl
no_append (Lead partition leader now) t = refl
no_append Close t = refl
no_append Flush t = refl
no_append (End reports) t = refl
no_append (Fetch sender answer) t = refl

no_fetch : (i : ℕ) (c : Call) → IsTalk c → fetched_by i c ≡ []
no_fetch i (Append x answer) t = refl
no_fetch i (Request node now answer) t = refl
no_fetch i (Reply now content answer) t = refl
no_fetch i (Tick node now answer) t = refl
no_fetch i (Disconnect node now) t = refl
no_fetch i (Lead partition leader now) t = refl
no_fetch i Close t = refl
no_fetch i Flush t = refl
no_fetch i (End reports) t = refl
no_fetch i (Fetch sender answer) t = absurd t

no_close : (c : Call) → IsTalk c → closing c ≡ []
no_close (Append x answer) t = refl
no_close (Request node now answer) t = refl
no_close (Reply now content answer) t = refl
no_close (Tick node now answer) t = refl
no_close (Disconnect node now) t = refl
no_close (Lead partition leader now) t = refl
no_close Close t = absurd t
no_close Flush t = refl
no_close (End reports) t = refl
no_close (Fetch sender answer) t = refl

pub talk_closes_none : (calls : List Call) → AllTalk calls → flat_map closing calls ≡ []
talk_closes_none calls h = talk_none closing no_close calls h

talk_silent : (calls : List Call) → AllTalk calls → Silent calls
talk_silent calls h = record { appends = talk_none appended_by no_append calls h; fetches = λ i. talk_none (fetched_by i) (no_fetch i) calls h }

pub talk_serves : (x y : Exchange) (calls : List Call) (life : Life) → HasPlaces x → AllTalk calls → Lives x.core calls life y.core → AllByRecursion IsHeld calls → OnlyCore x y → Served x calls y
talk_serves x y calls life places talk lives held only = only_core_serves x y calls life lives held places only (talk_silent calls talk)

only_behind : (n : ℕ) (x y : Exchange) → OnlyCore (with_strays n x) y → OnlyCore x y
only_behind n x y only = record { intake = only.intake; items = only.items; reports = only.reports; closed = only.closed }

pub serves_behind : (n : ℕ) (y z : Exchange) (its : List Call) → HasPlaces y → IsMade (with_strays n y) its z → Served y its z
serves_behind n y z its places m = talk_serves y z its m.makes.runs.life places m.talk m.makes.runs.lives m.makes.runs.held (only_behind n y z m.makes.only)

-- behind replies over a connection of which so many named no request
pub made_behind : {S : Type 0} (answers : Told S) (n : ℕ) (x y z : Exchange) (calls its : List Call) → Polled answers x calls y → IsMade (with_strays n y) its z → Polled answers x (calls ++ its) z
made_behind answers n x y z calls its before m =
    Polled.talked y z calls its m.makes.runs.life before m.talk m.makes.runs.lives m.makes.runs.held (only_behind n y z m.makes.only)

-- ---- the parts of a round

all_made : {B : Type 0} (make : B → Call) → ((x : B) → IsTalk (make x)) → (xs : List B) → AllTalk (map make xs)
all_made make talks [] = tt
all_made make talks (x ∷ xs) = (talks x, all_made make talks xs)

asked_talk : (node now : ℕ) (sent : List Outgoing) (last : Option (Result (Option Outgoing) CoreFault)) → AllTalk (requests node now sent ++ asks node now last)
asked_talk node now sent last = all_append IsTalk (requests node now sent) (asks node now last) (all_made (λ (r : Outgoing). Request node now (Ok (Some r))) (λ r. tt) sent) (one last)
  where
    one : (last : Option (Result (Option Outgoing) CoreFault)) → AllTalk (asks node now last)
    one None = tt
    one (Some answer) = (tt, tt)

of_requests : (node now : ℕ) (sent : List Outgoing) (calls : List Call) → RequestsPart node now sent calls → AllTalk calls
of_requests node now sent calls p = subst AllTalk (sym p.made) (asked_talk node now sent p.last)

of_replies : (now : ℕ) (heard : List Heard) (calls : List Call) → calls ≡ map (hears now) heard → AllTalk calls
of_replies now heard calls is = subst AllTalk (sym is) (all_made (hears now) (λ h. tt) heard)

of_both : (node now : ℕ) (sent : List Outgoing) (heard : List Heard) (asked replied : List Call) → RequestsPart node now sent asked → replied ≡ map (hears now) heard → AllTalk (asked ++ replied)
of_both node now sent heard asked replied p is = all_append IsTalk asked replied (of_requests node now sent asked p) (of_replies now heard replied is)

of_until : (node now : ℕ) (sent : List Outgoing) (heard : List Heard) (calls : List Call) → TalkUntil node now sent heard calls → AllTalk calls
of_until node now _ _ _ (TalkUntil.in_requests sent asked p) = subst AllTalk (sym p.made) (asked_talk node now sent p.last)
of_until node now _ _ _ (TalkUntil.in_replies sent heard asked replied p q) = of_both node now sent heard asked replied p q.made

pub makes_then : (x y z : Exchange) (a b : List Call) → Makes a x y → Makes b y z → Makes (a ++ b) x z
makes_then x y z a b p q = record { runs = runs_then x y z a b p.runs q.runs; only = only_then x y z p.only q.only }

-- ---- a round

cut_made : {S : Type 0} (answers : Told S) (most node now : ℕ) (x : Exchange) (w : Wired S) (calls : List Call) (xs : List Answer) (cause : Cause) (y : Exchange) (v : Wired S)
    → IsCut answers most node now x w calls xs cause y v → IsMade x calls y
cut_made answers most node now x w _ _ _ _ _ (IsCut.by_talk cause y v talks) = record {
  makes = record { runs = talks.talks.runs; only = talks.talks.only };
  talk = of_both node now talks.sent talks.heard talks.asked talks.replied talks.of_requests talks.of_replies.made;
}
cut_made answers most node now x w _ _ _ _ _ (IsCut.by_strays y v on_time talks many) = record {
  makes = record { runs = talks.talks.runs; only = talks.talks.only };
  talk = of_both node now talks.sent talks.heard talks.asked talks.replied talks.of_requests talks.of_replies.made;
}

pub round_made : {S : Type 0} (answers : Told S) (most node now : ℕ) (x : Exchange) (w : Wired S) (calls : List Call) (xs : List Answer) (y : Exchange) (left : Line S)
    → Rounds answers most node now x w calls xs y left → IsMade x calls y
round_made answers most node now x w _ _ _ _ (Rounds.goes_on y v on_time talks few) = record {
  makes = record { runs = talks.talks.runs; only = talks.talks.only };
  talk = of_both node now talks.sent talks.heard talks.asked talks.replied talks.of_requests talks.of_replies.made;
}
round_made answers most node now x w _ _ _ _ (Rounds.is_cut calls xs after y cause v cut drops) =
    let made = cut_made answers most node now x w calls xs cause after v cut in
    record {
      makes = makes_then x after y calls (Disconnect node now ∷ []) made.makes drops;
      talk = all_append IsTalk calls (Disconnect node now ∷ []) made.talk (tt, tt);
    }
round_made answers most node now x w _ _ _ _ (Rounds.no_talk y v talks) = record {
  makes = record { runs = talks.talks.runs; only = talks.talks.only };
  talk = of_until node now talks.sent talks.heard talks.calls talks.until;
}
round_made answers most node now x w _ _ _ _ (Rounds.no_drop calls xs after y cause v cut none) =
    let made = cut_made answers most node now x w calls xs cause after v cut in
    record {
      makes = subst (λ (cs : List Call). Makes cs x y) (append-nil calls) (makes_then x after y calls [] made.makes none);
      talk = made.talk;
    }

-- what giving it up behind that leaves
pub given_up : {S : Type 0} (answers : Told S) (most node now : ℕ) (x : Exchange) (w : Wired S) (calls : List Call) (xs : List Answer) (cause : Cause) (after : Exchange) (v : Wired S)
    → IsCut answers most node now x w calls xs cause after v → (result : Result (Option Cause) AllocError) (y : Exchange)
    → IfOk result (λ cut. (cut ≡ Some cause) × Drops node now after y) → OnErr result (Makes [] after y) → HasRound answers most node now x w y (line_behind result v)
given_up answers most node now x w calls xs cause after v cut (Ok found) y drops none =
    subst (λ (o : Option Cause). HasRound answers most node now x w y (line_behind (Ok o) v)) (sym drops.0)
    (record { calls = _; told = _; round = Rounds.is_cut calls xs after y cause v cut drops.1 })
given_up answers most node now x w calls xs cause after v cut (Err refused) y drops none = record {
  calls = _;
  told = _;
  round = Rounds.no_drop calls xs after y cause v cut none;
}
