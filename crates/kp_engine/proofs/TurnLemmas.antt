-- A whole turn, of its parts.
use Rattle.std.proofs.Common.{◌≡◌, ◌<◌, ◌⊎◌, ℕ, zero, suc, Bool, true, false, List, [], ◌∷◌, ◌++◌, length, Some, None, Ok, refl, sym, ap, subst, ◌∙◌, inl, inr, append-nil, arith}
use Rattle.std.specs.Prelude.{Option, IsTrue, ◌||◌}
use Rattle.kp_connection.specs.Answers.{Answer}
use Rattle.kp_connection.specs.Wire.{Told, Wired, Stops}
use Rattle.kp_connection.proofs.WireLemmas.{Goes-nothing, Goes-stops}
use Rattle.kp_lanes.specs.Intake.{intake_view}
use Rattle.kp_lanes.specs.declared.gate.view.View.{View}
use Rattle.kp_rules.specs.Calls.{Call, Tick}
use Rattle.kp_frames.specs.declared.fault.FrameFault.{FrameFault}
use Rattle.kp_rules.specs.declared.outgoing.Outgoing.{Outgoing}
use Rattle.kp_rules.specs.declared.ticked.Ticked.{Ticked}
use Rattle.kp_engine.specs.Exchange.{AreIdle, IsQuiet, MayStayOpen, OnlyCore, Runs, SameClosed, SameLanes, SameMail, SomeBusy, TookEnough, WasBusy, mail_of, senders_of, side_of}
use Rattle.kp_engine.specs.Polls.{Closed, CutFor, FinishesAll, FinishesUntil, GoesOnBehind, HasMore, IsDone, IsUndone, TalksAll, TalksCut, TalksOn, TalksOut, Turn, TurnUntil, Turns, TurnsCut, TurnsOn, TurnsOut, is_cut, stop_of}
use Rattle.kp_engine.specs.Steps.{OnlyMails, TakesAndCloses, TakesUntil}
use Rattle.kp_engine.specs.Talking.{contents_of, frames_of}
use Rattle.kp_engine.specs.Turn.{Heard, ItemsPart, Mail, MailPart, MailParts, RepliesPart, ReportsPart, ReportsPartUntil, RequestsPart, Side}
use Rattle.kp_engine.specs.declared.exchange.Exchange.{Exchange}
use Rattle.kp_engine.specs.declared.stop.Cause.{Cause}
use Rattle.kp_engine.specs.declared.stop.Cause.TheVariants.{Io, TimedOut, BadReply}
use Rattle.kp_engine.proofs.AgreementLemmas.{none_some}
use Rattle.kp_engine.proofs.AllLemmas.{parts_kept}
use Rattle.kp_engine.proofs.RunLemmas.{runs_then}
use Rattle.kp_engine.proofs.TalkLemmas.{only_then}
use Rattle.kp_engine.proofs.SideLemmas.{enough_same, idle_still, of_core, same_lanes}

-- ---- pointwise the same mail before

pub mail_parts_from : (n : ℕ) (old older new : ℕ → Mail) (calls : List Call) → ((k : ℕ) → old k ≡ older k) → MailParts n old calls new → MailParts n older calls new
mail_parts_from zero old older new calls same parts = parts
mail_parts_from (suc n) old older new calls same parts = (
  parts.0,
  parts.1,
  parts.2,
  mail_parts_from n old older new parts.0 same parts.3,
  subst (λ (x : Mail). MailPart n x parts.1 (new n)) (same n) parts.4,
)

pub reports_from : (node now senders : ℕ) (cut : Bool) (old older new : ℕ → Mail) (calls : List Call) → ((k : ℕ) → old k ≡ older k) → ReportsPart senders node now cut old calls new → ReportsPart senders node now cut older calls new
reports_from node now senders cut old older new calls same p = record {
  of_senders = p.of_senders;
  parts = mail_parts_from senders old older new p.of_senders same p.parts;
  made = p.made;
}

reports_until_from : (node now : ℕ) (cut : Bool) (old older new : ℕ → Mail) (calls : List Call) → ((k : ℕ) → old k ≡ older k) → ReportsPartUntil node now cut old calls new → ReportsPartUntil node now cut older calls new
reports_until_from node now cut old older new calls same p = record {
  dropped = p.dropped;
  only_cut = p.only_cut;
  senders = p.senders;
  of_senders = p.of_senders;
  parts = mail_parts_from p.senders old older new p.of_senders same p.parts;
  later = λ k far. p.later k far ∙ same k;
  made = p.made;
}

items_kept : (n : ℕ) (old new newer : ℕ → Side) (closes : Bool) (calls : List Call) → ((k : ℕ) → newer k ≡ new k) → ItemsPart n old closes calls new → ItemsPart n old closes calls newer
items_kept n old new newer closes calls same p = record {
  of_senders = p.of_senders;
  parts = parts_kept n old new newer p.of_senders (λ k near. same k) p.parts;
  made = p.made;
}

-- ---- what calls on the core leave

pub lanes_then : (a b c : Exchange) → SameLanes a b → SameLanes b c → SameLanes a c
lanes_then a b c p q = record { lanes = q.lanes ∙ p.lanes; limits = q.limits ∙ p.limits; senders = q.senders ∙ p.senders }

pub core_lanes : (a b : Exchange) → OnlyCore a b → SameLanes a b
core_lanes a b h = same_lanes a b h.intake (ap length h.items)

pub core_sides : (a b : Exchange) → OnlyCore a b → (k : ℕ) → side_of b k ≡ side_of a k
core_sides a b h k = (of_core (suc k) a b h).others k (λ same. omega (arith, same))

pub core_mail : (a b : Exchange) → OnlyCore a b → (k : ℕ) → mail_of b k ≡ mail_of a k
core_mail a b h k = (of_core k a b h).mail k

idle_then : (a b : Exchange) → ((k : ℕ) → side_of b k ≡ side_of a k) → SameLanes a b → intake_view b.intake ≡ intake_view a.intake → AreIdle a → AreIdle b
idle_then a b sides lanes view h k near = idle_still k a b (sides k) lanes.lanes view (h k (omega (arith, near, lanes.senders)))

busy_then : (a b c : Exchange) → ((k : ℕ) → side_of c k ≡ side_of b k) → SomeBusy a b → SomeBusy a c
busy_then a b c sides h = record { sender = h.sender; near = h.near; busy = subst (λ (s : Side). WasBusy (side_of a h.sender) s) (sym (sides h.sender)) h.busy }

stays_open : (a b c : Exchange) (closes : Bool) → ((k : ℕ) → side_of c k ≡ side_of b k) → intake_view c.intake ≡ intake_view b.intake → (closes ≡ true) ⊎ MayStayOpen a b → (closes ≡ true) ⊎ MayStayOpen a c
stays_open a b c closes sides view (inl is) = inl is
stays_open a b c closes sides view (inr (inl closed)) = inr (inl closed)
stays_open a b c closes sides view (inr (inr (inl other))) = inr (inr (inl (λ is. other (sym (ap (λ (v : View). v.found) view) ∙ is))))
stays_open a b c closes sides view (inr (inr (inr busy))) = inr (inr (inr (busy_then a b c sides busy)))

-- ---- a turn

-- who goes on is not done
pub goes_undone : (done : Bool) (cut : Option Cause) → GoesOnBehind (stop_of done cut) → done ≡ false
goes_undone true cut goes = absurd goes
goes_undone false cut goes = refl

module _ (node now : ℕ) (x a b c d : Exchange) (idle : Bool) (ticked : Ticked) (takes : TakesAndCloses x a idle) (same_mail : SameMail x a) (same_lanes_taken : SameLanes x a)
    (ticks : Runs a (Tick node now ticked ∷ []) b) (tick_only : OnlyCore a b) (talk_only : OnlyCore b c) (mails : OnlyMails c d) where
  sides : (k : ℕ) → side_of d k ≡ side_of a k
  sides k = mails.sides k ∙ core_sides b c talk_only k ∙ core_sides a b tick_only k

  mail_before : (k : ℕ) → mail_of c k ≡ mail_of x k
  mail_before k = core_mail b c talk_only k ∙ core_mail a b tick_only k ∙ same_mail k

  pub lanes_all : SameLanes x d
  lanes_all = lanes_then x a d same_lanes_taken (lanes_then a b d (core_lanes a b tick_only) (lanes_then b c d (core_lanes b c talk_only) mails.lanes))

  view_all : intake_view d.intake ≡ intake_view a.intake
  view_all = mails.view ∙ ap intake_view talk_only.intake ∙ ap intake_view tick_only.intake

  senders_before : senders_of c ≡ senders_of x
  senders_before = ap length talk_only.items ∙ ap length tick_only.items ∙ same_lanes_taken.senders

  pub idle_all : AreIdle a → AreIdle d
  idle_all h = idle_then a d sides (lanes_then a b d (core_lanes a b tick_only) (lanes_then b c d (core_lanes b c talk_only) mails.lanes)) view_all h

  pub idle_talked : AreIdle a → AreIdle c
  idle_talked h = idle_then a c (λ k. core_sides b c talk_only k ∙ core_sides a b tick_only k) (lanes_then a b c (core_lanes a b tick_only) (core_lanes b c talk_only))
      (ap intake_view talk_only.intake ∙ ap intake_view tick_only.intake) h

  enough_all : (k : ℕ) → k < senders_of x → TookEnough k (side_of x k) (side_of d k) d.intake
  enough_all k near = enough_same k (side_of x k) a d (sides k)
      (lanes_then a b d (core_lanes a b tick_only) (lanes_then b c d (core_lanes b c talk_only) mails.lanes)).lanes view_all (takes.enough k near)

  closed_all : d.closed ≡ (x.closed || takes.closes)
  closed_all = mails.closed ∙ talk_only.closed ∙ tick_only.closed ∙ takes.closed

  only_all : IsTrue takes.closes → (x.closed ≡ false) × IsQuiet d × AreIdle d
  only_all so = let p = takes.only so in (p.0, ap (λ v. v.knows_quiet) view_all ∙ p.1, idle_all p.2)

  must_all : (takes.closes ≡ true) ⊎ MayStayOpen x d
  must_all = stays_open x a d takes.closes sides view_all takes.must

  pub items_all : ItemsPart (senders_of x) (side_of x) takes.closes takes.calls (side_of d)
  items_all = items_kept (senders_of x) (side_of x) (side_of a) (side_of d) takes.closes takes.calls sides takes.part

  pub runs_ticked : Runs x (takes.calls ++ (Tick node now ticked ∷ [])) b
  runs_ticked = runs_then x a b takes.calls (Tick node now ticked ∷ []) takes.runs ticks

  pub runs_talked : (calls : List Call) → Runs b calls c → Runs x (takes.calls ++ (Tick node now ticked ∷ []) ++ calls) c
  runs_talked calls talk = runs_then x b c (takes.calls ++ (Tick node now ticked ∷ [])) calls runs_ticked talk

  pub runs_all : (calls reports : List Call) → Runs b calls c → Runs c reports d → Runs x (takes.calls ++ (Tick node now ticked ∷ []) ++ calls ++ reports) d
  runs_all calls reports talk finish =
      runs_then x c d (takes.calls ++ (Tick node now ticked ∷ []) ++ calls) reports (runs_talked calls talk) finish

  reports_all : (cut : Bool) (reports : List Call) → ReportsPart (senders_of c) node now cut (mail_of c) reports (mail_of d) → ReportsPart (senders_of x) node now cut (mail_of x) reports (mail_of d)
  reports_all cut reports p = subst (λ (n : ℕ). ReportsPart n node now cut (mail_of x) reports (mail_of d)) senders_before
      (reports_from node now (senders_of c) cut (mail_of c) (mail_of x) (mail_of d) reports mail_before p)

  -- the turn, whatever was asked and heard in its middle
  pub whole : (cut : Option Cause) (sent : List Outgoing) (heard : List Heard) (refused : Option (List ℕ × FrameFault)) (asked replied : List Call) (done : Bool)
      → RequestsPart node now sent asked → RepliesPart now heard refused replied → (IsTrue ticked.reconnect → cut ≡ Some TimedOut) × (cut ≡ Some TimedOut → IsTrue ticked.reconnect)
      → (cut ≡ Some TimedOut → asked ++ replied ≡ []) → (f : FinishesAll node now cut c idle done d)
      → Turn node now x sent heard refused cut (takes.calls ++ (Tick node now ticked ∷ []) ++ (asked ++ replied) ++ f.calls) d
  whole cut sent heard refused asked replied done p q late nothing f = record {
    closes = takes.closes;
    ticked = ticked;
    items = takes.calls;
    tick = Tick node now ticked ∷ [];
    asked = asked;
    replied = replied;
    reports = f.calls;
    of_items = items_all;
    of_tick = refl;
    of_requests = p;
    of_replies = q;
    of_reports = reports_all (is_cut cut) f.calls f.part;
    made = refl;
    late = late;
    nothing_tried = nothing;
    took = enough_all;
    closed = closed_all;
    only = only_all;
    must = must_all;
    moved = f.moved;
  }

  pub ends_done : (cut : Option Cause) → FinishesAll node now cut c idle true d → IsDone d
  ends_done cut f = (f.done refl).1 (idle_talked (takes.found (f.done refl).0))

  -- memory was refused in the last part
  pub until_reports : (cut : Bool) (sent : List Outgoing) (heard : List Heard) (refused : Option (List ℕ × FrameFault)) (asked replied reports : List Call)
      → RequestsPart node now sent asked → RepliesPart now heard refused replied → ReportsPartUntil node now cut (mail_of c) reports (mail_of d)
      → TurnUntil node now x d sent heard (takes.calls ++ (Tick node now ticked ∷ []) ++ (asked ++ replied) ++ reports)
  until_reports cut sent heard refused asked replied reports p q r =
      TurnUntil.in_reports takes.closes ticked takes.calls (Tick node now ticked ∷ []) asked replied reports sent heard refused cut items_all (record { closed = closed_all; only = only_all }) refl p q
      (reports_until_from node now cut (mail_of c) (mail_of x) (mail_of d) reports mail_before r)

  -- where it is not done
  pub undone_turned : (done : Bool) (cut : Option Cause) → FinishesAll node now cut c idle done d → (done ≡ false) → IsUndone x d
  undone_turned true cut f ends = absurd (apart ends)
    where
      apart : true ≡ false → ⊥
      apart e = cc
  undone_turned false cut f ends = left f.undone takes.busy
    where
      left : (false ≡ true) ⊎ ((idle ≡ false) ⊎ HasMore d) → (idle ≡ true) ⊎ SomeBusy x a → IsUndone x d
      left (inl e) busy = absurd (apart e)
        where
          apart : false ≡ true → ⊥
          apart e = cc
      left (inr (inr more)) busy = inr more
      left (inr (inl e)) (inl free) = absurd (apart (sym e ∙ free))
        where
          apart : false ≡ true → ⊥
          apart e = cc
      left (inr (inl e)) (inr busy) = inl (busy_then x a d sides busy)

  module _ {S : Type 0} (answers : Told S) (w v : Wired S) where
    -- the connection goes on
    pub turned_on : (done : Bool) → ticked.reconnect ≡ false → TalksOn answers 16 node now b w c v → FinishesAll node now None c idle done d → TurnsOn answers node now x w d v
    unfolding whole
    turned_on done on_time p f = record {
      sent = p.sent;
      heard = p.heard;
      calls = takes.calls ++ (Tick node now ticked ∷ []) ++ (p.asked ++ p.replied) ++ f.calls;
      xs = p.xs;
      turn = whole None p.sent p.heard None p.asked p.replied done p.of_requests p.of_replies
          (λ so. absurd (not_both ticked.reconnect on_time so), λ some. absurd (none_some some)) (λ some. absurd (none_some some)) f;
      runs = runs_all (p.asked ++ p.replied) f.calls p.talks.runs f.runs;
      lanes = lanes_all;
      goes = p.talks.goes;
      waits = p.waits;
      sound = p.sound;
    }
      where
        not_both : (late : Bool) → late ≡ false → IsTrue late → ⊥
        not_both late is so = cc

    late_cut : (cause : Cause) (held : List ℕ) (xs : List Answer) (heard : List Heard) (refused : Option (List ℕ × FrameFault)) (calls : List Call) → CutFor ticked.reconnect held xs heard refused calls cause
        → (IsTrue ticked.reconnect → Some cause ≡ Some TimedOut) × (Some cause ≡ Some TimedOut → IsTrue ticked.reconnect) × (Some cause ≡ Some TimedOut → calls ≡ [])
    late_cut Io held xs heard refused calls h = (λ so. absurd (not_late ticked.reconnect h.0 so), λ is. absurd (other is), λ is. absurd (other is))
      where
        other : Some Io ≡ Some TimedOut → ⊥
        other is = cc

        not_late : (late : Bool) → late ≡ false → IsTrue late → ⊥
        not_late late is so = cc
    late_cut TimedOut held xs heard refused calls h = (λ so. refl, λ is. late_is ticked.reconnect h.0, λ is. h.2)
      where
        late_is : (late : Bool) → late ≡ true → IsTrue late
        late_is late is = is
    late_cut (BadReply fault) held xs heard refused calls h = (λ so. absurd (not_late ticked.reconnect h.0 so), λ is. absurd (other is), λ is. absurd (other is))
      where
        other : Some (BadReply fault) ≡ Some TimedOut → ⊥
        other is = cc

        not_late : (late : Bool) → late ≡ false → IsTrue late → ⊥
        not_late late is so = cc

    -- the connection is of no use any more
    pub turned_cut : (done : Bool) (cause : Cause) → TalksCut answers 16 node now ticked.reconnect b w cause c v → FinishesAll node now (Some cause) c idle done d → TurnsCut answers node now x w cause d v
    unfolding whole
    turned_cut done cause p f =
        let l = late_cut cause w.held p.xs p.heard p.refused (p.asked ++ p.replied) p.cut in record {
          sent = p.sent;
          heard = p.heard;
          refused = p.refused;
          calls = takes.calls ++ (Tick node now ticked ∷ []) ++ (p.asked ++ p.replied) ++ f.calls;
          xs = p.xs;
          turn = whole (Some cause) p.sent p.heard p.refused p.asked p.replied done p.of_requests p.of_replies (l.0, l.1) l.2 f;
          runs = runs_all (p.asked ++ p.replied) f.calls p.talks.runs f.runs;
          lanes = lanes_all;
          stops = p.talks.stops;
          cut = p.cut;
        }

    -- what a turn answers, by its end
    pub turned : (done : Bool) (cut : Option Cause) → TalksAll answers 16 node now ticked.reconnect b w (Ok cut) c v → FinishesAll node now cut c idle done d → Turns answers node now x w (stop_of done cut) d v
    turned true None p f = (ends_done None f, inl (turned_on true p.0 p.1 f))
    turned true (Some cause) p f = (ends_done (Some cause) f, inr (cause, turned_cut true cause p f))
    turned false None p f = turned_on false p.0 p.1 f
    turned false (Some cause) p f = turned_cut false cause p f

    pub out_in_reports : (cut : Option Cause) → TalksAll answers 16 node now ticked.reconnect b w (Ok cut) c v → FinishesUntil node now cut c d → TurnsOut answers node now x w d v
    out_in_reports None p f =
        let t = p.1 in record {
          sent = t.sent;
          heard = t.heard;
          calls = takes.calls ++ (Tick node now ticked ∷ []) ++ (t.asked ++ t.replied) ++ f.calls;
          xs = t.xs;
          turn = until_reports false t.sent t.heard None t.asked t.replied f.calls t.of_requests t.of_replies f.part;
          runs = runs_all (t.asked ++ t.replied) f.calls t.talks.runs f.runs;
          lanes = lanes_all;
          stops = Goes-stops answers w v (frames_of t.sent) (contents_of t.heard) t.xs t.talks.goes;
        }
    out_in_reports (Some cause) t f = record {
      sent = t.sent;
      heard = t.heard;
      calls = takes.calls ++ (Tick node now ticked ∷ []) ++ (t.asked ++ t.replied) ++ f.calls;
      xs = t.xs;
      turn = until_reports true t.sent t.heard t.refused t.asked t.replied f.calls t.of_requests t.of_replies f.part;
      runs = runs_all (t.asked ++ t.replied) f.calls t.talks.runs f.runs;
      lanes = lanes_all;
      stops = t.talks.stops;
    }

-- ---- until memory was refused, before the last part

module _ (node now : ℕ) (x a : Exchange) (same_mail : SameMail x a) where
  pub items_refused : (p : TakesUntil x a × SameClosed x a) → TurnUntil node now x a [] [] p.0.calls
  items_refused p = TurnUntil.in_items p.0.calls p.0.part p.1 same_mail

  module _ (idle : Bool) (takes : TakesAndCloses x a idle) where
    pub closed_still : (c : Exchange) → OnlyCore a c → Closed x takes.closes c
    closed_still c same = record {
      closed = same.closed ∙ takes.closed;
      only = λ so.
          let p = takes.only so in (
            p.0,
            ap (λ i. (intake_view i).knows_quiet) same.intake ∙ p.1,
            idle_then a c (core_sides a c same) (core_lanes a c same) (ap intake_view same.intake) p.2,
          );
    }

    pub tick_refused : (b : Exchange) → OnlyCore a b → TurnUntil node now x b [] [] takes.calls
    tick_refused b tick_only = TurnUntil.before_the_tick takes.closes takes.calls
        (items_kept (senders_of x) (side_of x) (side_of a) (side_of b) takes.closes takes.calls (core_sides a b tick_only) takes.part)
        (closed_still b tick_only)
        (λ k. core_mail a b tick_only k ∙ same_mail k)

    pub tick_refused_runs : (b : Exchange) → Runs a [] b → Runs x takes.calls b
    tick_refused_runs b runs = subst (λ (calls : List Call). Runs x calls b) (append-nil takes.calls) (runs_then x a b takes.calls [] takes.runs runs)

module _ {S : Type 0} (answers : Told S) (nothing : (s : S) → answers s [] s) (node now : ℕ) (x a : Exchange) (w : Wired S) (same_mail : SameMail x a) (same_lanes_taken : SameLanes x a) where
  nothing_stops : Stops answers w [] [] [] w
  nothing_stops = Goes-stops answers w w [] [] [] (Goes-nothing answers nothing w)

  pub out_in_items : TakesUntil x a × SameClosed x a → TurnsOut answers node now x w a w
  out_in_items p = record {
    sent = [];
    heard = [];
    calls = p.0.calls;
    xs = [];
    turn = items_refused node now x a same_mail p;
    runs = p.0.runs;
    lanes = same_lanes_taken;
    stops = nothing_stops;
  }

  module _ (idle : Bool) (takes : TakesAndCloses x a idle) (b : Exchange) (tick_only : OnlyCore a b) where
    pub out_before_the_tick : Runs a [] b → TurnsOut answers node now x w b w
    out_before_the_tick runs = record {
      sent = [];
      heard = [];
      calls = takes.calls;
      xs = [];
      turn = tick_refused node now x a same_mail idle takes b tick_only;
      runs = tick_refused_runs node now x a same_mail idle takes b runs;
      lanes = lanes_then x a b same_lanes_taken (core_lanes a b tick_only);
      stops = nothing_stops;
    }

    pub out_in_talk : (ticked : Ticked) (c : Exchange) (v : Wired S) → Runs a (Tick node now ticked ∷ []) b → TalksOut answers 16 node now b w c v → TurnsOut answers node now x w c v
    out_in_talk ticked c v ticks p = record {
      sent = p.sent;
      heard = p.heard;
      calls = takes.calls ++ (Tick node now ticked ∷ []) ++ p.calls;
      xs = p.xs;
      turn = TurnUntil.in_talk takes.closes ticked takes.calls (Tick node now ticked ∷ []) p.calls p.sent p.heard
          (items_kept (senders_of x) (side_of x) (side_of a) (side_of c) takes.closes takes.calls (λ k. core_sides b c p.talks.only k ∙ core_sides a b tick_only k) takes.part)
          (closed_still node now x a same_mail idle takes c (only_then a b c tick_only p.talks.only))
          refl p.until
          (λ k. core_mail b c p.talks.only k ∙ core_mail a b tick_only k ∙ same_mail k);
      runs = runs_then x b c (takes.calls ++ (Tick node now ticked ∷ [])) p.calls (runs_then x a b takes.calls (Tick node now ticked ∷ []) takes.runs ticks) p.talks.runs;
      lanes = lanes_then x a c same_lanes_taken (lanes_then a b c (core_lanes a b tick_only) (core_lanes b c p.talks.only));
      stops = p.talks.stops;
    }
