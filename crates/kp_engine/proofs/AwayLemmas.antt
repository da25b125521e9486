-- A turn with no connection, of its parts.
use Rattle.std.proofs.Common.{◌≡◌, ℕ, Bool, true, false, List, [], ◌∷◌, ◌++◌, Some, None, refl, arith}
use Rattle.std.specs.Prelude.{IsTrue, flat_map}
use Rattle.futures.specs.declared.task.Poll.TheVariants.{Ready}
use Rattle.kp_rules.specs.Calls.{Call, Append, Close, Disconnect, End, Fetch, Flush, Lead, Reply, Request, Tick}
use Rattle.kp_rules.specs.declared.ticked.Ticked.{Ticked}
use Rattle.kp_engine.specs.Away.{EndsAway, MakesTurnAway, TurnsAway, cut_if_late, stop_away, talking}
use Rattle.kp_engine.specs.Exchange.{OnlyCore, Runs, SameClosed, SameLanes, SameMail, mail_of, senders_of, side_of}
use Rattle.kp_engine.specs.Polls.{FinishesAll, FinishesUntil, GoesOnBehind, IsUndone, is_cut}
use Rattle.kp_engine.specs.Serving.{asked_by, replied_by}
use Rattle.kp_engine.specs.Steps.{OnlyMails, TakesAndCloses, TakesUntil}
use Rattle.kp_engine.specs.Turn.{RepliesPart, RequestsPart}
use Rattle.kp_engine.specs.declared.exchange.Exchange.{Exchange}
use Rattle.kp_engine.specs.declared.stop.Cause.{Cause}
use Rattle.kp_engine.specs.declared.stop.Cause.TheVariants.{TimedOut}
use Rattle.kp_engine.specs.declared.stop.Stop.{Stop}
use Rattle.kp_engine.specs.declared.stop.Stop.TheVariants.{Done, NeedStream, OutOfMemory}
use Rattle.kp_engine.proofs.AgreementLemmas.{none_some}
use Rattle.kp_engine.proofs.FrameLemmas.{around}
use Rattle.kp_engine.proofs.RunLemmas.{runs_none}
use Rattle.kp_engine.proofs.ServingLemmas.{items_none, items_until_none, reports_none, reports_until_none}
use Rattle.kp_engine.proofs.TalkLemmas.{only_same}
use Rattle.kp_engine.proofs.TurnLemmas.{core_lanes, ends_done, items_refused, lanes_all, lanes_then, runs_all, tick_refused, tick_refused_runs, undone_turned, until_reports, whole}

none_asked : (node now : ℕ) → RequestsPart node now [] []
none_asked node now = record { last = None; few = omega arith; none = λ answer some. absurd (none_some some); made = refl }

none_heard : (now : ℕ) → RepliesPart now [] None []
none_heard now = record { before = []; are_heard = refl; few = omega arith; going = tt; made = refl }

-- it is cut just where a request has waited too long
late_cut : (late : Bool) → (IsTrue late → cut_if_late late ≡ Some TimedOut) × (cut_if_late late ≡ Some TimedOut → IsTrue late)
late_cut true = (λ so. refl, λ is. refl)
late_cut false = (λ so. absurd (never so), λ is. absurd (none_some is))
  where
    never : IsTrue false → ⊥
    never so = cc

-- memory was refused before the tick
module _ (node now : ℕ) (cause : Cause) (x a : Exchange) (same_mail : SameMail x a) (same_lanes : SameLanes x a) where
  pub away_in_items : TakesUntil x a × SameClosed x a → (calls : List Call) × EndsAway node now cause x calls OutOfMemory a
  away_in_items p = (
    p.0.calls,
    record {
      turn = items_refused node now x a same_mail p;
      runs = p.0.runs;
      lanes = same_lanes;
      silent = items_until_none talking (λ i answer. refl) refl (side_of x) (side_of a) p.0.calls p.0.part;
    },
  )

  module _ (idle : Bool) (takes : TakesAndCloses x a idle) (b : Exchange) (tick_only : OnlyCore a b) where
    items_silent : flat_map talking takes.calls ≡ []
    items_silent = items_none talking (λ i answer. refl) refl refl (senders_of x) (side_of x) (side_of a) takes.closes takes.calls takes.part

    pub away_before_the_tick : Runs a [] b → (calls : List Call) × EndsAway node now cause x calls OutOfMemory b
    away_before_the_tick runs = (
      takes.calls,
      record {
        turn = tick_refused node now x a same_mail idle takes b tick_only;
        runs = tick_refused_runs node now x a same_mail idle takes b runs;
        lanes = lanes_then x a b same_lanes (core_lanes a b tick_only);
        silent = items_silent;
      },
    )

    -- the tick, and behind it the last part
    module _ (ticked : Ticked) (ticks : Runs a (Tick node now ticked ∷ []) b) (d : Exchange) (mails : OnlyMails b d) where
      runs_with : (reports : List Call) → Runs b reports d → Runs x (takes.calls ++ (Tick node now ticked ∷ []) ++ ([] ++ []) ++ reports) d
      runs_with reports runs =
          runs_all node now x a b b d idle ticked takes same_mail same_lanes ticks tick_only (only_same b) mails ([] ++ []) reports (runs_none b b refl refl) runs

      pub turned_away : (done : Bool) → (f : FinishesAll node now (cut_if_late ticked.reconnect) b idle done d)
          → TurnsAway node now x (takes.calls ++ (Tick node now ticked ∷ []) ++ ([] ++ []) ++ f.calls) d
      turned_away done f = record {
        late = ticked.reconnect;
        turn = whole node now x a b b d idle ticked takes same_mail same_lanes ticks tick_only (only_same b) mails (cut_if_late ticked.reconnect) [] [] None [] [] done
            (none_asked node now) (none_heard now) (late_cut ticked.reconnect) (λ is. refl) f;
        runs = runs_with f.calls f.runs;
        lanes = lanes_all node now x a b b d idle ticked takes same_mail same_lanes ticks tick_only (only_same b) mails;
        silent = around talking takes.calls (Tick node now ticked ∷ []) ([] ++ []) f.calls items_silent refl
            (reports_none talking (λ i answer. refl) (senders_of b) node now (is_cut (cut_if_late ticked.reconnect)) (mail_of b) (mail_of d) f.calls refl f.part);
      }

      -- what it answers, by its end
      pub ended_away : (done : Bool) → FinishesAll node now (cut_if_late ticked.reconnect) b idle done d → (calls : List Call) × EndsAway node now cause x calls (stop_away done cause) d
      ended_away true f = (
        _,
        (
          ends_done node now x a b b d idle ticked takes same_mail same_lanes ticks tick_only (only_same b) mails (cut_if_late ticked.reconnect) f,
          turned_away true f,
        ),
      )
      ended_away false f = (_, (refl, turned_away false f))

      -- who needs a stream still is not done
      pub undone_away : (done : Bool) → FinishesAll node now (cut_if_late ticked.reconnect) b idle done d → GoesOnBehind (Ready (stop_away done cause)) → IsUndone x d
      undone_away true f goes = absurd goes
      undone_away false f goes = undone_turned node now x a b b d idle ticked takes same_mail same_lanes ticks tick_only (only_same b) mails false (cut_if_late ticked.reconnect) f refl

      pub away_in_reports : FinishesUntil node now (cut_if_late ticked.reconnect) b d → (calls : List Call) × EndsAway node now cause x calls OutOfMemory d
      away_in_reports f = (
        takes.calls ++ (Tick node now ticked ∷ []) ++ ([] ++ []) ++ f.calls,
        record {
          turn = until_reports node now x a b b d idle ticked takes same_mail same_lanes ticks tick_only (only_same b) mails (is_cut (cut_if_late ticked.reconnect)) [] [] None [] [] f.calls
              (none_asked node now) (none_heard now) f.part;
          runs = runs_with f.calls f.runs;
          lanes = lanes_all node now x a b b d idle ticked takes same_mail same_lanes ticks tick_only (only_same b) mails;
          silent = around talking takes.calls (Tick node now ticked ∷ []) ([] ++ []) f.calls items_silent refl
              (reports_until_none talking (λ i answer. refl) node now (is_cut (cut_if_late ticked.reconnect)) (mail_of b) (mail_of d) f.calls refl f.part);
        },
      )

-- ---- what goes over the connection

-- where no request is asked for and no reply heard, nothing goes
nothing_goes : (calls : List Call) → flat_map talking calls ≡ [] → (flat_map asked_by calls ≡ []) × (flat_map replied_by calls ≡ [])
nothing_goes [] none = (refl, refl)
nothing_goes (Append item answer ∷ calls) none = nothing_goes calls none
nothing_goes (Request node now answer ∷ calls) none = absurd (some none)
  where
    some : Request node now answer ∷ flat_map talking calls ≡ [] → ⊥
    some is = cc
nothing_goes (Reply now content answer ∷ calls) none = absurd (some none)
  where
    some : Reply now content answer ∷ flat_map talking calls ≡ [] → ⊥
    some is = cc
nothing_goes (Tick node now answer ∷ calls) none = nothing_goes calls none
nothing_goes (Disconnect node now ∷ calls) none = nothing_goes calls none
nothing_goes (Close ∷ calls) none = nothing_goes calls none
nothing_goes (Flush ∷ calls) none = nothing_goes calls none
nothing_goes (End reports ∷ calls) none = nothing_goes calls none
nothing_goes (Fetch sender report ∷ calls) none = nothing_goes calls none
nothing_goes (Lead partition leader now ∷ calls) none = nothing_goes calls none

away_silent : (node now : ℕ) (cause : Cause) (x : Exchange) (calls : List Call) (stop : Stop) (y : Exchange) → EndsAway node now cause x calls stop y → flat_map talking calls ≡ []
away_silent node now cause x calls Done y (done, t) = t.silent
away_silent node now cause x calls (NeedStream still) y (same, t) = t.silent
away_silent node now cause x calls OutOfMemory y t = t.silent

pub none_goes : (cause : Cause) (x : Exchange) (stop : Stop) (y : Exchange) → (turn : MakesTurnAway cause x stop y) → (flat_map asked_by turn.calls ≡ []) × (flat_map replied_by turn.calls ≡ [])
none_goes cause x stop y turn = nothing_goes turn.calls (away_silent _ _ _ _ _ _ _ turn.turns)
