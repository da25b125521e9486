-- An engine is run to its end, through outages.
use Rattle.std.proofs.Common.{◌≡◌, List, [], ◌∷◌, ◌++◌, refl, sym, ap, ◌∙◌, subst, inl, inr, ⊎_elim}
use Rattle.std.specs.Prelude.{ℕ, Bool, false, not, filter, Option, Some, None, IfSome, Result, Ok, Err, IfOk}
use Rattle.futures.specs.declared.task.Poll.{Poll}
use Rattle.futures.specs.declared.task.Poll.TheVariants.{Ready, Pending}
use Rattle.kp_connection.specs.Wire.{Told}
use Rattle.kp_engine.specs.Engine.{IsNew}
use Rattle.kp_engine.specs.Lines.{goes_to, is_given_up, stop_at}
use Rattle.kp_engine.specs.Made.{AreCut, IsCut, anything}
use Rattle.kp_engine.specs.Opening.{MayTurn}
use Rattle.kp_engine.specs.Polls.{IsDone}
use Rattle.kp_engine.specs.Serving.{HasServed}
use Rattle.kp_engine.specs.declared.cluster.ClusterEngine.{ClusterEngine}
use Rattle.kp_engine.specs.declared.engine.Line.{Line}
use Rattle.kp_engine.specs.declared.node_line.NodeLine.{NodeLine}
use Rattle.kp_engine.specs.declared.stop.Cause.{Cause}
use Rattle.kp_engine.specs.declared.stop.Cause.TheVariants.{Io}
use Rattle.kp_engine.specs.declared.stop.Stop.{Stop}
use Rattle.kp_engine.specs.declared.stop.Stop.TheVariants as stop
use Rattle.kp_engine.proofs.CutLemmas.{all_more, cluster_cut, cut_more, polled_by, stopped_cut}
use Rattle.kp_engine.proofs.MadeLemmas.{has_served, new_polled}
use Rattle.kp_lanes.specs.Intake.{lanes_of}
use Rattle.kp_lanes.specs.declared.intake.Intake.{Intake}
use Rattle.kp_rules.specs.Calls.{Call}
use Rattle.kp_rules.specs.Records.{Core}
use Rattle.kp_rules.proofs.ListLemmas.{all_filter}
use Rattle.kp_wire.proofs.ListLemmas.{all_append}
use Rattle.kp_running.specs.Fleet.{FleetOnce, FleetPolls, Heeds, IsGoing, IsLeft, TakesNews, why_after}
use Rattle.kp_running.specs.Over.{IfGivenUp, IsSpent}
use Rattle.kp_running.specs.Running.{GoesThrough, Reaches}
use Rattle.kp_running.specs.declared.fleet.Fleet.{Fleet}
use Rattle.kp_running.specs.declared.keeping.News.{News}
use Rattle.kp_running.specs.declared.keeping.News.TheVariants.{Connected, Dropped, Ended as No_more, Led}
use Rattle.kp_running.specs.declared.over.Over.{Over}
use Rattle.kp_running.specs.declared.over.Over.TheVariants as kinds
use Rattle.kp_running.proofs.FleetLemmas.{once_left, told}
use Rattle.kp_settings.specs.declared.fault.ServiceFault.{ServiceFault}
use Rattle.kp_client.specs.Ends.{EndsAs, HasEnded, MayEnd, WasServed, WasUnserved}
use Rattle.kp_client.specs.Left.{parts_in}
use Rattle.kp_client.specs.Serving.{ending_for, GivesUpFor, GoesOn, IsServing, LostFor, Serves}
use Rattle.kp_client.specs.declared.left.Ended.{Ended}
use Rattle.kp_client.specs.declared.left.Ending.TheVariants.{Done}
use Rattle.kp_client.specs.declared.tended.Tended.{Tended}

pub lost_more : (core : Core) (intake : Intake) (calls more : List Call) (why : Cause) → LostFor core intake calls why → LostFor core intake (calls ++ more) why
lost_more core intake calls more why (inl is) = inl is
lost_more core intake calls more why (inr cut) = inr (cut_more core intake calls more why cut)

-- ---- one poll

module _ (core : Core) (intake : Intake) (calls : List Call) where
  module _ {S : Type 0} where
    -- connections of which some are dropped
    some_cut : (test : NodeLine S → Bool) (old new : List (NodeLine S)) → new ≡ filter test old → AreCut core intake calls old → AreCut core intake calls new
    some_cut test old new is cut =
        subst (AreCut core intake calls) (sym is) (all_filter (λ l. IsCut core intake calls l.line) test old cut)

    -- why the last connection was lost
    why_lost : (node : ℕ) (ls : List (NodeLine S)) (o : Option Stop) (why : Cause) → stop_at node ls ≡ o → AreCut core intake calls ls → LostFor core intake calls why
        → LostFor core intake calls (why_after o why)
    why_lost node ls None why is cut lost = lost
    why_lost node ls (Some stop.Done) why is cut lost = lost
    why_lost node ls (Some (stop.NeedStream cause)) why is cut lost = inr (stopped_cut core intake node calls ls cause cut is)
    why_lost node ls (Some stop.OutOfMemory) why is cut lost = lost

  module _ {S C : Type 0} (moments : C → List ℕ) where
    heeds_cut : (why : Cause) (news : News S) (old : ClusterEngine S C) (result : Result (Unit {0}) Over) (new : ClusterEngine S C) → Heeds moments why news old result new
        → AreCut core intake calls old.lines.items → AreCut core intake calls new.lines.items
    heeds_cut why (Connected node stream) old (Ok done) new h cut =
        subst (AreCut core intake calls) (sym h.lines.all)
        (all_append (λ l. IsCut core intake calls l.line) (filter (λ l. not (is_given_up node l)) old.lines.items) (h.lines.last ∷ [])
        (all_filter (λ l. IsCut core intake calls l.line) (λ l. not (is_given_up node l)) old.lines.items cut)
        (subst (λ (l : Line S). IsCut core intake calls l) (sym h.lines.fresh.line) tt, tt))
    heeds_cut why (Connected node stream) old (Err over) new h cut = subst (AreCut core intake calls) (sym h.0.lines) cut
    heeds_cut why (Led partition node) old result new h cut = subst (AreCut core intake calls) (sym h.0.lines) cut
    heeds_cut why (Dropped node) old result new h cut = some_cut (λ l. not (goes_to node l)) old.lines.items new.lines.items h.0.lines cut
    heeds_cut why No_more old result new h cut = subst (λ (e : ClusterEngine S C). AreCut core intake calls e.lines.items) (sym h.0) cut

module _ {S C K : Type 0} (answers : Told S) (moments : C → List ℕ) where
  module _ (core : Core) (intake : Intake) (calls : List Call) where
    told_cut : (old : Fleet S C K) (result : Result Bool Over) (new : Fleet S C K) → TakesNews moments old result new
        → AreCut core intake calls old.engine.lines.items → AreCut core intake calls new.engine.lines.items
    told_cut old _ _ (TakesNews.lost new node loses) cut =
        some_cut core intake calls (λ l. not (goes_to node l)) old.engine.lines.items new.engine.lines.items loses.drops.lines cut
    told_cut old _ _ (TakesNews.nothing new none same why) cut = subst (λ (e : ClusterEngine S C). AreCut core intake calls e.lines.items) (sym same) cut
    told_cut old _ _ (TakesNews.heeds new news none heeds why) cut = heeds_cut core intake calls moments old.why news old.engine (Ok tt) new.engine heeds cut
    told_cut old _ _ (TakesNews.ends new news over none heeds why) cut = heeds_cut core intake calls moments old.why news old.engine (Err over) new.engine heeds cut

    told_lost : (old : Fleet S C K) (result : Result Bool Over) (new : Fleet S C K) → TakesNews moments old result new
        → AreCut core intake calls old.engine.lines.items → LostFor core intake calls old.why → LostFor core intake calls new.why
    told_lost old _ _ (TakesNews.lost new node loses) cut lost =
        subst (LostFor core intake calls) (sym loses.why) (why_lost core intake calls node old.engine.lines.items (stop_at node old.engine.lines.items) old.why refl cut lost)
    told_lost old _ _ (TakesNews.nothing new none same why) cut lost = subst (LostFor core intake calls) (sym why) lost
    told_lost old _ _ (TakesNews.heeds new news none heeds why) cut lost = subst (LostFor core intake calls) (sym why) lost
    told_lost old _ _ (TakesNews.ends new news over none heeds why) cut lost = subst (LostFor core intake calls) (sym why) lost

  takes_news : (old : Fleet S C K) (result : Result Bool Over) (new : Fleet S C K) → TakesNews moments old result new → GoesOn old new
  takes_news old result new news core intake h =
      let more = told answers moments anything h.polled.first h.calls old result new h.polled.polled news in record {
        calls = h.calls ++ more.0;
        polled = polled_by core intake h.calls more.0 old.engine.exchange new.engine.exchange h.polled more.1;
        cut = all_more core intake h.calls more.0 new.engine.lines.items (told_cut core intake h.calls old result new news h.cut);
        lost = lost_more core intake h.calls more.0 new.why (told_lost core intake h.calls old result new news h.cut h.lost);
      }

  pub once : (old : Fleet S C K) (result : Poll Over) (new : Fleet S C K) → FleetOnce answers moments old result new → GoesOn old new
  once old _ _ (FleetOnce.turned mid new again polled open_still news polls why) core intake h =
      let m = takes_news old (Ok again) mid news core intake h in
      let more = cluster_cut core intake answers moments m.calls mid.engine new.engine polled m.polled m.cut polls in record {
        calls = m.calls ++ more.0;
        polled = more.1;
        cut = more.2;
        lost = lost_more core intake m.calls more.0 new.why (subst (LostFor core intake m.calls) (sym why) m.lost);
      }
  once old _ _ (FleetOnce.ended new over open_still news) core intake h = takes_news old (Err over) new news core intake h
  once old _ _ (FleetOnce.used_up is) core intake h = h

  -- ---- any number of polls

  module _ (limit : K → Option ℕ) (made : K → ℕ) where
    abbrev pub polls : Tended S C K → Poll Over → Tended S C K → Type 0
    polls old polled new = FleetPolls answers moments limit made old.fleet polled new.fleet

    goes : (old : Tended S C K) (between : List (Tended S C K)) (over : Over) (new : Tended S C K) → GoesThrough polls old between over new → GoesOn old.fleet new.fleet
    goes old [] over new p = once old.fleet (Ready over) new.fleet p.once
    goes old (next ∷ rest) over new (p, more) = λ core intake h. goes next rest over new more core intake (once old.fleet Pending next.fleet p.once core intake h)

    leaves : (old : Tended S C K) (between : List (Tended S C K)) (over : Over) (new : Tended S C K) → GoesThrough polls old between over new
        → IsGoing old.fleet → IsLeft (Ready over) new.fleet
    leaves old [] over new p going = once_left answers moments old.fleet (Ready over) new.fleet p.once going
    leaves old (next ∷ rest) over new (p, more) going =
        leaves next rest over new more (once_left answers moments old.fleet Pending next.fleet p.once going)

    keeps : (old : Tended S C K) (between : List (Tended S C K)) (over : Over) (new : Tended S C K) → GoesThrough polls old between over new
        → limit new.fleet.keeping ≡ limit old.fleet.keeping
    keeps old [] over new p = p.same
    keeps old (next ∷ rest) over new (p, more) = keeps next rest over new more ∙ p.same

    spends : (old : Tended S C K) (between : List (Tended S C K)) (over : Over) (new : Tended S C K) → GoesThrough polls old between over new
        → IfGivenUp (Ready over) (IsSpent (limit new.fleet.keeping) (made new.fleet.keeping))
    spends old [] over new p = p.spent
    spends old (next ∷ rest) over new (p, more) = spends next rest over new more

    module _ (o : Option (Tended S C K)) (old : Tended S C K) (over : Over) (new : Tended S C K) (is : o ≡ Some old) where
      reached : IfSome o (λ e. Reaches polls e over new) → Reaches polls old over new
      reached r = subst (λ (p : Option (Tended S C K)). IfSome p (λ e. Reaches polls e over new)) is r

      pub runs_on : IfSome o (λ e. Reaches polls e over new) → GoesOn old.fleet new.fleet
      runs_on r = let reaches = reached r in goes old reaches.between over new reaches.goes

      pub runs_to : IfSome o (λ e. Reaches polls e over new) → IsGoing old.fleet → IsLeft (Ready over) new.fleet
      runs_to r = let reaches = reached r in leaves old reaches.between over new reaches.goes

      -- it is given up only where as many were made as it may make at first
      pub runs_out : IfSome o (λ e. Reaches polls e over new) → IfGivenUp (Ready over) (IsSpent (limit old.fleet.keeping) (made new.fleet.keeping))
      runs_out r =
          let reaches = reached r in
          subst (λ (l : Option ℕ). IfGivenUp (Ready over) (IsSpent l (made new.fleet.keeping))) (keeps old reaches.between over new reaches.goes)
          (spends old reaches.between over new reaches.goes)

-- ---- its end

module _ {S C K : Type 0} where
  pub done_left : (over : Over) (fleet : Fleet S C K) → ending_for over ≡ Done → IsLeft (Ready over) fleet → IsDone fleet.engine.exchange
  done_left kinds.Done fleet is left = left
  done_left (kinds.GaveUp cause) fleet is left = absurd cc
  done_left kinds.Spent fleet is left = absurd cc
  done_left kinds.OutOfMemory fleet is left = absurd cc

  pub gave_up_for : (over : Over) (fleet : Fleet S C K) → IsLeft (Ready over) fleet → GivesUpFor (ending_for over) fleet
  gave_up_for kinds.Done fleet left = tt
  gave_up_for (kinds.GaveUp cause) fleet left = left
  gave_up_for kinds.Spent fleet left = left
  gave_up_for kinds.OutOfMemory fleet left = tt

  pub new_serves : (core : Core) (intake : Intake) (fleet : Fleet S C K) → MayTurn core intake → IsNew core intake false fleet.engine.exchange
      → fleet.engine.lines.items ≡ [] → fleet.why ≡ Io → Serves core intake fleet
  new_serves core intake fleet may is_new none why = record {
    calls = [];
    polled = new_polled core intake false fleet.engine.exchange may is_new;
    cut = subst (AreCut core intake []) (sym none) tt;
    lost = inl why;
  }

  pub serving_on : (old new : Fleet S C K) → GoesOn old new → IsServing old → IsServing new
  serving_on old new goes h = record { core = h.core; intake = h.intake; serves = goes h.core h.intake h.serves }

  -- What was served of an engine that was just made.
  pub ended_anew : (core : Core) (intake : Intake) (fleet : Fleet S C K) (result : Result Ended ServiceFault) → MayTurn core intake → IsNew core intake false fleet.engine.exchange
      → fleet.engine.lines.items ≡ [] → fleet.why ≡ Io → IfOk result (EndsAs fleet) → IfOk result (HasEnded core intake)
  ended_anew core intake fleet (Ok ended) may is_new none why h = h core intake (new_serves core intake fleet may is_new none why)
  ended_anew core intake fleet (Err fault) may is_new none why h = tt

pub may_end : (over : Over) (limit : Option ℕ) (made : ℕ) → IfGivenUp (Ready over) (IsSpent limit made) → MayEnd limit (ending_for over) made
may_end kinds.Done limit made h = tt
may_end (kinds.GaveUp cause) limit made h = h
may_end kinds.Spent limit made h = tt
may_end kinds.OutOfMemory limit made h = tt

-- The lanes stay.
pub same_lanes : (core : Core) (intake : Intake) (ended : Ended) → HasEnded core intake ended → lanes_of (parts_in ended).intake ≡ lanes_of intake
same_lanes core intake ended h = ⊎_elim
    (λ (s : WasServed core intake h.calls ended).
    let e = s.engine in
    let served : HasServed core intake h.calls e.last = has_served core intake h.calls e.last e.polled in
    s.looks.lanes ∙ ap lanes_of e.apart.intake ∙ served.served.lanes.lanes ∙ ap lanes_of served.is_new.intake)
    (λ (n : WasUnserved core intake h.calls ended). n.looks.lanes)
    h.how

pub still_lanes : (core : Core) (intake : Intake) (result : Result Ended ServiceFault) → IfOk result (HasEnded core intake)
    → IfOk result (λ ended. lanes_of (parts_in ended).intake ≡ lanes_of intake)
still_lanes core intake (Ok ended) h = same_lanes core intake ended h
still_lanes core intake (Err fault) h = tt

pub unserved_ended : (core : Core) (intake : Intake) (ended : Ended) → WasUnserved core intake [] ended → HasEnded core intake ended
unserved_ended core intake ended h = record { calls = []; how = inr h }

pub still_ended : (core k : Core) (intake t : Intake) (ended : Ended) → HasEnded k t ended → k ≡ core → t ≡ intake → HasEnded core intake ended
still_ended core k intake t ended h same_core same_intake =
    subst (λ (s : Core). HasEnded s intake ended) same_core (subst (λ (u : Intake). HasEnded k u ended) same_intake h)
