-- What connections were given up for.
use Rattle.std.proofs.Common.{◌≡◌, ℕ, List, [], ◌∷◌, ◌++◌, Option, Some, None, refl, sym, ap, ◌∙◌, subst, append_assoc, append-nil}
use Rattle.std.specs.Prelude.{Result, Ok, Err, Contains, find}
use Rattle.std.proofs.lemmas.List.Elements.{All-contains, All-from_recursion}
use Rattle.std.specs.declared.alloc.AllocError.{AllocError}
use Rattle.futures.specs.declared.task.Poll.{Poll}
use Rattle.kp_connection.specs.Answers.{Answer}
use Rattle.kp_connection.specs.Wire.{Told, Wired}
use Rattle.kp_lanes.specs.declared.intake.Intake.{Intake}
use Rattle.kp_rules.specs.Calls.{Call}
use Rattle.kp_rules.specs.Records.{Core}
use Rattle.kp_rules.specs.Tick.{has_timed_out}
use Rattle.kp_rules.proofs.ListLemmas.{found}
use Rattle.kp_engine.specs.Closing.{Polled}
use Rattle.kp_engine.specs.Cluster.{PollsCluster}
use Rattle.kp_engine.specs.Engine.{stop_in}
use Rattle.kp_engine.specs.Exchange.{with_strays}
use Rattle.kp_engine.specs.Lines.{RoundOver, RoundsEach, is_given_up, stop_at}
use Rattle.kp_engine.specs.Made.{AreCut, IsCut, WasCut, WasPolled, anything}
use Rattle.kp_engine.specs.Rounds.{IsCut as IsCutSo, Rounds}
use Rattle.kp_engine.specs.Window.{most_requests}
use Rattle.kp_engine.specs.declared.cluster.ClusterEngine.{ClusterEngine}
use Rattle.kp_engine.specs.declared.engine.Line.{Line}
use Rattle.kp_engine.specs.declared.engine.Line.TheVariants.{Open, Stopped}
use Rattle.kp_engine.specs.declared.exchange.Exchange.{Exchange}
use Rattle.kp_engine.specs.declared.node_line.NodeLine.{NodeLine}
use Rattle.kp_engine.specs.declared.stop.Cause.{Cause}
use Rattle.kp_engine.specs.declared.stop.Stop.{Stop}
use Rattle.kp_engine.specs.declared.stop.Stop.TheVariants.{Done, NeedStream, OutOfMemory}
use Rattle.kp_engine.proofs.MadeLemmas.{polled_away}
use Rattle.kp_engine.proofs.RoundLemmas.{made_behind, round_made}
use Rattle.kp_engine.proofs.StreamlessLemmas.{no_wire, talks_cut_so, talks_on_so}

module _ (core : Core) (intake : Intake) where
  -- ---- it stays so

  pub cut_more : (calls more : List Call) (cause : Cause) → WasCut core intake calls cause → WasCut core intake (calls ++ more) cause
  cut_more calls more cause c = record {
    earlier = c.earlier;
    later = c.later ++ more;
    among = ap (λ (cs : List Call). cs ++ more) c.among ∙ append_assoc c.earlier c.later more;
    x = c.x;
    polled = c.polled;
    node = c.node;
    now = c.now;
    before = c.before;
    most = c.most;
    strays = c.strays;
    its = c.its;
    xs = c.xs;
    y = c.y;
    after = c.after;
    cut = c.cut;
  }

  -- ---- polled on

  -- By some calls more it was polled on to this.
  abbrev pub Goes : List Call → Exchange → (List Call → Type 0) → Type 0
  Goes calls y P = (more : List Call) × WasPolled core intake (calls ++ more) y × P (calls ++ more)

  pub polled_by : (calls its : List Call) (x y : Exchange) (w : WasPolled core intake calls x) → Polled anything w.first (calls ++ its) y → WasPolled core intake (calls ++ its) y
  polled_by calls its x y w p = record { may_turn = w.may_turn; keeps = w.keeps; first = w.first; is_new = w.is_new; polled = p }

  stays : (calls : List Call) (x y : Exchange) → y ≡ x → WasPolled core intake calls x → WasPolled core intake (calls ++ []) y
  stays calls x y same w = subst (λ (cs : List Call). WasPolled core intake cs y) (sym (append-nil calls)) (subst (WasPolled core intake calls) (sym same) w)

  module _ {S : Type 0} where
    pub line_more : (calls more : List Call) (line : Line S) → IsCut core intake calls line → IsCut core intake (calls ++ more) line
    line_more calls more (Open wire) c = tt
    line_more calls more (Stopped Done) c = tt
    line_more calls more (Stopped (NeedStream cause)) c = cut_more calls more cause c
    line_more calls more (Stopped OutOfMemory) c = tt

    pub all_more : (calls more : List Call) (ls : List (NodeLine S)) → AreCut core intake calls ls → AreCut core intake (calls ++ more) ls
    all_more calls more [] c = tt
    all_more calls more (l ∷ ls) c = (line_more calls more l.line c.0, all_more calls more ls c.1)

    -- ---- rounds

    module _ (answers : Told S) where
      cut_so : (most node now : ℕ) (x : Exchange) (w : Wired S) (calls : List Call) (xs : List Answer) (cause : Cause) (y : Exchange) (v : Wired S) → IsCutSo answers most node now x w calls xs cause y v
          → IsCutSo anything most node now x (no_wire w) calls xs cause y (no_wire v)
      cut_so most node now x w _ _ _ _ _ (IsCutSo.by_talk cause y v talks) = IsCutSo.by_talk cause y (no_wire v) (talks_cut_so answers most node now (has_timed_out node now x.core) x w cause y v talks)
      cut_so most node now x w _ _ _ _ _ (IsCutSo.by_strays y v on_time talks many) = IsCutSo.by_strays y (no_wire v) on_time (talks_on_so answers most node now x w y v talks) many

      round_cut : (most node now strays : ℕ) (calls : List Call) (x : Exchange) (w : Wired S) (its : List Call) (xs : List Answer) (y : Exchange) (left : Line S) → WasPolled core intake calls x
          → Rounds answers most node now (with_strays strays x) w its xs y left → IsCut core intake (calls ++ its) left
      round_cut most node now strays calls x w _ _ _ _ p (Rounds.goes_on y v on_time talks few) = tt
      round_cut most node now strays calls x w _ _ _ _ p (Rounds.is_cut its xs after y cause v cut drops) = record {
        earlier = calls;
        later = _;
        among = refl;
        x = x;
        polled = p;
        node = node;
        now = now;
        before = no_wire w;
        most = most;
        strays = strays;
        its = its;
        xs = xs;
        y = after;
        after = no_wire v;
        cut = cut_so most node now (with_strays strays x) w its xs cause after v cut;
      }
      round_cut most node now strays calls x w _ _ _ _ p (Rounds.no_talk y v talks) = tt
      round_cut most node now strays calls x w _ _ _ _ p (Rounds.no_drop its xs after y cause v cut none) = tt

      over_cut : (l : NodeLine S) (now : ℕ) (calls : List Call) (line : Line S) (x : Exchange) (result : Result (Unit {0}) AllocError) (y : Exchange) (left : Line S) → WasPolled core intake calls x
          → IsCut core intake calls line → RoundOver answers l now line x result y left → Goes calls y (λ cs. IsCut core intake cs left)
      over_cut l now calls (Open wire) x result y left p c r =
          let most = most_requests l.window l.node x.core in
          let made = round_made answers most l.node now (with_strays l.strays x) wire r.0.calls r.0.told y left r.0.round in (
            r.0.calls,
            polled_by calls r.0.calls x y p (made_behind anything l.strays p.first x y calls r.0.calls p.polled made),
            round_cut most l.node now l.strays calls x wire r.0.calls r.0.told y left p r.0.round,
          )
      over_cut l now calls (Stopped stop) x result y left p c r =
          ([], stays calls x y r.0 p, subst (IsCut core intake (calls ++ [])) (sym r.1) (line_more calls [] (Stopped stop) c))

      each_cut : (now : ℕ) (calls : List Call) (x y : Exchange) (ls ms : List (NodeLine S)) (result : Result (Unit {0}) AllocError) → WasPolled core intake calls x
          → AreCut core intake calls ls → RoundsEach answers now x ls result y ms → Goes calls y (λ cs. AreCut core intake cs ms)
      each_cut now calls x _ _ _ _ p c (RoundsEach.each_had_one _) = ([], stays calls x x refl p, tt)
      each_cut now calls x _ _ _ _ p c (RoundsEach.goes_on _ y z l m ls ms last line rest) =
          let first = over_cut l now calls l.line x (Ok tt) y m.line p c.0 line.round in
          let others = each_cut now (calls ++ first.0) y z ls ms last first.1 (all_more calls first.0 ls c.1) rest in
          let all : List Call → Type 0 = λ cs. WasPolled core intake cs z × (IsCut core intake cs m.line × AreCut core intake cs ms) in
          let moved = subst all (append_assoc calls first.0 others.0) (others.1, (line_more (calls ++ first.0) others.0 m.line first.2, others.2)) in
          (first.0 ++ others.0, moved.0, moved.1)
      each_cut now calls x _ _ _ _ p c (RoundsEach.ends _ y l m ls refused line) =
          let first = over_cut l now calls l.line x (Err refused) y m.line p c.0 line.round in
          (first.0, first.1, (first.2, all_more calls first.0 ls c.1))

      -- a poll over several
      pub cluster_cut : {C : Type 0} (moments : C → List ℕ) (calls : List Call) (old new : ClusterEngine S C) (result : Poll Stop) → WasPolled core intake calls old.exchange
          → AreCut core intake calls old.lines.items → PollsCluster answers moments old result new → Goes calls new.exchange (λ cs. AreCut core intake cs new.lines.items)
      cluster_cut moments calls old _ _ p c (PollsCluster.was_over stop is) = ([], stays calls old.exchange old.exchange refl p, all_more calls [] old.lines.items c)
      cluster_cut moments calls old _ _ p c (PollsCluster.is_over new stop open_still had ends lines over) = (
        had.turn.calls,
        polled_away core intake calls old.exchange p _ stop new.exchange had.turn,
        subst (AreCut core intake (calls ++ had.turn.calls)) (sym lines) (all_more calls had.turn.calls old.lines.items c),
      )
      cluster_cut moments calls old _ _ p c (PollsCluster.goes_on new stop mid result open_still had goes rounds over) =
          let turned = polled_away core intake calls old.exchange p _ stop mid had.turn in
          let others = each_cut had.turn.now (calls ++ had.turn.calls) mid new.exchange old.lines.items new.lines.items result turned (all_more calls had.turn.calls old.lines.items c) rounds in
          let all : List Call → Type 0 = λ cs. WasPolled core intake cs new.exchange × AreCut core intake cs new.lines.items in
          let moved = subst all (append_assoc calls had.turn.calls others.0) (others.1, others.2) in
          (had.turn.calls ++ others.0, moved.0, moved.1)

    -- ---- one that was found

    pub stopped_cut : (node : ℕ) (calls : List Call) (ls : List (NodeLine S)) (cause : Cause) → AreCut core intake calls ls → stop_at node ls ≡ Some (NeedStream cause)
        → WasCut core intake calls cause
    stopped_cut node calls ls cause c is = at_found (find (is_given_up node) ls) refl is
      where
        its : (line : Line S) → stop_in line ≡ Some (NeedStream cause) → IsCut core intake calls line → WasCut core intake calls cause
        its (Open wire) stops cut = absurd (let e : None ≡ Some (NeedStream cause) = stops in cc)
        its (Stopped stop) stops cut = let e : stop ≡ NeedStream cause = cc in subst (λ (s : Stop). IsCut {S = S} core intake calls (Stopped s)) e cut

        one_of : {l : NodeLine S} (ms : List (NodeLine S)) → Contains ms l → AreCut core intake calls ms → IsCut core intake calls l.line
        one_of {l} ms among all = All-contains (λ m. IsCut core intake calls m.line) ms l (All-from_recursion (λ m. IsCut core intake calls m.line) ms all) among

        at_found : (o : Option (NodeLine S)) → find (is_given_up node) ls ≡ o → (elim o [ None ↦ None | Some l ↦ stop_in l.line ]) ≡ Some (NeedStream cause) → WasCut core intake calls cause
        at_found None at stops = absurd (let e : None ≡ Some (NeedStream cause) = stops in cc)
        at_found (Some l) at stops = its l.line stops (one_of ls (found (is_given_up node) ls l at).0 c)
