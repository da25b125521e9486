-- Polls over several connections.
use Rattle.std.proofs.Common.{◌≡◌, inl, inr, ℕ, Bool, List, [], ◌∷◌, ◌++◌, Option, Some, None, Ok, Err, refl, sym, ap, ◌∙◌, subst, append_assoc, append-nil}
use Rattle.std.specs.Prelude.{Result}
use Rattle.std.specs.List.{AllByRecursion}
use Rattle.futures.specs.Task.{Covers, Hears}
use Rattle.futures.specs.declared.task.Poll.{Poll}
use Rattle.futures.specs.declared.task.Poll.TheVariants.{Ready, Pending}
use Rattle.futures.specs.declared.task.context.Context.{Context}
use Rattle.kp_connection.specs.Wire.{Told}
use Rattle.kp_engine.specs.Closing.{Polled}
use Rattle.kp_engine.specs.Cluster.{DropsNow, PollsCluster}
use Rattle.kp_engine.specs.Engine.{IfOpen}
use Rattle.kp_engine.specs.Lines.{node_lost, stop_at}
use Rattle.kp_engine.specs.Polls.{IsDone}
use Rattle.kp_engine.specs.declared.cluster.ClusterEngine.{ClusterEngine}
use Rattle.kp_engine.specs.declared.engine.Line.{Line}
use Rattle.kp_engine.specs.declared.engine.Line.TheVariants.{Open, Stopped}
use Rattle.kp_engine.specs.declared.exchange.Exchange.{Exchange}
use Rattle.kp_engine.specs.declared.node_line.NodeLine.{NodeLine}
use Rattle.kp_engine.specs.declared.stop.Cause.{Cause}
use Rattle.kp_engine.specs.declared.stop.Stop.{Stop}
use Rattle.kp_engine.specs.declared.stop.Stop.TheVariants as stop
use Rattle.kp_engine.proofs.ClosingLemmas.{polls_then}
use Rattle.kp_engine.proofs.LineLemmas.{cluster_polled}
use Rattle.kp_engine.proofs.RunLemmas.{one_lived}
use Rattle.kp_rules.specs.Calls.{Call, Disconnect, Lead}
use Rattle.kp_running.specs.Engines.{read_by}
use Rattle.kp_running.specs.Fleet.{FleetOnce, Heeds, IsGoing, IsLeft, TakesNews, read_by_each, why_after}
use Rattle.kp_running.specs.Over.{IfEnded, IfGaveUp, IfGivenUp, over_of}
use Rattle.kp_running.specs.declared.fleet.Fleet.{Fleet}
use Rattle.kp_running.specs.declared.keeping.News.{News}
use Rattle.kp_running.specs.declared.keeping.News.TheVariants.{Connected, Dropped, Ended, Led}
use Rattle.kp_running.specs.declared.over.Over.{Over}
use Rattle.kp_running.specs.declared.over.Over.TheVariants.{Done, GaveUp, OutOfMemory, Spent}

-- ---- what a pending poll waits for

module _ {S : Type 0} (reader : S → ℕ → Type 0) (cx : Context) where
  abbrev pub Wakes : Line S → Type 0
  Wakes line = IfOpen line (λ wire. Covers cx (reader wire.stream))

  one_hears : (line : Line S) → Wakes line → (s : ℕ) → read_by reader line s → Hears cx s
  one_hears (Open wire) covers s reads = covers.1 s reads
  one_hears (Stopped stop) covers s reads = absurd reads

  pub each_hears : (ls : List (NodeLine S)) → AllByRecursion (λ l. Wakes l.line) ls → (s : ℕ) → read_by_each reader ls s → Hears cx s
  each_hears [] all s reads = absurd reads
  each_hears (l ∷ ls) all s (inl reads) = one_hears l.line all.0 s reads
  each_hears (l ∷ ls) all s (inr reads) = each_hears ls all.1 s reads

-- ---- when it gives up

-- A poll of the engine gives up none.
pub none_given_up : (P : Type 0) (polled : Poll Stop) → IfGivenUp (over_of polled) P
none_given_up P Pending = tt
none_given_up P (Ready stop.Done) = tt
none_given_up P (Ready (stop.NeedStream cause)) = tt
none_given_up P (Ready stop.OutOfMemory) = tt

-- It gives up only for such news, of which this is known.
pub gave_up_for : {S : Type 0} (P : Type 0) (news : News S) (over : Over) → IfEnded (Ready news) P → IfGaveUp over (news ≡ Ended) → IfGaveUp over P
gave_up_for P news Done known is = tt
gave_up_for P news (GaveUp cause) known is = subst (λ (n : News _). IfEnded (Ready n) P) is known
gave_up_for P news Spent known is = tt
gave_up_for P news OutOfMemory known is = tt

-- ---- they are polls, also where something else is said of streams

module _ {T : Type 0} (other : Told T) (first : Exchange) where
  still : (calls : List Call) (x y : Exchange) → Polled other first calls x → y ≡ x → (more : List Call) × Polled other first (calls ++ more) y
  still calls x y p same =
      ([], subst (λ (z : Exchange). Polled other first (calls ++ []) z) (sym same) (subst (λ (cs : List Call). Polled other first cs x) (sym (append-nil calls)) p))

  module _ {S C : Type 0} (moments : C → List ℕ) where
    dropped : (calls : List Call) (node : ℕ) (old new : ClusterEngine S C) → Polled other first calls old.exchange → DropsNow moments node old new
        → (more : List Call) × Polled other first (calls ++ more) new.exchange
    dropped calls node old new p drops =
        let its : List Call = Disconnect node drops.now ∷ [] in (
          its,
          Polled.talked old.exchange new.exchange calls its _ p (tt, tt) (one_lived old.exchange.core new.exchange.core (Disconnect node drops.now) drops.step) (tt, tt) drops.only,
        )

    heeded : (calls : List Call) (why : Cause) (news : News S) (old : ClusterEngine S C) (result : Result (Unit {0}) Over) (new : ClusterEngine S C)
        → Polled other first calls old.exchange → Heeds moments why news old result new → (more : List Call) × Polled other first (calls ++ more) new.exchange
    heeded calls why (Connected node stream) old (Ok done) new p h = still calls old.exchange new.exchange p h.exchange
    heeded calls why (Connected node stream) old (Err over) new p h = still calls old.exchange new.exchange p h.0.exchange
    heeded calls why (Led partition node) old result new p h =
        (Lead partition node h.0.now ∷ [], Polled.led old.exchange new.exchange calls partition node h.0.now p h.0.step h.0.only)
    heeded calls why (Dropped node) old result new p h = dropped calls node old new p h.0
    heeded calls why Ended old result new p h = still calls old.exchange new.exchange p (ap (λ (e : ClusterEngine S C). e.exchange) h.0)

-- ---- what is new stops no engine

not_over : {o : Option Stop} {s : Stop} → o ≡ None → o ≡ Some s → ⊥
not_over none some = cc

module _ {S C : Type 0} (moments : C → List ℕ) where
  heeds_going : (why : Cause) (news : News S) (old : ClusterEngine S C) (result : Result (Unit {0}) Over) (new : ClusterEngine S C) → Heeds moments why news old result new → new.over ≡ old.over
  heeds_going why (Connected node stream) old (Ok done) new h = h.over
  heeds_going why (Connected node stream) old (Err over) new h = h.0.over
  heeds_going why (Led partition node) old result new h = h.0.over
  heeds_going why (Dropped node) old result new h = h.0.over
  heeds_going why Ended old result new h = ap (λ (e : ClusterEngine S C). e.over) h.0

module _ {S C K : Type 0} (answers : Told S) (moments : C → List ℕ) where
  module _ {T : Type 0} (other : Told T) (first : Exchange) where
    pub told : (calls : List Call) (old : Fleet S C K) (result : Result Bool Over) (new : Fleet S C K)
        → Polled other first calls old.engine.exchange → TakesNews moments old result new → (more : List Call) × Polled other first (calls ++ more) new.engine.exchange
    told calls old _ _ p (TakesNews.lost new node loses) = dropped other first moments calls node old.engine new.engine p loses.drops
    told calls old _ _ p (TakesNews.nothing new none same why) = still other first calls old.engine.exchange new.engine.exchange p (ap (λ (e : ClusterEngine S C). e.exchange) same)
    told calls old _ _ p (TakesNews.heeds new news none heeds why) = heeded other first moments calls old.why news old.engine (Ok tt) new.engine p heeds
    told calls old _ _ p (TakesNews.ends new news over none heeds why) = heeded other first moments calls old.why news old.engine (Err over) new.engine p heeds

    pub fleet_polled : (calls : List Call) (old : Fleet S C K) (result : Poll Over) (new : Fleet S C K) → Polled other first calls old.engine.exchange
        → FleetOnce answers moments old result new → (more : List Call) × Polled other first (calls ++ more) new.engine.exchange
    fleet_polled calls old _ _ p (FleetOnce.turned mid new again polled open_still news polls why) =
        let before = told calls old (Ok again) mid p news in
        let its = cluster_polled answers other moments mid.engine new.engine polled polls in
        let all : Polled other first ((calls ++ before.0) ++ its.0) new.engine.exchange = polls_then other first mid.engine.exchange new.engine.exchange (calls ++ before.0) its.0 before.1 its.1 in
        (before.0 ++ its.0, subst (λ (cs : List Call). Polled other first cs new.engine.exchange) (append_assoc calls before.0 its.0) all)
    fleet_polled calls old _ _ p (FleetOnce.ended new over open_still news) = told calls old (Err over) new p news
    fleet_polled calls old _ _ p (FleetOnce.used_up is) = still other first calls old.engine.exchange old.engine.exchange p refl

  -- ---- how it is left

  told_going : (old : Fleet S C K) (result : Result Bool Over) (new : Fleet S C K) → TakesNews moments old result new → new.engine.over ≡ old.engine.over
  told_going old _ _ (TakesNews.lost new node loses) = loses.drops.over
  told_going old _ _ (TakesNews.nothing new none same why) = ap (λ (e : ClusterEngine S C). e.over) same
  told_going old _ _ (TakesNews.heeds new news none heeds why) = heeds_going moments old.why news old.engine (Ok tt) new.engine heeds
  told_going old _ _ (TakesNews.ends new news over none heeds why) = heeds_going moments old.why news old.engine (Err over) new.engine heeds

  -- a poll of the engine that has not stopped
  engine_left : (old new : Fleet S C K) (mid : ClusterEngine S C) (polled : Poll Stop) → PollsCluster answers moments mid polled new.engine → mid.over ≡ None → IsLeft (over_of polled) new
  engine_left old new mid _ (PollsCluster.was_over stop is) going = absurd (not_over going is)
  engine_left old new mid _ (PollsCluster.is_over engine stop.Done open_still had ends lines over) going = had.turn.turns.0
  engine_left old new mid _ (PollsCluster.is_over engine (stop.NeedStream cause) open_still had ends lines over) going = absurd (ends tt)
  engine_left old new mid _ (PollsCluster.is_over engine stop.OutOfMemory open_still had ends lines over) going = tt
  engine_left old new mid _ (PollsCluster.goes_on engine stop between (Ok done) open_still had goes rounds over) going = over
  engine_left old new mid _ (PollsCluster.goes_on engine stop between (Err refused) open_still had goes rounds over) going = tt

  -- news for which it does not go on
  ends_left : (why : Cause) (news : News S) (old : ClusterEngine S C) (over : Over) (new : Fleet S C K) → Heeds moments why news old (Err over) new.engine → new.why ≡ why → IsLeft (Ready over) new
  ends_left why (Connected node stream) old Done new h same = absurd (let e : Done ≡ OutOfMemory = h.1 in cc)
  ends_left why (Connected node stream) old (GaveUp cause) new h same = absurd (let e : GaveUp cause ≡ OutOfMemory = h.1 in cc)
  ends_left why (Connected node stream) old Spent new h same = absurd (let e : Spent ≡ OutOfMemory = h.1 in cc)
  ends_left why (Connected node stream) old OutOfMemory new h same = tt
  ends_left why (Led partition node) old over new h same = absurd (let e : Err over ≡ Ok tt = h.1 in cc)
  ends_left why (Dropped node) old over new h same = absurd (let e : Err over ≡ Ok tt = h.1 in cc)
  ends_left why Ended old Done new h same = absurd (let e : Err Done ≡ Err (GaveUp why) = h.1 in cc)
  ends_left why Ended old (GaveUp cause) new h same = let e : Err (GaveUp cause) ≡ Err (GaveUp why) = h.1 in let its : cause ≡ why = cc in its ∙ sym same
  ends_left why Ended old Spent new h same = absurd (let e : Err Spent ≡ Err (GaveUp why) = h.1 in cc)
  ends_left why Ended old OutOfMemory new h same = tt

  told_left : (old : Fleet S C K) (over : Over) (new : Fleet S C K) → TakesNews moments old (Err over) new → IsLeft (Ready over) new
  told_left old over new (TakesNews.ends _ news _ none heeds why) = ends_left old.why news old.engine over new heeds why

  pub once_left : (old : Fleet S C K) (result : Poll Over) (new : Fleet S C K) → FleetOnce answers moments old result new → IsGoing old → IsLeft result new
  once_left old _ _ (FleetOnce.turned mid new again polled open_still news polls why) going =
      engine_left mid new mid.engine polled polls (told_going old (Ok again) mid news ∙ going)
  once_left old _ _ (FleetOnce.ended new over open_still news) going = told_left old over new news
  once_left old _ _ (FleetOnce.used_up is) going = is

  -- ---- what its keeper is told changes nothing else

  pub told_after : (old noted : Fleet S C K) (result : Result Bool Over) (new : Fleet S C K) → noted.engine ≡ old.engine → noted.why ≡ old.why
      → TakesNews moments noted result new → TakesNews moments old result new
  told_after old noted _ _ engine why (TakesNews.lost new node loses) = TakesNews.lost new node (record {
    lost = subst (λ (e : ClusterEngine S C). node_lost e.lines.items ≡ Some node) engine loses.lost;
    drops = subst (λ (e : ClusterEngine S C). DropsNow moments node e new.engine) engine loses.drops;
    why = subst (λ (c : Cause). new.why ≡ why_after (stop_at node old.engine.lines.items) c) why
        (subst (λ (e : ClusterEngine S C). new.why ≡ why_after (stop_at node e.lines.items) noted.why) engine loses.why);
  })
  told_after old noted _ _ engine why (TakesNews.nothing new none same still_why) =
      TakesNews.nothing new (subst (λ (e : ClusterEngine S C). node_lost e.lines.items ≡ None) engine none) (same ∙ engine) (still_why ∙ why)
  told_after old noted _ _ engine why (TakesNews.heeds new news none heeds still_why) =
      TakesNews.heeds new news (subst (λ (e : ClusterEngine S C). node_lost e.lines.items ≡ None) engine none)
      (subst (λ (c : Cause). Heeds moments c news old.engine (Ok tt) new.engine) why (subst (λ (e : ClusterEngine S C). Heeds moments noted.why news e (Ok tt) new.engine) engine heeds))
      (still_why ∙ why)
  told_after old noted _ _ engine why (TakesNews.ends new news over none heeds still_why) =
      TakesNews.ends new news over (subst (λ (e : ClusterEngine S C). node_lost e.lines.items ≡ None) engine none)
      (subst (λ (c : Cause). Heeds moments c news old.engine (Err over) new.engine) why (subst (λ (e : ClusterEngine S C). Heeds moments noted.why news e (Err over) new.engine) engine heeds))
      (still_why ∙ why)
