-- A round for each of several lines.
use Rattle.std.proofs.Common.{◌≡◌, ℕ, suc, ◌+◌, ◌<◌, ◌≤◌, List, [], ◌∷◌, ◌++◌, length, take, drop, set, refl, sym, ap, ◌∙◌, subst, append_assoc, append-nil, arith}
use Rattle.std.specs.Prelude.{Option, Some, None, Result, Ok, Err, find, option_map}
use Rattle.std.specs.List.{AllByRecursion}
use Rattle.std.specs.declared.alloc.AllocError.{AllocError}
use Rattle.std.proofs.lemmas.List.{drop-set-lt, drop_all, set_split, take_all, take_more_set}
use Rattle.futures.specs.Task.{Covers, Keeps, Lasting}
use Rattle.futures.specs.declared.task.Poll.{Poll}
use Rattle.futures.specs.declared.task.context.Context.{Context}
use Rattle.kp_wire.proofs.ListLemmas.{all_append}
use Rattle.kp_connection.specs.Wire.{Told, Wired}
use Rattle.kp_rules.specs.Calls.{Call}
use Rattle.kp_engine.specs.Closing.{Polled}
use Rattle.kp_engine.specs.Cluster.{PollsCluster}
use Rattle.kp_engine.specs.Engine.{IfOpen, stop_in}
use Rattle.kp_engine.specs.Exchange.{with_strays}
use Rattle.kp_engine.specs.Lines.{LineRound, RoundOver, RoundsEach, TellsRefusal, is_given_up, is_lost, node_lost, stop_at}
use Rattle.kp_engine.specs.Rounds.{HasRound}
use Rattle.kp_engine.specs.Window.{most_requests}
use Rattle.kp_engine.specs.declared.cluster.ClusterEngine.{ClusterEngine}
use Rattle.kp_engine.specs.declared.engine.Line.{Line}
use Rattle.kp_engine.specs.declared.engine.Line.TheVariants.{Open, Stopped}
use Rattle.kp_engine.specs.declared.exchange.Exchange.{Exchange}
use Rattle.kp_engine.specs.declared.node_line.NodeLine.{NodeLine}
use Rattle.kp_engine.specs.declared.stop.Stop.{Stop}
use Rattle.kp_engine.proofs.ClosingLemmas.{polls_then}
use Rattle.kp_engine.proofs.RoundLemmas.{made_behind, round_made}

-- ---- a round

-- Its round over an open connection, by that of an exchange which knows its strays.
pub round_over : {S : Type 0} (answers : Told S) (now : ℕ) (l : NodeLine S) (wire : Wired S) (x heard y : Exchange) (most : ℕ) (result : Result (Unit {0}) AllocError) (cut left : Line S)
    → l.line ≡ Open wire → heard ≡ with_strays l.strays x → most ≡ most_requests l.window l.node heard.core → HasRound answers most l.node now heard wire y cut
    → left ≡ cut → TellsRefusal left result → RoundOver answers l now l.line x result y left
round_over {S = S} answers now l wire x heard y most result cut left is-open heard-is most-is round left-is tells =
    subst (λ (line : Line S). RoundOver answers l now line x result y left) (sym is-open) (
      subst (λ (line : Line S). HasRound answers (most_requests l.window l.node x.core) l.node now (with_strays l.strays x) wire y line) (sym left-is)
          (subst (λ (its : Exchange). HasRound answers (most_requests l.window l.node its.core) l.node now its wire y cut) heard-is
          (subst (λ (n : ℕ). HasRound answers n l.node now heard wire y cut) most-is round)),
      tells,
    )

-- ---- who wakes

-- Where it is open, its stream wakes.
abbrev pub Wakes : {S : Type 0} → (S → ℕ → Type 0) → Context → Line S → Type 0
Wakes reader cx line = IfOpen line (λ wire. Covers cx (reader wire.stream))

abbrev pub AllWake : {S : Type 0} → (S → ℕ → Type 0) → Context → List (NodeLine S) → Type 0
AllWake reader cx lines = AllByRecursion (λ l. Wakes reader cx l.line) lines

covers_kept : (old new : Context) (needs : ℕ → Type 0) → Keeps old new → Covers old needs → Covers new needs
covers_kept old new needs keeps c = (keeps Lasting.armed c.0, λ s n. keeps (Lasting.hears s) (c.1 s n))

wakes_kept : {S : Type 0} (reader : S → ℕ → Type 0) (old new : Context) → Keeps old new → (line : Line S) → Wakes reader old line → Wakes reader new line
wakes_kept reader old new keeps (Open wire) c = covers_kept old new (reader wire.stream) keeps c
wakes_kept reader old new keeps (Stopped stop) c = c

all_kept : {S : Type 0} (reader : S → ℕ → Type 0) (old new : Context) → Keeps old new → (lines : List (NodeLine S)) → AllWake reader old lines → AllWake reader new lines
all_kept reader old new keeps [] h = h
all_kept reader old new keeps (l ∷ ls) h = (wakes_kept reader old new keeps l.line h.0, all_kept reader old new keeps ls h.1)

-- the one behind those that were polled was polled too
pub one_wakes_more : {S : Type 0} (reader : S → ℕ → Type 0) (old new : Context) (lines : List (NodeLine S)) (i : ℕ) (l : NodeLine S) → i < length lines → Keeps old new
    → AllWake reader old (take i lines) → Wakes reader new l.line → AllWake reader new (take (i + 1) (set lines i l))
one_wakes_more reader old new lines i l there keeps before wakes =
    subst (AllWake reader new) (sym (take_more_set lines i l there))
    (all_append (λ m. Wakes reader new m.line) (take i lines) (l ∷ []) (all_kept reader old new keeps (take i lines) before) (wakes, tt))

-- ---- a round for each

-- What is left of the lines, from here on, makes all of them have their rounds.
abbrev pub Carries : {S : Type 0} (answers : Told S) (now : ℕ) (x : Exchange) (lines : List (NodeLine S)) (y : Exchange) (ls : List (NodeLine S)) (i : ℕ) → Type 0
Carries {S} answers now x lines y ls i =
    (last : Result (Unit {0}) AllocError) (z : Exchange) (ms : List (NodeLine S)) → RoundsEach answers now y (drop i ls) last z ms → RoundsEach answers now x lines last z (take i ls ++ ms)

module _ {S : Type 0} (answers : Told S) (now : ℕ) (x : Exchange) (lines : List (NodeLine S)) (y : Exchange) (ls : List (NodeLine S)) (i : ℕ) (carries : Carries answers now x lines y ls i) where
  pub all_had_one : length ls ≤ i → RoundsEach answers now x lines (Ok tt) y ls
  all_had_one all =
      subst (RoundsEach answers now x lines (Ok tt) y) (append-nil (take i ls) ∙ take_all i ls all)
      (carries (Ok tt) y [] (subst (λ (rest : List (NodeLine S)). RoundsEach answers now y rest (Ok tt) y []) (sym (drop_all i ls all)) (RoundsEach.each_had_one y)))

  module _ (z : Exchange) (l m : NodeLine S) (there : i < length ls) (is : drop i ls ≡ l ∷ drop (i + 1) ls) where
    pub carries_on : LineRound answers now l y (Ok tt) z m → Carries answers now x lines z (set ls i m) (i + 1)
    carries_on line last u ms rest =
        let later : RoundsEach answers now z (drop (i + 1) ls) last u ms =
        subst (λ (left : List (NodeLine S)). RoundsEach answers now z left last u ms) (drop-set-lt (i + 1) ls i m (omega arith)) rest in
        let all : RoundsEach answers now x lines last u (take i ls ++ m ∷ ms) =
        carries last u (m ∷ ms) (subst (λ (left : List (NodeLine S)). RoundsEach answers now y left last u (m ∷ ms)) (sym is)
        (RoundsEach.goes_on y z u l m (drop (i + 1) ls) ms last line later)) in
        subst (RoundsEach answers now x lines last u) (sym (append_assoc (take i ls) (m ∷ []) ms) ∙ ap (λ (front : List (NodeLine S)). front ++ ms) (sym (take_more_set ls i m there))) all

    pub ends_here : (refused : AllocError) → LineRound answers now l y (Err refused) z m → RoundsEach answers now x lines (Err refused) z (set ls i m)
    ends_here refused line =
        let next : suc i ≡ i + 1 = omega arith in
        let split : set ls i m ≡ take i ls ++ m ∷ drop (i + 1) ls = set_split ls i m there ∙ ap (λ (n : ℕ). take i ls ++ m ∷ drop n ls) next in
        subst (RoundsEach answers now x lines (Err refused) z) (sym split)
        (carries (Err refused) z (m ∷ drop (i + 1) ls) (subst (λ (left : List (NodeLine S)). RoundsEach answers now y left (Err refused) z (m ∷ drop (i + 1) ls)) (sym is)
        (RoundsEach.ends y z l m (drop (i + 1) ls) refused line)))

pub rounds_as_many : {S : Type 0} (answers : Told S) (now : ℕ) (x y : Exchange) (ls ms : List (NodeLine S)) (result : Result (Unit {0}) AllocError) → RoundsEach answers now x ls result y ms
    → length ms ≡ length ls
rounds_as_many answers now _ _ _ _ _ (RoundsEach.each_had_one x) = refl
rounds_as_many answers now _ _ _ _ _ (RoundsEach.goes_on x y z l m ls ms last line rest) = ap suc (rounds_as_many answers now y z ls ms last rest)
rounds_as_many answers now _ _ _ _ _ (RoundsEach.ends x y l m ls refused line) = refl

-- ---- they are polls, also where something else is said of streams

abbrev ArePolls : {T : Type 0} → Told T → Exchange → Exchange → Type 0
ArePolls other x y = (calls : List Call) × Polled other x calls y

module _ {S T : Type 0} (answers : Told S) (other : Told T) where
  none_polled : (x y : Exchange) → y ≡ x → ArePolls other x y
  none_polled x y is = subst (ArePolls other x) (sym is) ([], Polled.not_yet)

  round_polled : (l : NodeLine S) (now : ℕ) (line : Line S) (x : Exchange) (result : Result (Unit {0}) AllocError) (y : Exchange) (left : Line S)
      → RoundOver answers l now line x result y left → ArePolls other x y
  round_polled l now (Open wire) x result y left r =
      let made = round_made answers (most_requests l.window l.node x.core) l.node now (with_strays l.strays x) wire r.0.calls r.0.told y left r.0.round in
      (r.0.calls, made_behind other l.strays x x y [] r.0.calls Polled.not_yet made)
  round_polled l now (Stopped stop) x result y left r = none_polled x y r.0

  rounds_polled : (now : ℕ) (x y : Exchange) (ls ms : List (NodeLine S)) (result : Result (Unit {0}) AllocError)
      → RoundsEach answers now x ls result y ms → ArePolls other x y
  rounds_polled now x _ _ _ _ (RoundsEach.each_had_one _) = ([], Polled.not_yet)
  rounds_polled now x _ _ _ _ (RoundsEach.goes_on _ y z l m ls ms last line rest) =
      let first = round_polled l now l.line x (Ok tt) y m.line line.round in
      let others = rounds_polled now y z ls ms last rest in
      (first.0 ++ others.0, polls_then other x y z first.0 others.0 first.1 others.1)
  rounds_polled now x _ _ _ _ (RoundsEach.ends _ y l m ls refused line) = round_polled l now l.line x (Err refused) y m.line line.round

  -- a poll over several
  pub cluster_polled : {C : Type 0} (moments : C → List ℕ) (old new : ClusterEngine S C) (result : Poll Stop)
      → PollsCluster answers moments old result new → ArePolls other old.exchange new.exchange
  cluster_polled moments old _ _ (PollsCluster.was_over stop is) = ([], Polled.not_yet)
  cluster_polled moments old _ _ (PollsCluster.is_over new stop open_still had ends lines over) =
      (had.turn.calls, Polled.away old.exchange new.exchange [] _ stop Polled.not_yet had.turn)
  cluster_polled moments old _ _ (PollsCluster.goes_on new stop mid result open_still had goes rounds over) =
      let others = rounds_polled had.turn.now mid new.exchange old.lines.items new.lines.items result rounds in
      (had.turn.calls ++ others.0, polls_then other old.exchange mid new.exchange had.turn.calls others.0 (Polled.away old.exchange mid [] _ stop Polled.not_yet had.turn) others.1)

-- ---- those that were given up

pub node_found : {S : Type 0} (ls : List (NodeLine S)) (o : Option (NodeLine S)) → o ≡ find is_lost ls → option_map (λ l. l.node) o ≡ node_lost ls
node_found ls o is = ap (λ (x : Option (NodeLine _)). option_map (λ l. l.node) x) is

-- ---- what one was given up for

pub stop_found : {S : Type 0} (node : ℕ) (ls : List (NodeLine S)) (o : Option (NodeLine S)) → o ≡ find (is_given_up node) ls
    → (elim o [ None ↦ None | Some l ↦ stop_in l.line ]) ≡ stop_at node ls
stop_found node ls o is = ap (λ (x : Option (NodeLine _)). elim x [ None ↦ None | Some l ↦ stop_in l.line ]) is
