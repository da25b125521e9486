-- Connections, each to a node, and a round for each.
use Rattle.std.specs.Prelude.{◌≡◌, ◌≢◌, ◌++◌, ◌==◌, ◌&&◌, ℕ, Bool, List, [], ◌∷◌, not, filter, find, Option, Some, None, is_some, option_map, Result, Ok, Err}
use Rattle.std.specs.declared.alloc.AllocError.{AllocError}
use Rattle.kp_connection.specs.Wire.{Told}
use Rattle.kp_engine.specs.Engine.{fresh_wire, stop_in}
use Rattle.kp_engine.specs.Exchange.{with_strays}
use Rattle.kp_engine.specs.Rounds.{HasRound}
use Rattle.kp_engine.specs.Window.{most_requests, window_after}
use Rattle.kp_engine.specs.declared.engine.Line.{Line}
use Rattle.kp_engine.specs.declared.engine.Line.TheVariants.{Open, Stopped}
use Rattle.kp_engine.specs.declared.exchange.Exchange.{Exchange}
use Rattle.kp_engine.specs.declared.node_line.NodeLine.{NodeLine}
use Rattle.kp_engine.specs.declared.stop.Stop.{Stop}
use Rattle.kp_engine.specs.declared.stop.Stop.TheVariants.{OutOfMemory}

-- ---- connections

-- it goes to this node
abbrev pub goes_to : {S : Type 0} → ℕ → NodeLine S → Bool
goes_to node l = l.node == node

abbrev pub is_lost : {S : Type 0} → NodeLine S → Bool
is_lost l = is_some (stop_in l.line)

-- the node of the first one that was given up
abbrev pub node_lost : {S : Type 0} → List (NodeLine S) → Option ℕ
node_lost ls = option_map (λ l. l.node) (find is_lost ls)

-- it was given up, and went to this node
abbrev pub is_given_up : {S : Type 0} → ℕ → NodeLine S → Bool
is_given_up node l = goes_to node l && is_lost l

-- what the first one to this node that was given up was so for
abbrev pub stop_at : {S : Type 0} → ℕ → List (NodeLine S) → Option Stop
stop_at node ls = elim (find (is_given_up node) ls) [ None ↦ None | Some l ↦ stop_in l.line ]

-- It goes to this node, with so many requests in flight at a time, and nothing was written or read over it.
pub record IsFresh {S : Type 0} (node : ℕ) (stream : S) (given : Option ℕ) (l : NodeLine S) : Type 0 where
  pub its : l.node ≡ node
  pub line : l.line ≡ Open (fresh_wire stream)
  pub strays : l.strays ≡ 0
  pub window : l.window ≡ given

-- None to this node that was given up is left, and a fresh one to it stands last.
pub record Connects {S : Type 0} (node : ℕ) (stream : S) (window : Option ℕ) (old new : List (NodeLine S)) : Type 0 where
  pub last : NodeLine S
  pub fresh : IsFresh node stream window last
  pub all : new ≡ filter (λ l. not (is_given_up node l)) old ++ last ∷ []

-- ---- a round for each

-- whether it says that memory was refused
abbrev pub TellsRefusal : {S : Type 0} → Line S → Result (Unit {0}) AllocError → Type 0
TellsRefusal line (Ok done) = line ≢ Stopped OutOfMemory
TellsRefusal line (Err refused) = line ≡ Stopped OutOfMemory

-- What is left of it by its round at this moment, for its node and with room for as many requests as its window has; where it was
-- given up before there is none.
abbrev pub RoundOver : {S : Type 0} → Told S → NodeLine S → (now : ℕ) → Line S → Exchange → Result (Unit {0}) AllocError → Exchange → Line S → Type 0
RoundOver answers l now (Open wire) x result y left =
    HasRound answers (most_requests l.window l.node x.core) l.node now (with_strays l.strays x) wire y left × TellsRefusal left result
RoundOver answers l now (Stopped stop) x result y left = (y ≡ x) × (left ≡ Stopped stop) × (result ≡ Ok tt)

-- What it knows behind that of its replies, and its window; where it is given up, what it knew.
abbrev pub KnowsBehind : {S : Type 0} → ℕ → NodeLine S → Exchange → Exchange → NodeLine S → Line S → Type 0
KnowsBehind now old x y new (Open wire) = (new.strays ≡ y.notes.strays) × (new.window ≡ window_after old.node now x.core y.core old.window)
KnowsBehind now old x y new (Stopped stop) = (new.strays ≡ old.strays) × (new.window ≡ old.window)

pub record LineRound {S : Type 0} (answers : Told S) (now : ℕ) (old : NodeLine S) (x : Exchange) (result : Result (Unit {0}) AllocError) (y : Exchange) (new : NodeLine S) : Type 0 where
  pub round : RoundOver answers old now old.line x result y new.line
  pub node : new.node ≡ old.node
  pub knows : KnowsBehind now old x y new new.line

-- A round for each, in their order, until memory is refused. One that is given up, now or before, stops no other.
pub data RoundsEach {S : Type 0} (answers : Told S) (now : ℕ) : Exchange → List (NodeLine S) → Result (Unit {0}) AllocError → Exchange → List (NodeLine S) → Type 0 where
  each_had_one : (x : Exchange) → RoundsEach answers now x [] (Ok tt) x []
  goes_on : (x y z : Exchange) (l m : NodeLine S) (ls ms : List (NodeLine S)) (last : Result (Unit {0}) AllocError) → LineRound answers now l x (Ok tt) y m
      → RoundsEach answers now y ls last z ms → RoundsEach answers now x (l ∷ ls) last z (m ∷ ms)
  ends : (x y : Exchange) (l m : NodeLine S) (ls : List (NodeLine S)) (refused : AllocError) → LineRound answers now l x (Err refused) y m
      → RoundsEach answers now x (l ∷ ls) (Err refused) y (m ∷ ls)
