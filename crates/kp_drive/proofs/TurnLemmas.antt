-- A turn is calls on the producer.
use Rattle.std.proofs.Common.{◌≡◌, ◌⊎◌, inl, inr, ℕ, List, [], ◌∷◌, ◌++◌, length, sym, ap, subst}
use Rattle.std.specs.Prelude.{Some, None}
use Rattle.kp_cluster.specs.declared.action.Action.{Action}
use Rattle.kp_cluster.specs.declared.action.Action.TheVariants.{Connect, Close}
use Rattle.kp_connection.specs.Wire.{Told}
use Rattle.kp_drive.specs.Doing.{DoesAll, Obeys, Tells, node_of}
use Rattle.kp_drive.specs.Links.{EachTurns, LinkTurns, link_at}
use Rattle.kp_drive.specs.Serving.{Ends, Exchanges}
use Rattle.kp_drive.specs.Turning.{Turns}
use Rattle.kp_drive.specs.declared.pipe.Pipe.{Pipe}
use Rattle.kp_drive.specs.declared.link.Link.{Link}
use Rattle.kp_drive.specs.declared.link.Link.TheVariants.{Closed, Dialing, Open}
use Rattle.kp_embed.specs.Going.{Acts, Stays, if_core}
use Rattle.kp_embed.specs.Hearing.{GivesUp}
use Rattle.kp_embed.specs.Producer.{Producer}
use Rattle.kp_embed.proofs.ActLemmas.{acts_idly, acts_same, acts_then}
use Rattle.kp_embed.proofs.TickLemmas.{ticks_act}
use Rattle.kp_rules.specs.Calls.{Call, Disconnect}

-- some calls
abbrev pub ActsSome : Producer → Producer → Type 0
ActsSome p q = (calls : List Call) × Acts p calls q

then : (p q r : Producer) → ActsSome p q → ActsSome q r → ActsSome p r
then p q r h k = (h.0 ++ k.0, acts_then p q r h.0 k.0 h.1 k.1)

same : (p q : Producer) → q ≡ p → ActsSome p q
same p q is = subst (ActsSome p) (sym is) ([], acts_same p)

exchanges_act : (node now : ℕ) (p q : Producer) (taken fed : List ℕ) → Exchanges node now p taken fed q → ActsSome p q
exchanges_act node now p q taken fed Exchanges.none = ([], acts_same p)
exchanges_act node now p q taken fed (Exchanges.took before heard bytes a b rest step) =
    then p a b (exchanges_act node now p a before heard rest) (step.asks.calls, step.asks.acts)
exchanges_act node now p q taken fed (Exchanges.refused before heard a b rest step) =
    then p a b (exchanges_act node now p a before heard rest) (step.asks.calls, step.asks.acts)
exchanges_act node now p q taken fed (Exchanges.heard before heard bytes a b rest step) =
    then p a b (exchanges_act node now p a before heard rest) (
      step.hears.calls,
      record {
        config = step.hears.acts.config;
        names = step.hears.acts.names;
        core = step.hears.acts.core;
        taken = step.hears.acts.taken;
        next = step.hears.acts.next;
        counts = step.hears.acts.counts;
      },
    )

refused_act : (node now : ℕ) (p q : Producer) → Stays p q ⊎ GivesUp node now p q → ActsSome p q
refused_act node now p q (inl s) = ([], s.acts)
refused_act node now p q (inr g) = then p g.middle q (g.calls, g.heard) (if_core g.middle.core (Disconnect node now ∷ []), g.lost)

-- ---- a link

ends_act : {S : Type 0} (answers : Told S) (node now : ℕ) (p q : Producer) (a : Pipe S) → Ends answers node now p a q → ActsSome p q
ends_act answers node now p q a e =
    then p e.stops.middle q (exchanges_act node now p e.stops.middle e.stops.taken e.stops.fed e.stops.exchanges)
    (then e.stops.middle e.after q (refused_act node now e.stops.middle e.after e.stops.refused) (if_core e.after.core (Disconnect node now ∷ []), e.lost.acts))

module _ {K S : Type 0} (answers : Told S) (node now : ℕ) (p q : Producer) where
  pub link_acts : (old new : Link K S) → LinkTurns answers node now p old q new → ActsSome p q
  link_acts Closed Closed t = same p q t
  link_acts Closed (Dialing k) t = absurd t
  link_acts Closed (Open b) t = absurd t
  link_acts (Dialing k) Closed t = then p t.after q ([], t.refused.acts) (if_core t.after.core (Disconnect node now ∷ []), t.lost.acts)
  link_acts (Dialing k) (Dialing l) t = same p q t
  link_acts (Dialing k) (Open b) t = (if_core p.core (Disconnect node now ∷ []), t.1.acts)
  link_acts (Open a) Closed t = ends_act answers node now p q a t
  link_acts (Open a) (Dialing k) t = absurd t
  link_acts (Open a) (Open b) t = exchanges_act node now p q t.taken _ t.exchanges

-- ---- what it told

pub tells_acts : (now : ℕ) (action : _) (p q : Producer) → Tells now action p q → ActsSome p q
tells_acts now action p q t =
    ([], acts_idly p q (ap (λ (x : Producer). x.config) t.same) (ap (λ (x : Producer). x.names) t.same) (ap (λ (x : Producer). x.core) t.same) (ap (λ (x : Producer). x.counts) t.same))

module _ {K S : Type 0} (now : ℕ) (p q : Producer) where
  pub obeys_acts : (action : Action) (old new : Link K S) → Obeys now action p old q new → ActsSome p q
  obeys_acts (Connect node) Closed Closed o = (if_core p.core (Disconnect node now ∷ []), o.acts)
  obeys_acts (Connect node) Closed (Dialing k) o = same p q o
  obeys_acts (Connect node) Closed (Open b) o = absurd o
  obeys_acts (Connect node) (Dialing k) Closed o = (if_core p.core (Disconnect node now ∷ []), o.acts)
  obeys_acts (Connect node) (Dialing k) (Dialing l) o = absurd o
  obeys_acts (Connect node) (Dialing k) (Open b) o = absurd o
  obeys_acts (Connect node) (Open a) Closed o = (if_core p.core (Disconnect node now ∷ []), o.acts)
  obeys_acts (Connect node) (Open a) (Dialing l) o = absurd o
  obeys_acts (Connect node) (Open a) (Open b) o = absurd o
  obeys_acts (Close node) old Closed o = (if_core p.core (Disconnect node now ∷ []), o.acts)
  obeys_acts (Close node) old (Dialing k) o = absurd o
  obeys_acts (Close node) old (Open b) o = absurd o

does_act : {K S : Type 0} (now : ℕ) (p : Producer) (ls : List (Link K S)) (q : Producer) (ms : List (Link K S)) → DoesAll now p ls q ms → ActsSome p q
does_act now p ls q ms DoesAll.none = ([], acts_same p)
does_act now p ls q ms (DoesAll.one_more action a b c ns os rest tells does) =
    then p a c (does_act now p ls a ns rest)
    (then a b c (tells_acts now (Some action) a b tells) (obeys_acts now b c action (link_at (node_of action) ns) (link_at (node_of action) os) does.its))
does_act now p ls q ms (DoesAll.nothing a b ns rest tells) = then p a b (does_act now p ls a ns rest) (tells_acts now None a b tells)

-- ---- all

each_acts : {K S : Type 0} (answers : Told S) (now : ℕ) (p : Producer) (ls : List (Link K S)) (n : ℕ) (q : Producer) (ms : List (Link K S)) → EachTurns answers now p ls n q ms → ActsSome p q
each_acts answers now p ls n q ms EachTurns.none = ([], acts_same p)
each_acts answers now p ls n q ms (EachTurns.one_more i a b ns os rest turn others) =
    then p a b (each_acts answers now p ls i a ns rest) (link_acts answers i now a b (link_at i ns) (link_at i os) turn)

pub turn_acts : {K S : Type 0} (answers : Told S) (now : ℕ) (p q : Producer) (ls ms : List (Link K S)) → Turns answers now p ls q ms → ActsSome p q
turn_acts answers now p q ls ms t =
    then p t.ticked q (ticks_act now p t.ticked t.ticks)
    (then t.ticked t.asked q (does_act now t.ticked ls t.asked t.linked t.does) (each_acts answers now t.asked t.linked (length t.linked) q ms t.each))
