-- What holds between two places among the moves around any polls.
use Rattle.std.proofs.Common.{◌≡◌, ℕ, ◌<◌, true, List, [], ◌∷◌, ◌++◌, refl, sym, ap, ◌∙◌, subst, append_assoc}
use Rattle.kp_connection.specs.Wire.{Told}
use Rattle.kp_headline.specs.Assumptions.{IsHonest, IsNotMadeUp, IsInTurn, KeepsIdsApart, Assumed}
use Rattle.kp_headline.specs.Moves.{Move, Calling, IsMove, AreMoves, Throughout, after, led}
use Rattle.kp_headline.specs.Offering.{accepting, having_accepted}
use Rattle.kp_headline.specs.Outside.{State, known, new_state}
use Rattle.kp_headline.proofs.FedLemmas.{come, whole_assumed, whole_moves}
use Rattle.kp_headline.proofs.LawLemmas.{flushed_all, grown}
use Rattle.kp_headline.proofs.OfferingLemmas.{led_further}
use Rattle.kp_rules.specs.Calls.{Flush}
use Rattle.kp_rules.specs.Flush.{is_flushed}
use Rattle.kp_rules.specs.Records.{Core}
use Rattle.kp_world.specs.Accounts.{IsToldBy}
use Rattle.kp_world.specs.Handed.{GrowsAtEnd}
use Rattle.kp_world.specs.Run.{MayBegin}
use Rattle.kp_world.specs.World.{Opening}
use Rattle.kp_polls.specs.Around.{AroundAnyPolls}
use Rattle.kp_polls.specs.Laws.{AreToldByAnyFlush, GrowsAllAlong}
use Rattle.kp_polls.proofs.AroundLemmas.{feed_in_turn}

first_of : (Holds : State → Move → Type 0) (a : State) (ms ns : List Move) → Throughout Holds a (ms ++ ns) → Throughout Holds a ms
first_of Holds a [] ns h = tt
first_of Holds a (m ∷ ms) ns h = (h.0, first_of Holds (after m a) ms ns h.1)

rest_of : (Holds : State → Move → Type 0) (a : State) (ms ns : List Move) → Throughout Holds a (ms ++ ns) → Throughout Holds (led a ms) ns
rest_of Holds a [] ns h = h
rest_of Holds a (m ∷ ms) ns h = rest_of Holds (after m a) ms ns h.1

all_first : (a : State) (ms ns : List Move) → Assumed a (ms ++ ns) → Assumed a ms
all_first a ms ns h = record {
  honest = first_of IsHonest a ms ns h.honest;
  not_made_up = first_of IsNotMadeUp a ms ns h.not_made_up;
  in_turn = first_of IsInTurn a ms ns h.in_turn;
  ids_once = first_of KeepsIdsApart a ms ns h.ids_once;
}

all_rest : (a : State) (ms ns : List Move) → Assumed a (ms ++ ns) → Assumed (led a ms) ns
all_rest a ms ns h = record {
  honest = rest_of IsHonest a ms ns h.honest;
  not_made_up = rest_of IsNotMadeUp a ms ns h.not_made_up;
  in_turn = rest_of IsInTurn a ms ns h.in_turn;
  ids_once = rest_of KeepsIdsApart a ms ns h.ids_once;
}

-- It holds of any place among the moves, of those behind it, and of where they lead.
abbrev Along : (State → List Move → State → Type 0) → State → List Move → Type 0
Along Two a ms = (before later : List Move) → ms ≡ before ++ later → Two (led a before) later (led a ms)

-- What holds from any moves on holds from any place among those around polls.
along : {S : Type 0} (answers : Told S) (o : Opening) (Two : State → List Move → State → Type 0)
    → ((front : List Move) → MayBegin o → AreMoves (new_state o) front → Assumed (new_state o) front → (later : List Move) → AreMoves (led (new_state o) front) later
    → Assumed (led (new_state o) front) later → Two (led (new_state o) front) later (led (led (new_state o) front) later))
    → AroundAnyPolls answers o (λ a ms x. Along Two a ms)
along answers o Two law calls x accepted ms p h r t before later made =
    let a : State = having_accepted o accepted in
    let front : List Move = accepting accepted ++ before in
    let turn = feed_in_turn answers o calls x accepted ms p h r in
    let same : accepting accepted ++ ms ≡ front ++ later =
    ap (λ (ns : List Move). accepting accepted ++ ns) made ∙ sym (append_assoc (accepting accepted) before later) in
    let moves : AreMoves (new_state o) (front ++ later) = subst (AreMoves (new_state o)) same (whole_moves o accepted ms h.senders h.offered r.moves turn t) in
    let assumed : Assumed (new_state o) (front ++ later) = subst (Assumed (new_state o)) same (whole_assumed o accepted ms h.senders h.offered r.moves turn t) in
    let there : led (new_state o) front ≡ led a before =
    led_further (new_state o) (accepting accepted) before ∙ ap (λ (s : State). led s before) (come o accepted ms h.senders h.offered r.moves turn t).lead in
    let behind : led (led a before) later ≡ led a ms = sym (led_further a before later) ∙ ap (led a) (sym made) in
    let two = law front p.may_begin (first_of IsMove (new_state o) front later moves) (all_first (new_state o) front later assumed) later
    (rest_of IsMove (new_state o) front later moves) (all_rest (new_state o) front later assumed) in
    subst (λ (s : State). Two (led a before) later s) behind (subst (λ (s : State). Two s later (led s later)) there two)

pub grows : {S : Type 0} (answers : Told S) (o : Opening) (p : ℕ) → p < o.partitions → AroundAnyPolls answers o (λ a ms x. GrowsAllAlong p a ms)
grows answers o p l = along answers o (λ b later c. GrowsAtEnd p (known b) (known c)) (λ front may are h later more assumed. grown o p l front may are h later more assumed)

abbrev FlushedBy : State → List Move → State → Type 0
FlushedBy b later c = (t : Core) (rest : List Move) → later ≡ Calling Flush t ∷ rest → is_flushed c.core ≡ true → IsToldBy (known c) (known b)

flushed_by : (o : Opening) (front : List Move) → MayBegin o → AreMoves (new_state o) front → Assumed (new_state o) front → (later : List Move) → AreMoves (led (new_state o) front) later
    → Assumed (led (new_state o) front) later → FlushedBy (led (new_state o) front) later (led (led (new_state o) front) later)
flushed_by o front may are h later more assumed t rest is full =
    let b : State = led (new_state o) front in
    subst (λ (ms : List Move). AreMoves b ms → Assumed b ms → is_flushed (led b ms).core ≡ true → IsToldBy (known (led b ms)) (known b)) (sym is)
    (flushed_all o front may are h t rest) more assumed full

pub flushed : {S : Type 0} (answers : Told S) (o : Opening) → AroundAnyPolls answers o (λ a ms x. AreToldByAnyFlush a ms)
flushed answers o calls x accepted ms p h r t before later u made full =
    along answers o FlushedBy (flushed_by o) calls x accepted ms p h r t before (Calling Flush u ∷ later) made u later refl full
