-- Moves by which a core is fed in turn with what its senders had accepted.
use Rattle.std.proofs.Common.{◌≡◌, ℕ, List, [], ◌∷◌, ◌++◌, length, refl, sym, ap, ◌∙◌, subst}
use Rattle.kp_accum.specs.declared.item.Item.{Item}
use Rattle.kp_headline.specs.Around.{AssumedAround, accepted_in}
use Rattle.kp_headline.specs.Assumptions.{Assumed, IsHonest, IsNotMadeUp, IsInTurn, KeepsIdsApart}
use Rattle.kp_headline.specs.Laws.{AfterAnyMoves, calls_in}
use Rattle.kp_headline.specs.Moves.{Move, Calling, IsMove, AreMoves, Throughout, after, led}
use Rattle.kp_headline.specs.Offering.{AllOffered, MayComeFirst, accepting, having_accepted}
use Rattle.kp_headline.specs.Outside.{State, new_state}
use Rattle.kp_headline.proofs.OfferingLemmas.{led_further, may_come_first, throughout_further}
use Rattle.kp_rules.specs.Calls.{Call, Life, Lives}
use Rattle.kp_rules.specs.Records.{Core}
use Rattle.kp_world.specs.Run.{MayBegin}
use Rattle.kp_world.specs.World.{Opening}

-- ---- behind the moves by which all was accepted

module _ (o : Opening) (accepted : List (List Item)) (ms : List Move) (senders : length accepted ≡ o.senders) (offered : AllOffered o 0 accepted)
    (moves : AreMoves (having_accepted o accepted) ms) (turn : Throughout IsInTurn (having_accepted o accepted) ms) (t : AssumedAround (having_accepted o accepted) ms) where
  pub come : MayComeFirst o accepted
  come = may_come_first o accepted senders offered

  abbrev whole : List Move
  whole = accepting accepted ++ ms

  joined : (Holds : State → Move → Type 0) → Throughout Holds (new_state o) (accepting accepted) → Throughout Holds (having_accepted o accepted) ms → Throughout Holds (new_state o) whole
  joined Holds a b = throughout_further Holds (new_state o) (accepting accepted) ms a (subst (λ (s : State). Throughout Holds s ms) (sym come.lead) b)

  pub whole_moves : AreMoves (new_state o) (accepting accepted ++ ms)
  whole_moves = joined IsMove come.moves moves

  pub whole_assumed : Assumed (new_state o) (accepting accepted ++ ms)
  whole_assumed = record {
    honest = joined IsHonest come.assumed.honest t.honest;
    not_made_up = joined IsNotMadeUp come.assumed.not_made_up t.not_made_up;
    in_turn = joined IsInTurn come.assumed.in_turn turn;
    ids_once = joined KeepsIdsApart come.assumed.ids_once t.ids_once;
  }

  pub of_fed : (Holds : State → Type 0) → MayBegin o → AfterAnyMoves o Holds → Holds (led (having_accepted o accepted) ms)
  of_fed Holds may law =
      subst Holds (led_further (new_state o) (accepting accepted) ms ∙ ap (λ (s : State). led s ms) come.lead)
      (law whole may whole_moves whole_assumed)

-- ---- calls with nothing around them

pub record Alone (a : State) (calls : List Call) : Type 0 where
  pub ms : List Move
  pub moves : AreMoves a ms
  pub same_calls : calls_in ms ≡ calls
  pub none : accepted_in ms ≡ []

pub all_alone : (a : State) (calls : List Call) (life : Life) (t : Core) → Lives a.core calls life t → Alone a calls
unfolding Lives
all_alone a [] life t lives = record { ms = []; moves = tt; same_calls = refl; none = refl }
all_alone a (c ∷ calls) life t lives =
    let rest : Alone (after (Calling c lives.0) a) calls = all_alone (after (Calling c lives.0) a) calls lives.1 t lives.3 in
    record {
      ms = Calling c lives.0 ∷ rest.ms;
      moves = (lives.2, rest.moves);
      same_calls = ap (λ (cs : List Call). c ∷ cs) rest.same_calls;
      none = rest.none;
    }
