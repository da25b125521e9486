-- What is around the calls on a core, once senders had accepted what they feed it: brokers and the network, as moves between
-- the calls.
use Rattle.std.specs.Prelude.{◌≡◌, List, [], ◌∷◌}
use Rattle.kp_accum.specs.declared.item.Item.{Item}
use Rattle.kp_headline.specs.Assumptions.{IsHonest, IsNotMadeUp, KeepsIdsApart}
use Rattle.kp_headline.specs.Laws.{calls_in}
use Rattle.kp_headline.specs.Moves.{Move, Accepting, AreMoves, Throughout}
use Rattle.kp_headline.specs.Offering.{having_accepted}
use Rattle.kp_headline.specs.Outside.{State}
use Rattle.kp_rules.specs.Calls.{Call}
use Rattle.kp_world.specs.World.{Opening}

abbrev pub accepted_in : List Move → List Item
accepted_in [] = []
accepted_in (Accepting i ∷ ms) = i ∷ accepted_in ms
accepted_in (m ∷ ms) = accepted_in ms

-- Moves from a new core on, by whose senders this was accepted before: the core is called by these calls, and between
-- them brokers and the network do anything.
pub record Around (o : Opening) (accepted : List (List Item)) (calls : List Call) (ms : List Move) : Type 0 where
  pub moves : AreMoves (having_accepted o accepted) ms
  pub same_calls : calls_in ms ≡ calls
  pub all_before : accepted_in ms ≡ []

-- All that is assumed of them: of brokers, of the network, and of ids.
pub record AssumedAround (a : State) (ms : List Move) : Type 0 where
  pub honest : Throughout IsHonest a ms
  pub not_made_up : Throughout IsNotMadeUp a ms
  pub ids_once : Throughout KeepsIdsApart a ms
