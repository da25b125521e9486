-- Any polls of an engine, with brokers and the network around them.
use Rattle.std.specs.Prelude.{List}
use Rattle.kp_accum.specs.declared.item.Item.{Item}
use Rattle.kp_connection.specs.Wire.{Told}
use Rattle.kp_engine.specs.declared.exchange.Exchange.{Exchange}
use Rattle.kp_headline.specs.Around.{Around, AssumedAround}
use Rattle.kp_headline.specs.Moves.{Move, led}
use Rattle.kp_headline.specs.Offering.{having_accepted}
use Rattle.kp_headline.specs.Outside.{State}
use Rattle.kp_rules.specs.Calls.{Call}
use Rattle.kp_world.specs.World.{Opening}
use Rattle.kp_polls.specs.Polling.{Polling, HaveAccepted}

-- It holds of the moves around any polls, and of the engine then.
abbrev pub AroundAnyPolls : {S : Type 0} → Told S → Opening → (State → List Move → Exchange → Type 0) → Type 0
AroundAnyPolls answers o Holds =
    (calls : List Call) (x : Exchange) (accepted : List (List Item)) (ms : List Move)
    → Polling answers o calls x
    → HaveAccepted o x accepted
    → Around o accepted calls ms
    → AssumedAround (having_accepted o accepted) ms
    → Holds (having_accepted o accepted) ms x

-- It holds of what is known after any polls.
abbrev pub AfterAnyPolls : {S : Type 0} → Told S → Opening → (State → Type 0) → Type 0
AfterAnyPolls answers o Holds = AroundAnyPolls answers o (λ a ms x. Holds (led a ms))
