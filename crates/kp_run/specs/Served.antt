-- What the connections to a broker made of it.
use Rattle.std.specs.Prelude.{ℕ, List, Result}
use Rattle.kp_broker.specs.Broker.{Broker}
use Rattle.kp_broker.specs.Plan.{Plan}
use Rattle.kp_broker.specs.Serving.{Serves}
use Rattle.kp_broker.specs.declared.fault.BrokerFault.{BrokerFault}
use Rattle.kp_broker.specs.declared.serving.Served.{Served}

-- One connection, by some bytes that came and some that went, however it ended.
pub record ServesOne (plan : Plan) (before after : Broker) : Type 0 where
  pub read : List ℕ
  pub written : List ℕ
  pub ending : Result Served BrokerFault
  pub serves : Serves plan before read ending written after

-- Any number of them, one after the other.
pub data ServesAll (plan : Plan) (before : Broker) : Broker → Type 0 where
  nothing : ServesAll plan before before
  one_more : (between after : Broker) → ServesAll plan before between → ServesOne plan between after → ServesAll plan before after
