-- What contracts see of what closes a producer.
use Rattle.kp_lanes.specs.declared.closer.Closer.{Closer as LanesCloser}
use Rattle.kp_client.specs.declared.closer.Closer.{Closer}

-- the end of the lanes' gate that it shuts
abbrev pub lanes_closer : Closer → LanesCloser
lanes_closer closer = closer.lanes
