-- Whose counts a monitor reads.
use Rattle.std.specs.Arc.{arc_value}
use Rattle.kp_client.specs.declared.producer.Producer.{Producer}
use Rattle.kp_client.specs.declared.shared.Shared.{Shared}
use Rattle.kp_client.specs.declared.statistics.Monitor.{Monitor}

-- what the threads of the producer share, where the monitor reads
abbrev pub counted_by : Monitor → Shared
counted_by monitor = arc_value monitor.shared

-- what the producer's threads share
abbrev pub shared_by : Producer → Shared
shared_by producer = arc_value producer.shared
