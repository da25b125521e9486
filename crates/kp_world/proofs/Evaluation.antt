-- A fact with the line `unfolding evaluated` is computed from the definitions.
use Rattle.std.specs.Fmt.{digits}
use Rattle.kp_log.specs.BrokerStep.{offered_to}
use Rattle.kp_log.specs.History.{own_offsets}
use Rattle.kp_log.specs.KeptBatches.{kept_in}
use Rattle.kp_log.specs.SequenceRule.{verdict}
use Rattle.kp_rules.proofs.Evaluation as sender
use Rattle.kp_world.specs.Client.{with_sendings, client}
use Rattle.kp_world.specs.Events.{events_of}
use Rattle.kp_world.specs.Loopback.{logs_with, answers_to, delivered}
use Rattle.kp_world.specs.Lines.{lines}
use Rattle.kp_world.specs.Noting.{noted}
use Rattle.kp_world.specs.Replay.{stepped, replayed_from, replayed}
use Rattle.kp_world.specs.Run.{with_delivery, with_others_at}
use Rattle.kp_world.specs.Text.{line_text, text}
use Rattle.kp_world.specs.World.{opening}

unfoldable pub evaluated : Unit {0}
unfolding digits sender.evaluated own_offsets offered_to kept_in verdict with_sendings client logs_with answers_to delivered lines noted with_delivery with_others_at stepped replayed_from events_of replayed line_text text opening
evaluated = tt
