-- The producer's events. Each is a function of the world; None where it names what isn't there, or
-- is the broker's.
use Rattle.std.specs.Prelude.{ℕ, Bool, true, not, List, [], ◌∷◌, ◌++◌, map, length, Option, Some, None, Result, Ok, Err, slice_get, slice_set, slice_index_or, nat_lt, ◌==◌, ◌&&◌, if◌then◌else◌}
use Rattle.kp_rules.specs.declared.fault.CoreFault.{CoreFault}
use Rattle.kp_rules.specs.declared.fault.CoreFault.TheVariants as fault
use Rattle.kp_rules.specs.declared.ticked.Replied.{Replied}
use Rattle.kp_rules.specs.Closing.{close_step, end_step}
use Rattle.kp_rules.specs.Dropping.{disconnect_step}
use Rattle.kp_rules.specs.Flush.{flush_step}
use Rattle.kp_rules.specs.Leading.{lead_step}
use Rattle.kp_rules.specs.Next.{Sending}
use Rattle.kp_rules.specs.Partitions.{is_empty, all_untold}
use Rattle.kp_rules.specs.Records.{Demand, Produce, InitProducerId, HandedBatch, Core}
use Rattle.kp_rules.specs.Replies.{response_step}
use Rattle.kp_rules.specs.Requesting.{Packet, request_step}
use Rattle.kp_rules.specs.Tick.{Ticks, tick_step}
use Rattle.kp_world.specs.Events.{WorldEvent}
use Rattle.kp_world.specs.Events as event
use Rattle.kp_world.specs.Accepting.{accepting, item_for, accepted_by, taking, taken_by}
use Rattle.kp_world.specs.Line.{Line, SentPart, Reconnect, SentBatches, SentInit, Idle, Ended, Stale, Flushing, Flushed}
use Rattle.kp_world.specs.Noting.{noted, only_noted}
use Rattle.kp_world.specs.World.{World, Reply}

-- ---- send

abbrev pub sent_part : Sending → SentPart
sent_part x =
    record { partition = x.partition; sequence = x.batch.sequence; count = length x.batch.items }

abbrev pub sent_line : ℕ → Demand Sending → Line
sent_line k (Produce xs) = SentBatches k (map sent_part xs)
sent_line k (InitProducerId p) = SentInit k

-- A partition's batches, and behind them the batch that has the next number.
abbrev pub grown_by : HandedBatch → List HandedBatch → List HandedBatch
grown_by b handed = if b.number == length handed then handed ++ b ∷ [] else handed

abbrev pub handed_at : ℕ → List (List HandedBatch) → List HandedBatch
handed_at p handed = slice_index_or handed p []

abbrev pub with_sending : Sending → List (List HandedBatch) → List (List HandedBatch)
with_sending x handed =
    slice_set handed x.partition (grown_by x.batch (handed_at x.partition handed))

-- A batch is handed over when it first goes out.
unfoldable pub with_sendings : List Sending → List (List HandedBatch) → List (List HandedBatch)
with_sendings [] handed = handed
with_sendings (x ∷ xs) handed = with_sendings xs (with_sending x handed)

abbrev pub handed_with : Demand Sending → List (List HandedBatch) → List (List HandedBatch)
handed_with (Produce xs) handed = with_sendings xs handed
handed_with (InitProducerId p) handed = handed

abbrev pub with_packet : Packet → World → World
with_packet o w = record w { packets = w.packets ++ o ∷ []; handed = handed_with o.demand w.handed }

abbrev pub sending : World → Core → Result (Option Packet) CoreFault → World
sending w core (Ok (Some o)) =
    noted core (sent_line (length w.packets) o.demand ∷ []) [] (with_packet o w)
sending w core (Err fault.Ended) = noted core (Ended ∷ []) [] w
sending w core _ = noted core (Idle ∷ []) [] w

-- ---- a reply comes

abbrev pub reply_line : ℕ → Result Replied CoreFault → List Line
reply_line j (Ok r) = if r.known then [] else Stale j ∷ []
reply_line j (Err fault.Ended) = Ended ∷ []
reply_line j (Err refusal) = []

abbrev pub replying : ℕ → Option Reply → World → Option World
replying j None w = None
replying j (Some r) w =
    let step = response_step w.moment r.response w.core in
    Some (noted step.after (reply_line j step.answer) step.told w)

-- ---- flush

abbrev pub has_untold : Core → Bool
has_untold s = not (is_empty (all_untold s))

abbrev pub flush_line : Core → Line
flush_line s = if has_untold s then Flushing else Flushed

-- ---- the events

abbrev pub has_sender : ℕ → World → Bool
has_sender s w = nat_lt s (length w.accepted)

abbrev pub has_partition : ℕ → World → Bool
has_partition p w = nat_lt p (length w.logs)

abbrev pub only_if : Bool → World → Option World
only_if there w = if there then Some w else None

abbrev pub ticked_to : Ticks → World → World
ticked_to step w =
    noted step.after (if step.answer.reconnect then Reconnect ∷ [] else []) step.told w

abbrev pub leading : (partition node : ℕ) → World → World
leading p node w = noted (lead_step p node w.moment w.core) [] [] w

abbrev pub ticking : ℕ → World → World
ticking node w = ticked_to (tick_step node w.moment w.core) w

abbrev pub ending : World → World
ending w = let step = end_step w.core in noted step.after [] step.told w

-- The gate is shut, and the core is closed.
abbrev pub closing : World → World
closing w = noted (close_step w.core) [] [] (record w { is_shut = true })

unfoldable pub client : WorldEvent → World → Option World
client (event.Accept s p at body) w =
    only_if (has_sender s w && has_partition p w) (accepting (item_for s p at body w) w)
client (event.Take s) w =
    only_if (has_sender s w) (taking s (slice_get (accepted_by s w) (taken_by s w)) w)
client (event.Now moment) w = Some (only_noted [] (record w { moment = moment }))
client (event.Tick node) w = Some (ticking node w)
client (event.Send node) w =
    let step = request_step node w.moment w.core in Some (sending w step.after step.answer)
client (event.Reply j) w = replying j (slice_get w.replies j) w
client (event.Drop node) w = Some (noted (disconnect_step node w.moment w.core) [] [] w)
client (event.Lead p node) w = Some (leading p node w)
client event.Close w = Some (closing w)
client event.End w = Some (ending w)
client event.Flush w = Some (noted (flush_step w.core) (flush_line w.core ∷ []) [] w)
client (event.Deliver k) w = None
client (event.Other p n) w = None
