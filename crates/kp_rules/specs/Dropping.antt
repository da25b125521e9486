-- A lost connection: what was in flight to its node waits for a retry from this moment on. A request
-- to the node that times out does the same. (A partition's attempts in flight are all at its leader.)
use Rattle.std.specs.Prelude.{ℕ, map, filter, not, ◌&&◌, Some, if◌then◌else◌}
use Rattle.std.specs.List.{list_any}
use Rattle.kp_rules.specs.declared.attempt.Attempt.TheVariants.{InFlight, Waiting}
use Rattle.kp_rules.specs.Records.{Open, Partition, Core}
use Rattle.kp_rules.specs.Partitions.{leads}
use Rattle.kp_rules.specs.Attempts.{asks_for_id, goes_to}

abbrev pub drop_attempt : ℕ → Open → Open
drop_attempt now o = record o {
  attempt = elim o.attempt [ InFlight c ↦ Waiting now | Waiting since ↦ Waiting since ];
}

abbrev pub drop_attempts : ℕ → Partition → Partition
drop_attempts now t = record t { open_batches = map (drop_attempt now) t.open_batches }

-- those of a partition that this node leads
abbrev pub drop_led : ℕ → ℕ → Partition → Partition
drop_led node now t = if leads node t then drop_attempts now t else t

-- Nothing is in flight to this node any more.
unfoldable pub drop_requests : ℕ → ℕ → Core → Core
drop_requests node now s = record s {
  partitions = map (drop_led node now) s.partitions;
  requests = filter (λ r. not (goes_to node r)) s.requests;
  id_waits = if list_any (λ r. goes_to node r && asks_for_id r) s.requests then Some now else s.id_waits;
}

-- After the end a lost connection changes nothing.
unfoldable pub disconnect_step : ℕ → ℕ → Core → Core
disconnect_step node now s = if s.ended then s else drop_requests node now s
