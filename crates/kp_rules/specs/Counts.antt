-- What is counted of a core, for those who watch it; no rule reads it.
use Rattle.std.specs.Prelude.{ℕ, length, not, sum_by}
use Rattle.std.specs.List.{filter}
use Rattle.kp_rules.specs.Attempts.{is_waiting}
use Rattle.kp_rules.specs.Partitions.{items_queued}
use Rattle.kp_rules.specs.Records.{Partition, Core}

-- a partition's batches that await a reply
abbrev pub in_flight : Partition → ℕ
in_flight t = length (filter (λ o. not (is_waiting o)) t.open_batches)

unfoldable pub batches_in_flight : Core → ℕ
batches_in_flight s = sum_by in_flight s.partitions

unfoldable pub batches_handed_over : Core → ℕ
batches_handed_over s = sum_by (λ t. t.next_number) s.partitions

unfoldable pub attempts_sent : Core → ℕ
attempts_sent s = sum_by (λ t. t.attempts_sent) s.partitions

-- the items in batches that were not handed over
unfoldable pub all_queued : Core → ℕ
all_queued s = sum_by (λ t. length (items_queued t.queue)) s.partitions
