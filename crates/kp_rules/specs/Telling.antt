-- What senders are told, and what telling does to the core.
use Rattle.std.specs.Prelude.{ℕ, ◌+ℤ◌, ℤ, pos, List, map, filter, flat_map, length, ◌&&◌}
use Rattle.std.specs.List.{enumerate_from}
use Rattle.kp_accum.specs.declared.item.Item.{Item}
use Rattle.kp_rules.specs.declared.outcome.Outcome.{Outcome}
use Rattle.kp_rules.specs.declared.outcome.Outcome.TheVariants.{Delivered}
use Rattle.kp_rules.specs.Records.{Partition, Core, Told, Effect, Called}
use Rattle.kp_rules.specs.Partitions.{is_empty, partition_at, changed_at}
use Rattle.kp_rules.specs.Attempts.{is_live}
use Rattle.kp_rules.specs.Reports.{with_reports}

-- ---- what is told of a batch

-- the same of each item
abbrev pub told_all : Outcome → List Item → List Told
told_all outcome items = map (λ i. record { item = i; outcome = outcome }) items

-- of item k of a batch, that it stands at the batch's offset and k
abbrev pub told_offsets : ℤ → List Item → List Told
told_offsets base items =
    map (λ x. record { item = x.1; outcome = Delivered (base +ℤ pos x.0) }) (enumerate_from 0 items)

-- ---- the core: what rules leave and tell, and how many items were told

-- The partitions are these, and this was told of items of theirs. A request stays in flight while
-- one of its attempts is; what is told gives its memory back.
unfoldable pub with_partitions : List Partition → List Told → Core → Called ℕ
with_partitions ts told s = record {
  after = record s {
    partitions = ts;
    requests = filter (is_live ts) s.requests;
    exhausted = s.exhausted && is_empty told;
    reports = with_reports told s.reports;
  };
  told = told;
  answer = length told;
}

-- A rule at each partition, upwards.
unfoldable pub at_each : (Partition → Effect) → Core → Called ℕ
at_each rule s = with_partitions
    (map (λ t. (rule t).after) s.partitions) (flat_map (λ t. (rule t).told) s.partitions) s

-- A rule at these partitions, in this order.
unfoldable pub at_these : List ℕ → (ℕ → Partition → Effect) → Core → Called ℕ
at_these ps rule s = with_partitions
    (changed_at ps (λ p t. (rule p t).after) s.partitions)
    (flat_map (λ p. (rule p (partition_at p s.partitions)).told) ps) s
