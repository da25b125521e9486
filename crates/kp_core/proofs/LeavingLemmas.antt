-- What each step leaves: a core in order, of which what was told and what is left are what was there.
use Rattle.std.proofs.Common.{◌≡◌, ℕ, ◌<◌, true, false, not, List, [], length, Some, refl, ap, ◌∙◌, arith}
use Rattle.std.specs.Prelude.{Option, filter, map, slice_set, sum_by, if◌then◌else◌, ◌&&◌}
use Rattle.std.specs.List.{AllByRecursion, list_any}
use Rattle.std.proofs.lemmas.List.{length-set}
use Rattle.kp_frames.specs.declared.produce.ProduceResponse.{ProduceResponse}
use Rattle.kp_frames.specs.declared.producer_id.InitProducerIdResponse.{InitProducerIdResponse}
use Rattle.kp_rules.specs.declared.outcome.Report.{Report}
use Rattle.kp_rules.specs.declared.outcome.Reason.TheVariants.{Ended}
use Rattle.kp_rules.specs.Closing.{end_all}
use Rattle.kp_rules.specs.Dropping.{drop_led, drop_requests}
use Rattle.kp_rules.specs.Fence.{give_up}
use Rattle.kp_rules.specs.Flush.{flush_step, mark}
use Rattle.kp_rules.specs.InOrder.{AreDistinct, IsInOrder}
use Rattle.kp_rules.specs.Leading.{led_by, lead_step}
use Rattle.kp_rules.specs.Mismatch.{answers_id}
use Rattle.kp_rules.specs.Next.{Sending, next_demand}
use Rattle.kp_rules.specs.Partitions.{all_untold, partition_at, untold}
use Rattle.kp_rules.specs.Attempts.{asks_for_id, goes_to, is_live}
use Rattle.kp_rules.specs.Records.{Core, Demand, Partition, Produce, InitProducerId, Request}
use Rattle.kp_rules.specs.Replies.{settle_batches, settle_id}
use Rattle.kp_rules.specs.Requesting.{sent_out}
use Rattle.kp_rules.specs.Telling.{at_each, at_these, with_partitions}
use Rattle.kp_rules.specs.Tick.{heed_deadlines}
use Rattle.kp_rules.proofs.AccountingLemmas.{dropped_same, id_same, keeps_each, led_same, sent_same, settled_keeps}
use Rattle.kp_rules.proofs.CallLemmas.{at_id, idle}
use Rattle.kp_rules.proofs.ListLemmas.{flat_map_mapped}
use Rattle.kp_rules.proofs.OrderedCallLemmas.{IsId, order_alike, order_all_ended, order_dropped, order_flushed, order_id, order_led, order_out, order_passed, order_settled, same_requests, without_id}
use Rattle.kp_rules.proofs.RuleLemmas.{give_up_keeps, heed_keeps, mark_keeps}
use Rattle.kp_core.proofs.KeepingLemmas.{Leaves}

-- ---- steps that tell nothing

-- the same is untold
quietly_left : (s t : Core) → IsInOrder t → t.config ≡ s.config → all_untold t ≡ all_untold s → Leaves s [] t
quietly_left s t order config same = record {
  order = order;
  config = config;
  sums = λ f. let e = ap (sum_by f) same in omega (arith, e);
}

pub closed_left : (s : Core) → IsInOrder s → Leaves s [] (record s { closing = true })
closed_left s h = quietly_left s (record s { closing = true }) (order_alike {s = s} refl refl refl refl refl refl (same_requests s) h) refl refl

pub exhausted_left : (s : Core) → IsInOrder s → Leaves s [] (record s { exhausted = true })
exhausted_left s h = quietly_left s (record s { exhausted = true }) (order_alike {s = s} refl refl refl refl refl refl (same_requests s) h) refl refl

pub fetched_left : (sender : ℕ) (line : List Report) (s : Core) → IsInOrder s → Leaves s [] (record s { reports = slice_set s.reports sender line })
fetched_left sender line s h =
    quietly_left s (record s { reports = slice_set s.reports sender line })
    (order_alike {s = s} refl refl refl refl (length-set s.reports sender line) refl (same_requests s) h) refl refl

pub flushed_left : (s : Core) → IsInOrder s → Leaves s [] (flush_step s)
unfolding flush_step
flushed_left s h = quietly_left s (flush_step s) (order_flushed s h) refl (flat_map_mapped untold mark untold mark_keeps s.partitions)

pub dropped_left : (node now : ℕ) (s : Core) → IsInOrder s → Leaves s [] (drop_requests node now s)
unfolding drop_requests
dropped_left node now s h = quietly_left s (drop_requests node now s) (order_dropped node now s h) refl (dropped_same node now s)

pub led_left : (p leader now : ℕ) (s : Core) → IsInOrder s → Leaves s [] (lead_step p leader now s)
unfolding lead_step
led_left p leader now s h = quietly_left s (lead_step p leader now s) (order_led p leader now s h) refl (led_same p leader now s)

pub sent_left : (node now : ℕ) (s : Core) (d : Demand Sending) → s.ended ≡ false → next_demand node now s ≡ Some d → IsInOrder s → Leaves s [] (sent_out node now s d)
sent_left node now s d going is h = quietly_left s (sent_out node now s d) (order_out node now s d going is h) (same_config d) (sent_same node now s d)
  where
    same_config : (e : Demand Sending) → (sent_out node now s e).config ≡ s.config
    same_config (Produce xs) = refl
    same_config (InitProducerId p) = refl

pub id_left : (now p : ℕ) (x : InitProducerIdResponse) (s : Core) → IsId x.producer_id → answers_id x ≡ true → s.ended ≡ false → IsInOrder s
    → Leaves s [] (settle_id now p x s)
id_left now p x s id fits going h =
    quietly_left s (settle_id now p x s) (order_id now p x s id fits going h)
    (at_id (λ (t : Core). t.config ≡ s.config) now p x s (record { wanted = λ given. refl; unwanted = refl; refused = refl })) (id_same now p x s)

pub refusal_left : (now : ℕ) (s : Core) → IsInOrder s → Leaves s [] (record (idle s) { id_waits = Some now })
refusal_left now s h =
    quietly_left s (record (idle s) { id_waits = Some now })
    (order_alike {s = s} refl refl refl refl refl refl (without_id s) h) refl refl

-- ---- steps that tell

pub heeded_left : (now : ℕ) (s : Core) → IsInOrder s
    → Leaves s (at_each (heed_deadlines s.config now) s).told (at_each (heed_deadlines s.config now) s).after
unfolding at_each with_partitions
heeded_left now s h = record {
  order = order_passed now s h;
  config = refl;
  sums = λ f. keeps_each f (heed_deadlines s.config now) (heed_keeps f s.config now) s.partitions;
}

pub ended_left : (s : Core) → IsInOrder s → Leaves s (end_all s).told (end_all s).after
unfolding at_each with_partitions
ended_left s h = record {
  order = order_all_ended s h;
  config = refl;
  sums = λ f. keeps_each f (give_up Ended) (give_up_keeps f Ended) s.partitions;
}

pub settled_left : (now k : ℕ) (ps : List ℕ) (x : ProduceResponse) (s : Core) → AllByRecursion (λ p. p < length s.partitions) ps → AreDistinct ps
    → IsInOrder s → Leaves s (settle_batches now k ps x s).told (settle_batches now k ps x s).after
unfolding at_these with_partitions
settled_left now k ps x s there once h = record {
  order = order_settled now k ps x s h;
  config = refl;
  sums = λ f. settled_keeps f now k ps x s h once there;
}

-- ---- dropped requests, field by field

pub dropped-is : (node now : ℕ) (s : Core) (ts : List Partition) (requests : List Request) (waits : Option ℕ)
    → ts ≡ map (drop_led node now) s.partitions → requests ≡ filter (λ r. not (goes_to node r)) s.requests
    → waits ≡ (if list_any (λ r. goes_to node r && asks_for_id r) s.requests then Some now else s.id_waits)
    → record s { partitions = ts; requests = requests; id_waits = waits } ≡ drop_requests node now s
unfolding drop_requests
dropped-is node now s ts requests waits dropped none since = cc

-- ---- a partition that another node leads, field by field

pub led-is : (p leader now : ℕ) (s : Core) (ts : List Partition) (requests : List Request)
    → ts ≡ slice_set s.partitions p (led_by leader now (partition_at p s.partitions)) → requests ≡ filter (is_live ts) s.requests
    → record s { partitions = ts; requests = requests } ≡ lead_step p leader now s
unfolding lead_step
led-is p leader now s ts requests led live =
    ap (λ (r : List Request). let u : Core = record s { partitions = ts; requests = r } in u) live
    ∙ ap (λ (us : List Partition). let u : Core = record s { partitions = us; requests = filter (is_live us) s.requests } in u) led
