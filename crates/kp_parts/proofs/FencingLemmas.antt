-- What a partition is once it has given up, and once its deadlines are heeded.
use Rattle.std.proofs.Common.{◌≡◌, ◌∙◌, refl, ap, ℕ, true, false, List, [], ◌++◌}
use Rattle.std.specs.List.{list_any}
use Rattle.kp_accum.specs.declared.config.Config.{Config}
use Rattle.kp_accum.specs.Queue.{Pending}
use Rattle.kp_rules.specs.declared.outcome.Outcome.TheVariants.{Unknown, Unsent}
use Rattle.kp_rules.specs.declared.outcome.Reason.{Reason}
use Rattle.kp_rules.specs.declared.outcome.Reason.TheVariants.{Fenced}
use Rattle.kp_rules.specs.Fence.{fence, give_up}
use Rattle.kp_rules.specs.Partitions.{items_open, items_queued}
use Rattle.kp_rules.specs.Records.{Open, Partition}
use Rattle.kp_rules.specs.Telling.{told_all}
use Rattle.kp_rules.specs.Tick.{expire_front, heed_deadlines, is_open_late}

pub given_up-told : (why : Reason) (t : Partition)
    → (give_up why t).told ≡ told_all Unknown (items_open t.open_batches) ++ told_all (Unsent why) (items_queued t.queue)
unfolding give_up
given_up-told why t = refl

pub given_up-is : (why : Reason) (t : Partition) (q : List Pending) (os : List Open) → q ≡ [] → os ≡ []
    → record t { queue = q; open_batches = os } ≡ (give_up why t).after
unfolding give_up
given_up-is why t q os e f =
    ap (λ (z : List Pending). record t { queue = z; open_batches = os }) e
    ∙ ap (λ (z : List Open). record t { queue = []; open_batches = z }) f

pub fenced-told : (t : Partition) → (fence t).told ≡ (give_up Fenced t).told
unfolding fence
fenced-told t = refl

pub fenced-is : (t u : Partition) → u ≡ (give_up Fenced t).after → record u { fenced = true } ≡ (fence t).after
unfolding fence
fenced-is t u e = ap (λ (x : Partition). record x { fenced = true }) e

pub heeded-late : (c : Config) (now : ℕ) (t : Partition) → list_any (is_open_late c now) t.open_batches ≡ true
    → heed_deadlines c now t ≡ fence t
unfolding heed_deadlines
heeded-late c now t e = rw e refl

pub heeded-early : (c : Config) (now : ℕ) (t : Partition) → list_any (is_open_late c now) t.open_batches ≡ false
    → heed_deadlines c now t ≡ expire_front c now t
unfolding heed_deadlines
heeded-early c now t e = rw e refl
