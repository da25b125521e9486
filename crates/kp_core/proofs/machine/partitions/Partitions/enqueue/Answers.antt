use Rattle.std.proofs.Common.{◌≡◌, ◌∙◌, ◌<◌, true, false, not, List, length, vec_capacity, vec_len, sym, ap, subst, rules, arith}
use Rattle.std.proofs.lemmas.List.{get_or_default}
use Rattle.kp_rules.specs.Partitions.{new_partition, partition_at}
use Rattle.kp_rules.specs.Records.{Partition}
use Rattle.kp_core.specs.Busy.{is_busy}
use Rattle.kp_core.proofs.BusyLemmas.{busy-is}
use Rattle.kp_core.proofs.ByLeaderLemmas.{PutsLed, filled_by_leader, room_led, set_by_leader}
use Rattle.kp_core.proofs.IdleLemmas.{filled_busy}
use Rattle.kp_core.proofs.ListedLemmas.{filled_listed, room_left, set_listed}
use Rattle.kp_core.proofs.machine.partitions.Partitions.enqueue.Goals as goal

pub put_in-requires : goal.put_in-requires
put_in-requires c =
    let ts = c.self.inside.all.items in
    let p = c.args.item.partition in
    let there : p < length ts = subst (λ (us : List Partition). p < length us) (sym c.self.view_is) c.requires.there in
    let old : c.index_mut-partition.result.now ≡ partition_at p ts = c.index_mut-partition.ensures.value ∙ get_or_default ts p c.index_mut-partition.result.now (new_partition 0) there in
    let idle : is_busy (partition_at p ts) ≡ false =
    ap is_busy (sym old) ∙ busy-is c.index_mut-partition.result.now ∙ ap not (sym c.is_idle-was_idle.ensures ∙ c.if-was_idle.true) in
    let count : vec_len c.self.inside.busy ≡ length c.self.inside.busy.items = search rules in
    omega (arith, count, room_left p there idle c.self.invariant.listed)

pub put_led-requires : goal.put_led-requires
put_led-requires c =
    let ts = c.self.inside.all.items in
    let p = c.args.item.partition in
    let there : p < length ts = subst (λ (us : List Partition). p < length us) (sym c.self.view_is) c.requires.there in
    let old : c.index_mut-partition.result.now ≡ partition_at p ts = c.index_mut-partition.ensures.value ∙ get_or_default ts p c.index_mut-partition.result.now (new_partition 0) there in
    let idle : is_busy (partition_at p ts) ≡ false =
    ap is_busy (sym old) ∙ busy-is c.index_mut-partition.result.now ∙ ap not (sym c.is_idle-was_idle.ensures ∙ c.if-was_idle.true) in
    let count : vec_len c.self.inside.by_leader ≡ length c.self.inside.by_leader.items = search rules in
    omega (arith, count, room_led p there idle c.self.invariant.listed c.self.invariant.by_leader)

pub invariant_of-self-then-was_idle : goal.invariant_of-self-then-was_idle
invariant_of-self-then-was_idle c =
    let ts = c.self.inside.all.items in
    let p = c.args.item.partition in
    let there : p < length ts = subst (λ (us : List Partition). p < length us) (sym c.self.view_is) c.requires.there in
    let old : c.index_mut-partition.result.now ≡ partition_at p ts = c.index_mut-partition.ensures.value ∙ get_or_default ts p c.index_mut-partition.result.now (new_partition 0) there in
    let idle : is_busy (partition_at p ts) ≡ false =
    ap is_busy (sym old) ∙ busy-is c.index_mut-partition.result.now ∙ ap not (sym c.is_idle-was_idle.ensures ∙ c.if-was_idle.true) in
    let filled : is_busy c.enqueue.new.self ≡ true = ap is_busy c.in_ok-enqueue.ensures.ok ∙ filled_busy c.args.config.now c.args.item c.index_mut-partition.result.now in
    record {
      listed = filled_listed p c.enqueue.new.self c.put_in.new.places.items (vec_capacity c.put_in.new.places) there idle filled c.put_in.ensures.items c.put_in.ensures.capacity c.self.invariant.listed;
      by_leader = filled_by_leader p c.enqueue.new.self c.put_led.new.places.items (vec_capacity c.put_led.new.places) there idle filled
          (subst (λ (us : List Partition). PutsLed p us c.self.inside.by_leader.items c.put_led.new.places.items) c.deref.ensures.value c.put_led.ensures.items) c.put_led.ensures.capacity
          c.self.invariant.by_leader;
    }

pub invariant_of-self-else-was_idle : goal.invariant_of-self-else-was_idle
invariant_of-self-else-was_idle c =
    let ts = c.self.inside.all.items in
    let p = c.args.item.partition in
    let there : p < length ts = subst (λ (us : List Partition). p < length us) (sym c.self.view_is) c.requires.there in
    let old : c.index_mut-partition.result.now ≡ partition_at p ts = c.index_mut-partition.ensures.value ∙ get_or_default ts p c.index_mut-partition.result.now (new_partition 0) there in
    let busy : is_busy (partition_at p ts) ≡ true =
    ap is_busy (sym old) ∙ busy-is c.index_mut-partition.result.now ∙ ap not (sym c.is_idle-was_idle.ensures ∙ c.if-was_idle.false) in
    let filled : is_busy c.enqueue.new.self ≡ true = ap is_busy c.in_ok-enqueue.ensures.ok ∙ filled_busy c.args.config.now c.args.item c.index_mut-partition.result.now in
    let leader : c.enqueue.new.self.leader ≡ (partition_at p ts).leader = ap (λ (t : Partition). t.leader) c.in_ok-enqueue.ensures.ok ∙ ap (λ (t : Partition). t.leader) old in
    record {
      listed = set_listed p c.enqueue.new.self (filled ∙ sym busy) c.self.invariant.listed;
      by_leader = set_by_leader p c.enqueue.new.self (filled ∙ sym busy) (λ is. leader) c.self.invariant.by_leader;
    }
