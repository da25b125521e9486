use Rattle.std.proofs.Common.{◌≡◌, ◌∙◌, ◌<◌, true, false, true≢false, not, List, length, vec_capacity, vec_len, sym, ap, subst, rules, arith}
use Rattle.std.specs.Prelude.{slice_set}
use Rattle.std.proofs.lemmas.List.{get_or_default}
use Rattle.kp_rules.specs.Leading.{led_by}
use Rattle.kp_rules.specs.Partitions.{new_partition, partition_at}
use Rattle.kp_rules.specs.Records.{Partition}
use Rattle.kp_core.specs.Busy.{is_busy}
use Rattle.kp_core.proofs.BusyLemmas.{busy-is}
use Rattle.kp_core.proofs.ByLeaderLemmas.{PutsLed, moved_by_leader, room_moved, set_by_leader}
use Rattle.kp_core.proofs.IdleLemmas.{moved_busy}
use Rattle.kp_core.proofs.ListedLemmas.{set_listed}
use Rattle.kp_core.proofs.machine.partitions.Partitions.lead_one.Goals as goal

pub put_led-requires : goal.put_led-requires
put_led-requires c =
    let count : vec_len c.remove_led.new.places ≡ length c.remove_led.new.places.items = search rules in
    let there : c.args.place < length c.self.inside.all.items = search rules in
    omega (arith, count, c.remove_led.ensures.capacity, room_moved c.args.place c.remove_led.new.places.items there c.remove_led.ensures.items c.self.invariant.listed c.self.invariant.by_leader)

pub invariant_of-self : goal.invariant_of-self
invariant_of-self c =
    let ts = c.self.inside.all.items in
    let p = c.args.place in
    let v = c.lead_by.new.self in
    let there : p < length ts = search rules in
    let old : c.index_mut-partition.result.now ≡ partition_at p ts = c.index_mut-partition.ensures.value ∙ get_or_default ts p c.index_mut-partition.result.now (new_partition 0) there in
    let same : is_busy v ≡ is_busy (partition_at p ts) = ap is_busy c.lead_by.ensures ∙ moved_busy c.args.leader c.args.now c.index_mut-partition.result.now ∙ ap is_busy old in
    let busy : is_busy v ≡ true = busy-is v ∙ ap not (sym c.is_idle.ensures ∙ c.if-not-is_idle.true) in
    record {
      listed = set_listed p v same c.self.invariant.listed;
      by_leader = moved_by_leader p v c.remove_led.new.places.items c.put_led.new.places.items (vec_capacity c.put_led.new.places) there busy c.remove_led.ensures.items
          (subst (λ (us : List Partition). PutsLed p us c.remove_led.new.places.items c.put_led.new.places.items) c.deref.ensures.value c.put_led.ensures.items)
          (c.put_led.ensures.capacity ∙ c.remove_led.ensures.capacity) c.self.invariant.by_leader;
    }

pub invariant_of-self-else-not-is_idle : goal.invariant_of-self-else-not-is_idle
invariant_of-self-else-not-is_idle c =
    let ts = c.self.inside.all.items in
    let p = c.args.place in
    let v = c.lead_by.new.self in
    let there : p < length ts = search rules in
    let old : c.index_mut-partition.result.now ≡ partition_at p ts = c.index_mut-partition.ensures.value ∙ get_or_default ts p c.index_mut-partition.result.now (new_partition 0) there in
    let same : is_busy v ≡ is_busy (partition_at p ts) = ap is_busy c.lead_by.ensures ∙ moved_busy c.args.leader c.args.now c.index_mut-partition.result.now ∙ ap is_busy old in
    let idle : is_busy v ≡ false = busy-is v ∙ ap not (sym c.is_idle.ensures ∙ c.if-not-is_idle.false) in
    record {
      listed = set_listed p v same c.self.invariant.listed;
      by_leader = set_by_leader p v same (λ is. absurd (true≢false (sym is ∙ idle))) c.self.invariant.by_leader;
    }

pub returns-then-not-is_idle : goal.returns-then-not-is_idle
returns-then-not-is_idle c =
    let ts = c.self.inside.all.items in
    let p = c.args.place in
    let there : p < length ts = search rules in
    let old : c.index_mut-partition.result.now ≡ partition_at p ts = c.index_mut-partition.ensures.value ∙ get_or_default ts p c.index_mut-partition.result.now (new_partition 0) there in
    ap (slice_set ts p) (c.lead_by.ensures ∙ ap (led_by c.args.leader c.args.now) old)
    ∙ ap (λ (us : List Partition). slice_set us p (led_by c.args.leader c.args.now (partition_at p us))) c.self.view_is

pub returns-else-not-is_idle : goal.returns-else-not-is_idle
returns-else-not-is_idle c =
    let ts = c.self.inside.all.items in
    let p = c.args.place in
    let there : p < length ts = search rules in
    let old : c.index_mut-partition.result.now ≡ partition_at p ts = c.index_mut-partition.ensures.value ∙ get_or_default ts p c.index_mut-partition.result.now (new_partition 0) there in
    ap (slice_set ts p) (c.lead_by.ensures ∙ ap (led_by c.args.leader c.args.now) old)
    ∙ ap (λ (us : List Partition). slice_set us p (led_by c.args.leader c.args.now (partition_at p us))) c.self.view_is
