use Rattle.std.proofs.Common.{◌≡◌, ◌∙◌, Bor, sym, ap, rules}
use Rattle.std.specs.Prelude.{slice_set}
use Rattle.std.proofs.lemmas.List.{get_or_default, set-get_or}
use Rattle.kp_frames.specs.declared.produce.PartitionProduceResponse.{PartitionProduceResponse}
use Rattle.kp_rules.specs.Partitions.{new_partition, partition_at}
use Rattle.kp_rules.specs.Records.{Effect}
use Rattle.kp_rules.specs.Settling.{left_alone}
use Rattle.kp_parts.specs.Desk.{tell_desk}
use Rattle.kp_parts.proofs.TellingLemmas.{tell_desk-nil}
use Rattle.kp_core.specs.declared.machine.matching.Entry.TheVariants.{Missing}
use Rattle.kp_core.specs.Hearing.{entry_at, settled_by}
use Rattle.kp_core.proofs.EntryLemmas.{settled_alone}
use Rattle.kp_core.proofs.machine.partitions.changing.settle_one.Goals as goal

pub returns-in_default : goal.returns-in_default
returns-in_default c =
    let ts = c.args.partitions.now.items in
    let p = c.args.place in
    let t = partition_at p ts in
    let found = c.args.found.now in
    let alone : settled_by c.args.now c.args.correlation (entry_at p found) t ≡ left_alone t =
    settled_alone c.args.now c.args.correlation (entry_at p found) t
    (λ (x : Bor PartitionProduceResponse) e. c.in_default.not-One x (get_or_default found p _ Missing (search rules) ∙ e)) in
    record {
      after = sym (ap (λ (x : Effect). slice_set ts p x.after) alone ∙ set-get_or ts p (new_partition 0));
      told = sym (ap (λ (x : Effect). tell_desk x.told c.args.desk.now) alone ∙ tell_desk-nil c.args.desk.now);
    }
