use Rattle.std.proofs.Common.{refl}
use Rattle.kp_replay.proofs.ShownLemmas.{opened-shows, opened-within}
use Rattle.kp_replay.proofs.world.World.open.Goals as goal

pub invariant_of-result : goal.invariant_of-result
invariant_of-result c = opened-within c.args.config c.args.partitions c.args.senders _ (rw c.in_ok-names.ensures at c.in_ok-core.ensures) c.requires.config c.requires.few_partitions c.requires.few_senders _ c.in_ok-accepted.ensures _ c.in_ok-taken.ensures _ c.in_ok-logs.ensures _ refl

pub returns : goal.returns
returns c =
    opened-shows c.args.config c.args.partitions c.args.senders _ (rw c.in_ok-names.ensures at c.in_ok-core.ensures)
    c.in_ok-accepted.ensures c.in_ok-taken.ensures c.new-2.ensures.items c.new-3.ensures.items c.in_ok-logs.ensures refl refl refl (rw c.new-4.ensures.items refl)
