use Rattle.kprod.specs.RunText.{log_at}
use Rattle.kprod.proofs.RunTextLemmas.{each_more}
use Rattle.kprod.proofs.running.put_logs.Goals as goal

pub loop-partition-preserved : goal.loop-partition-preserved
loop-partition-preserved c =
    each_more (log_at c.args.broker.now c.args.core.now) c.args.out.now.items c.loop-partition.out.items c.put_log_at.new.out.items
    c.loop-partition.partition c.loop-partition.invariant c.in_ok-put_log_at.ensures
