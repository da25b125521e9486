use Rattle.kprod.specs.RunText.{audit_at}
use Rattle.kprod.proofs.RunTextLemmas.{each_more}
use Rattle.kprod.proofs.running.put_audits.Goals as goal

pub loop-partition-preserved : goal.loop-partition-preserved
loop-partition-preserved c =
    each_more (audit_at c.args.core.now) c.args.out.now.items c.loop-partition.out.items c.put_audit_at.new.out.items
    c.loop-partition.partition c.loop-partition.invariant c.in_ok-put_audit_at.ensures
