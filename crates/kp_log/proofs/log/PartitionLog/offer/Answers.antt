use Rattle.kp_log.proofs.OpenedLemmas.{wanting_opened}
use Rattle.kp_log.proofs.log.PartitionLog.offer.Goals as goal

pub returns-in-Ok-clause-opened : goal.returns-in-Ok-clause-opened
returns-in-Ok-clause-opened c = wanting_opened c.args.bytes.now c.in-Ok.batch c.take_batch.result c.in-Ok.ensures.exact
