use Rattle.kp_send.proofs.NearLemmas.{table_more}
use Rattle.kp_send.proofs.laws.a_latency_more_is_counted.Goals as goal

pub returns : goal.returns
returns c = table_more
