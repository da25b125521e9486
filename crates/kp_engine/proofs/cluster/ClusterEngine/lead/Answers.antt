use Rattle.std.proofs.Common.{refl}
use Rattle.kp_engine.proofs.cluster.ClusterEngine.lead.Goals as goal

pub returns : goal.returns
returns g c = record {
  now = c.now-now.result;
  told = c.now-now.ensures;
  step = c.lead.ensures.step;
  only = c.lead.ensures.same.0;
  notes = c.lead.ensures.same.1;
  lines = refl;
  over = refl;
}
