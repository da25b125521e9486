use Rattle.std.proofs.Common.{refl, rules}
use Rattle.std.proofs.lemmas.Fn.{filter_same}
use Rattle.kp_engine.proofs.cluster.ClusterEngine.disconnect.Goals as goal

pub returns : goal.returns
returns g c = record {
  now = c.now-now.result;
  told = c.now-now.ensures;
  step = c.lose.ensures.step;
  only = c.lose.ensures.same.0;
  notes = c.lose.ensures.same.1;
  lines = filter_same _ _ _ (λ r b f k. search rules) _ _ c.retain.ensures.filtered;
  over = refl;
}
