use Rattle.kp_engine.proofs.cluster.ClusterEngine.new.Goals as goal

pub returns-in-Ok-clause-made : goal.returns-in-Ok-clause-made
returns-in-Ok-clause-made g c = record {
  core = c.in-Ok.ensures.made.0;
  topic = c.in-Ok.ensures.names.0;
  client = c.in-Ok.ensures.names.1;
  intake = c.in-Ok.ensures.made.1;
  items = c.in-Ok.ensures.items;
  reports = c.in-Ok.ensures.reports;
  closed = c.in-Ok.ensures.made.2;
  kept = c.in-Ok.ensures.notes;
}
