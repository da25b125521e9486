use Rattle.kp_client.proofs.opening.cluster_of.Goals as goal

pub returns-clause-of : goal.returns-clause-of
returns-clause-of g c = (c.in_ok-cluster.ensures, c.in_ok-names.ensures)
