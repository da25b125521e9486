use Rattle.kp_client.proofs.greeting.greet_until.Goals as goal

pub returns-clause-asked : goal.returns-clause-asked
returns-clause-asked g c = c.in_ok-expect_partitions.ensures.asked
