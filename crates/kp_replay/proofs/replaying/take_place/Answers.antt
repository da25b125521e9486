use Rattle.kp_replay.proofs.ReplayingLemmas.{may-be}
use Rattle.kp_replay.proofs.replaying.take_place.Goals as goal

pub happen-requires-clause-may_be : goal.happen-requires-clause-may_be
happen-requires-clause-may_be c = may-be c.args.scheduled
