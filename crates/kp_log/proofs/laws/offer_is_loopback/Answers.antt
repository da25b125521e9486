use Rattle.kp_log.proofs.TieLemmas.{alike, empty_is_of_empty, others_are_of_others}
use Rattle.kp_log.proofs.laws.offer_is_loopback.Goals as goal

pub returns-clause-answer : goal.returns-clause-answer
returns-clause-answer c = λ h log b offset leader_epoch of whole some. (alike h log offset leader_epoch b of whole some).answer

pub returns-clause-history : goal.returns-clause-history
returns-clause-history c = λ h log b offset leader_epoch of whole some. (alike h log offset leader_epoch b of whole some).history

pub returns-clause-empty : goal.returns-clause-empty
returns-clause-empty c = empty_is_of_empty

pub returns-clause-others : goal.returns-clause-others
returns-clause-others c = others_are_of_others
