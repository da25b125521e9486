use Rattle.kp_rules.proofs.UnauditedLemmas.{lived}
use Rattle.kp_rules.proofs.life_laws.audits_change_nothing.Goals as goal

pub returns : goal.returns
returns c s u calls life h = lived s calls life u h
