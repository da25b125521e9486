use Rattle.std.proofs.Common.{None}
use Rattle.kp_core.proofs.TurnedLemmas.{last_or-is}
use Rattle.kp_core.proofs.turns.last_chosen.Goals as goal

pub returns-in-len1-up : goal.returns-in-len1-up
returns-in-len1-up c = last_or-is None c.args.chosen.now c.in-len1-up.len_at_least
