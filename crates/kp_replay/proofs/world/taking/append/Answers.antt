use Rattle.std.proofs.Common.{◌∙◌, sym}
use Rattle.kp_core.proofs.CallingLemmas.{refuses}
use Rattle.kp_replay.proofs.world.taking.append.Goals as goal

pub returns-then-not-may_append : goal.returns-then-not-may_append
returns-then-not-may_append c = refuses c.args.item c.args.core.now (sym c.may_append.ensures ∙ c.if-not-may_append.true)
