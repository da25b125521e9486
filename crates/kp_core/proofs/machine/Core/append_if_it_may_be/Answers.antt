use Rattle.std.proofs.Common.{◌∙◌, sym}
use Rattle.kp_core.proofs.CallingLemmas.{refuses}
use Rattle.kp_core.proofs.machine.Core.append_if_it_may_be.Goals as goal

pub returns-then-not-may_append-clause-step : goal.returns-then-not-may_append-clause-step
returns-then-not-may_append-clause-step c = refuses c.args.item c.args.self.now (sym c.may_append.ensures ∙ c.if-not-may_append.true)
