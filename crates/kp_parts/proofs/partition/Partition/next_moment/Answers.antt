use Rattle.std.proofs.Common.{◌∙◌, sym}
use Rattle.kp_parts.proofs.IdleLemmas.{idle_awaits_nothing}
use Rattle.kp_parts.proofs.partition.Partition.next_moment.Goals as goal

pub returns-then-is_idle : goal.returns-then-is_idle
returns-then-is_idle c = sym (idle_awaits_nothing c.args.from c.args.config.now c.args.self.now (sym c.is_idle.ensures ∙ c.if-is_idle.true))
