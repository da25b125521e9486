use Rattle.std.proofs.Common.{◌∙◌, ap}
use Rattle.std.specs.Prelude.{nat_lt}
use Rattle.kp_accum.specs.Queue.{charge_of}
use Rattle.kp_replay.proofs.AcceptedLemmas.{large-by}
use Rattle.kp_replay.proofs.world.accepting.is_large.Goals as goal

pub returns : goal.returns
returns c = ap (λ n. nat_lt n c.charge.result) c.min.ensures ∙ large-by c.charge.result (charge_of c.args.item.now) c.args.config.now c.requires c.charge.ensures.exact c.charge.ensures.told
