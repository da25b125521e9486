use Rattle.std.proofs.Common.{rules}
use Rattle.kp_embed.proofs.embed.Embed.lost.Goals as goal

pub returns-clause-loses : goal.returns-clause-loses
returns-clause-loses c = search rules
