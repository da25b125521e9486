use Rattle.std.proofs.Common.{refl}
use Rattle.kp_embed.proofs.ActLemmas.{acts_idly}
use Rattle.kp_embed.proofs.embed.Embed.heed_opening.Goals as goal

pub returns-then-is_some-clause-acts : goal.returns-then-is_some-clause-acts
returns-then-is_some-clause-acts c = acts_idly c.args.self.now c.args.self.now refl refl refl refl
