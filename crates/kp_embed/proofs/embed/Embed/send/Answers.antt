use Rattle.kp_embed.proofs.embed.Embed.send.Goals as goal

pub returns-in-Err-clause-when : goal.returns-in-Err-clause-when
returns-in-Err-clause-when c = c.in-Err.ensures.when
