use Rattle.kp_embed.proofs.HearLemmas.{SoFar}
use Rattle.kp_embed.proofs.embed.Embed.hear_all.Given as goal

abbrev pub invariant-loop : goal.invariant-loop
invariant-loop l = SoFar l.now l.fn.self l.fn.line l.bytes l.self l.line
