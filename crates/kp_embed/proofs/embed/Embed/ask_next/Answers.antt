use Rattle.kp_embed.proofs.AskLemmas.{asks_later}
use Rattle.kp_embed.proofs.embed.Embed.ask_next.Goals as goal

pub returns-then-not-is_empty-clause-asks : goal.returns-then-not-is_empty-clause-asks
returns-then-not-is_empty-clause-asks c = asks_later c.args.node c.args.now c.args.self.now c.args.line.now
