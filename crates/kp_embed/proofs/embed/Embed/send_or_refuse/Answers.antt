use Rattle.std.proofs.Common.{inr, sym, subst}
use Rattle.kp_embed.specs.Producer.{Producer}
use Rattle.kp_embed.specs.Sending.{Sends}
use Rattle.kp_embed.proofs.embed.Embed.send_or_refuse.Goals as goal

pub returns-then-is_in_turn-clause-sends : goal.returns-then-is_in_turn-clause-sends
returns-then-is_in_turn-clause-sends c =
    subst (λ (p : Producer). Sends c.args.self.now c.args.now c.args.body c.in-Ok-append.ticket p) (sym c.self.view_is) c.in-Ok-append.ensures.sends

pub returns-else-is_in_turn-clause-sends : goal.returns-else-is_in_turn-clause-sends
returns-else-is_in_turn-clause-sends c = c.in-Ok-append.ensures.sends

pub returns-in-Err-append-clause-when : goal.returns-in-Err-append-clause-when
returns-in-Err-append-clause-when c = inr (c.in-Ok.ticket, c.in-Ok.ensures.to, c.in-Ok.ensures.number, c.in-Err-append.ensures.when)
