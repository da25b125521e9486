use Rattle.std.proofs.Common.{refl, sym, ◌∙◌, subst}
use Rattle.kp_embed.specs.Producer.{Producer}
use Rattle.kp_embed.specs.Ticking.{GivesUpIfSpent}
use Rattle.kp_embed.proofs.ActLemmas.{made}
use Rattle.kp_embed.proofs.TickLemmas.{given_up_spent, not_given_up}
use Rattle.kp_embed.proofs.embed.Embed.give_up_if_spent.Goals as goal

pub returns-then-can_only_end-clause-gives_up : goal.returns-then-can_only_end-clause-gives_up
returns-then-can_only_end-clause-gives_up c =
    let i = c.self.inside in
    subst (λ (a : Producer). GivesUpIfSpent a (made i.is_failed i.is_closed i.config.producer i.names c.end.new.core i.counts.items i.lines i.cluster)) c.self.view_is
    (given_up_spent (made i.is_failed i.is_closed i.config.producer i.names i.core i.counts.items i.lines i.cluster) (made i.is_failed i.is_closed i.config.producer i.names c.end.new.core i.counts.items i.lines i.cluster) c.end.result
    (sym c.can_only_end.ensures ∙ c.if-can_only_end.true) refl refl c.end.ensures refl refl)

pub returns-else-can_only_end-clause-gives_up : goal.returns-else-can_only_end-clause-gives_up
returns-else-can_only_end-clause-gives_up c =
    let i = c.self.inside in
    subst (λ (a : Producer). GivesUpIfSpent a a) c.self.view_is
    (not_given_up (made i.is_failed i.is_closed i.config.producer i.names i.core i.counts.items i.lines i.cluster) (sym c.can_only_end.ensures ∙ c.if-can_only_end.false))
