use Rattle.std.proofs.Common.{ℕ, ◌<◌, length, sym, ap, ◌∙◌, subst}
use Rattle.std.specs.Prelude.{slice_index, slice_set}
use Rattle.kp_embed.specs.Producer.{Producer}
use Rattle.kp_embed.specs.Sending.{Sends}
use Rattle.kp_embed.proofs.ActLemmas.{made}
use Rattle.kp_embed.proofs.SendLemmas.{sends_made}
use Rattle.kp_embed.proofs.embed.Embed.append.Goals as goal

pub returns-in-Ok-clause-sends : goal.returns-in-Ok-clause-sends
returns-in-Ok-clause-sends c =
    let i = c.self.inside in
    let b = c.want_leader.new.self in
    let same = c.want_leader.ensures in
    subst (λ (a : Producer). Sends a c.args.now c.args.body c.args.ticket b) c.self.view_is
    (sends_made (made i.is_failed i.is_closed i.config.producer i.names i.core i.counts.items i.lines i.cluster) b c.in-Some-core.core c.append_to.new.core c.args.now c.args.body c.args.ticket
    (ap (λ (p : Producer). p.config) same) (ap (λ (p : Producer). p.names) same) c.in-Some-core.is c.in-Ok.ensures.taken (ap (λ (p : Producer). p.core) same)
    (c.requires.number ∙ ap (λ (p : Producer). slice_index p.counts c.args.ticket.partition) (sym c.self.view_is))
    (subst (λ (p : Producer). c.args.ticket.partition < length p.counts) (sym c.self.view_is) c.requires.there)
    (ap (λ (p : Producer). p.counts) same ∙ ap (λ (n : ℕ). slice_set i.counts.items c.args.ticket.partition n) c.in-Some.ensures.1)
    (ap (λ (p : Producer). p.lines) same)
    c.in-Ok.ensures.left)
