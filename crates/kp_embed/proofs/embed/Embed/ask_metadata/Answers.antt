use Rattle.std.proofs.Common.{refl, ◌∙◌, subst}
use Rattle.kp_embed.specs.Producer.{Producer}
use Rattle.kp_embed.specs.Taking.{AsksNext}
use Rattle.kp_embed.specs.declared.line.Question.TheVariants.{Metadata}
use Rattle.kp_embed.proofs.ActLemmas.{made}
use Rattle.kp_embed.proofs.AskLemmas.{asked, asks_metadata, none_asked}
use Rattle.kp_embed.proofs.embed.Embed.ask_metadata.Goals as goal

pub returns-in-Ok-clause-asks : goal.returns-in-Ok-clause-asks
returns-in-Ok-clause-asks c =
    let i = c.self.inside in
    let line = c.args.line.now in
    let bytes = c.of.ensures ∙ c.in-Ok.ensures in
    subst (λ (a : Producer). AsksNext c.args.node c.args.now a line (made i.is_failed i.is_closed i.config.producer i.names i.core i.counts.items i.lines c.asked.new.self) (asked Metadata c.of.result line)) c.self.view_is
    (asks_metadata c.args.node c.args.now (made i.is_failed i.is_closed i.config.producer i.names i.core i.counts.items i.lines i.cluster) (made i.is_failed i.is_closed i.config.producer i.names i.core i.counts.items i.lines c.asked.new.self) line c.of.result refl refl refl refl c.requires.none c.requires.taken bytes)

pub returns-in-Err-clause-none : goal.returns-in-Err-clause-none
returns-in-Err-clause-none c = none_asked c.args.node c.args.now c.args.self.now
