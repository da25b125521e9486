use Rattle.std.proofs.Common.{◌≡◌, ℕ, List, Option, Some, refl, sym, ap, ◌∙◌, subst}
use Rattle.kp_cluster.specs.Cluster.{Cluster}
use Rattle.kp_embed.specs.Connecting.{Connects, Loses}
use Rattle.kp_embed.specs.Going.{Stays}
use Rattle.kp_embed.specs.Lines.{AtNode, SameLines}
use Rattle.kp_embed.specs.Producer.{Producer, fresh_line}
use Rattle.kp_embed.specs.declared.line.Line.{Line}
use Rattle.kp_embed.proofs.ActLemmas.{made}
use Rattle.kp_embed.proofs.TickLemmas.{stays_made}
use Rattle.kp_embed.proofs.embed.Embed.connected.Goals as goal

pub returns-then-node-count-clause-refused : goal.returns-then-node-count-clause-refused
returns-then-node-count-clause-refused c = stays_made c.args.self.now c.args.self.now refl refl refl refl (λ k. refl)

pub returns-in_default-clause-refused : goal.returns-in_default-clause-refused
returns-in_default-clause-refused c =
    let i = c.self.inside in
    subst (λ (a : Producer). Stays a (made i.is_failed i.is_closed i.config.producer i.names i.core i.counts.items c.grow.new.self i.cluster)) c.self.view_is
    (stays_made (made i.is_failed i.is_closed i.config.producer i.names i.core i.counts.items i.lines i.cluster) (made i.is_failed i.is_closed i.config.producer i.names i.core i.counts.items c.grow.new.self i.cluster) refl refl refl refl c.grow.ensures.same)

-- there is a place for the node, what was carried to it is lost, and a new line is put there
connects_put : (node now : ℕ) (a lost : Producer) (grown put : List (Option Line)) (cluster : Cluster) (line : Line) → SameLines a.lines grown → Loses node now (record a { lines = grown }) lost
    → AtNode node (Some line) lost.lines put → line ≡ fresh_line → Connects node now a (record lost { lines = put; cluster = cluster })
connects_put node now a lost grown put cluster line same loses at is = record {
  acts = record {
    config = loses.acts.config;
    names = loses.acts.names;
    core = loses.acts.core;
    taken = loses.acts.taken;
    next = loses.acts.next;
    counts = loses.acts.counts;
  };
  lines = record {
    its = at.its ∙ ap (λ (l : Line). Some l) is;
    others = λ k other. at.others k other ∙ loses.lines.others k other ∙ same k;
  };
}

pub returns-clause-connects : goal.returns-clause-connects
returns-clause-connects c =
    let i = c.self.inside in
    let j = c.self-2.inside in
    let node = c.args.node in
    let now = c.args.now in
    let grown = made i.is_failed i.is_closed i.config.producer i.names i.core i.counts.items c.grow.new.self i.cluster in
    let new = made j.is_failed j.is_closed j.config.producer j.names j.core j.counts.items c.put.new.self c.connected.new.self in
    subst (λ (a : Producer). Connects node now a new) c.self.view_is
    (connects_put node now (made i.is_failed i.is_closed i.config.producer i.names i.core i.counts.items i.lines i.cluster) (made j.is_failed j.is_closed j.config.producer j.names j.core j.counts.items j.lines j.cluster)
    c.grow.new.self c.put.new.self c.connected.new.self c.new.result c.grow.ensures.same (subst (λ (p : Producer). Loses node now grown p) (sym c.self-2.view_is) c.drop_line.ensures.loses) c.put.ensures.put c.new.ensures)
