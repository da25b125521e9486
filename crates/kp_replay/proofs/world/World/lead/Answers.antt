use Rattle.kp_rules.specs.Leading.{lead_step}
use Rattle.kp_rules.specs.Records.{quietly}
use Rattle.kp_replay.specs.contracts.world.World.{the_view}
use Rattle.kp_replay.proofs.LeadingLemmas.{leader-returns}
use Rattle.kp_replay.proofs.ShownLemmas.{within}
use Rattle.kp_replay.proofs.TellingLemmas.{tells-lead}
use Rattle.kp_replay.proofs.world.World.lead.Goals as goal

pub invariant_of-self : goal.invariant_of-self
invariant_of-self c =
    within c.self.inside.core (quietly (lead_step c.args.partition c.args.node c.self.inside.moment c.self.inside.core) (tt {0})) (tells-lead c.args.partition c.args.node c.self.inside.moment c.self.inside.core)
    c.lead.new.self c.lead.ensures c.self.invariant

pub returns : goal.returns
returns c =
    leader-returns c.note.result c.args.partition c.args.node c.args.self.now (the_view c.self.inside) c.note.new.self c.self.view_is c.requires
    c.flushed-was_flushed.result c.flushed-was_flushed.ensures c.lead.new.self c.lead.ensures c.note.ensures
