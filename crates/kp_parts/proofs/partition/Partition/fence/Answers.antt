use Rattle.std.proofs.Common.{◌∙◌, sym, ap, subst, List}
use Rattle.kp_rules.specs.Records.{Told}
use Rattle.kp_parts.specs.Desk.{tell_desk, Covers}
use Rattle.kp_parts.proofs.FencingLemmas.{fenced-is, fenced-told}
use Rattle.kp_parts.proofs.partition.Partition.fence.Goals as goal

pub give_up-requires : goal.give_up-requires
give_up-requires c = subst (Covers c.args.desk.now) (fenced-told c.args.self.now) c.requires

pub returns-clause-after : goal.returns-clause-after
returns-clause-after c = fenced-is c.args.self.now _ (c.self.view_is ∙ c.give_up.ensures.after)

pub returns-clause-told : goal.returns-clause-told
returns-clause-told c =
    c.give_up.ensures.told ∙ ap (λ (told : List Told). tell_desk told c.args.desk.now) (sym (fenced-told c.args.self.now))
