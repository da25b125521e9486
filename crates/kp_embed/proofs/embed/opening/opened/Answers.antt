use Rattle.std.proofs.Common.{◌≡◌, [], sym, ap, ◌∙◌, subst}
use Rattle.kp_embed.specs.Going.{Becomes, core_by}
use Rattle.kp_embed.proofs.ActLemmas.{becomes_none}
use Rattle.kp_embed.proofs.embed.opening.opened.Goals as goal
use Rattle.kp_rules.specs.declared.names.Names.{Names}
use Rattle.kp_rules.specs.Records.{Core}

pub returns-clause-core : goal.returns-clause-core
returns-clause-core c =
    let n = c.args.partitions in
    let id = c.args.producer_id in
    let made : c.in_ok-core.core ≡ core_by c.args.config c.args.names.now n id =
    c.in_ok-core.ensures ∙ ap (λ (names : Names). core_by c.args.config names n id) c.in_ok-names.ensures in record {
      partitions = n;
      id = id;
      may_open = c.requires.may;
      becomes = subst (λ (s : Core). Becomes (core_by c.args.config c.args.names.now n id) [] s) (sym made) (becomes_none (core_by c.args.config c.args.names.now n id));
    }
