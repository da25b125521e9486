use Rattle.std.proofs.Common.{[], length, refl, sym, subst}
use Rattle.kp_embed.specs.Going.{Becomes, core_by}
use Rattle.kp_embed.proofs.ActLemmas.{acts_same, becomes_none}
use Rattle.kp_embed.proofs.embed.Embed.ensure_core.Goals as goal
use Rattle.kp_rules.specs.Records.{Core}

pub returns-then-is_some-clause-acts : goal.returns-then-is_some-clause-acts
returns-then-is_some-clause-acts c = acts_same c.args.self.now

pub returns-in-Ok-clause-under : goal.returns-in-Ok-clause-under
returns-in-Ok-clause-under c = λ none early.
    let a = c.args.self.now in
    let made = core_by a.config a.names (length a.cluster.leaders) c.args.producer_id in record {
      core = c.in-Ok.core;
      is = refl;
      becomes = subst (λ (s : Core). Becomes made [] s) (sym c.in-Ok.ensures.under) (becomes_none made);
    }
