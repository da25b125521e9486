use Rattle.std.proofs.Common.{ap, subst, sym, refl, ◌∙◌}
use Rattle.std.specs.Prelude.{false}
use Rattle.kp_engine.specs.Engine.{IsNew}
use Rattle.kp_running.specs.Fleet.{IsGoing}
use Rattle.kp_running.specs.declared.fleet.Fleet.{Fleet}
use Rattle.kp_client.specs.Serving.{IsServing}
use Rattle.kp_client.proofs.ServiceLemmas.{ended_anew, new_serves, still_ended}
use Rattle.kp_client.proofs.serving.serve_over.Goals as goal

pub serve_on-requires-clause-serves : goal.serve_on-requires-clause-serves
serve_on-requires-clause-serves g c _ _ =
    let made = c.in-Ok.ensures in
    subst (λ (f : Fleet _ _ _). IsServing f) (sym c.new-tended.ensures)
    (record { core = c.args.core; intake = c.args.intake; serves = new_serves c.args.core c.args.intake _ c.requires made.made made.lines.0 refl })

pub serve_on-requires-clause-going : goal.serve_on-requires-clause-going
serve_on-requires-clause-going g c _ _ = subst (λ (f : Fleet _ _ _). IsGoing f) (sym c.new-tended.ensures) c.in-Ok.ensures.lines.1

pub returns-in-Ok-clause-ended : goal.returns-in-Ok-clause-ended
returns-in-Ok-clause-ended g c =
    let made = c.in-Ok.ensures in
    let its = c.new-tended.ensures in
    ended_anew c.args.core c.args.intake c.new-tended.result.fleet _ c.requires
    (subst (λ (f : Fleet _ _ _). IsNew c.args.core c.args.intake false f.engine.exchange) (sym its) made.made)
    (ap (λ (f : Fleet _ _ _). f.engine.lines.items) its ∙ made.lines.0) (ap (λ (f : Fleet _ _ _). f.why) its) c.serve_on.ensures.ended

pub returns-in-Err-clause-ended : goal.returns-in-Err-clause-ended
returns-in-Err-clause-ended g c =
    still_ended c.args.core _ c.args.intake _ _ c.unserved.ensures.ended (ap (λ q. q.0) c.in-Err.ensures.back) (ap (λ q. q.1) c.in-Err.ensures.back)
