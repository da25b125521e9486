use Rattle.std.proofs.Common.{◌≡◌, ◌∙◌, true, ap, inl, refl, subst, sym}
use Rattle.kp_core.specs.Spent.{can_only_end}
use Rattle.kp_engine.specs.Made.{WasPolled}
use Rattle.kp_engine.specs.Polls.{IsDone}
use Rattle.kp_engine.specs.declared.cluster.ClusterEngine.{ClusterEngine}
use Rattle.kp_engine.specs.declared.parts.Parts.{Parts}
use Rattle.kp_engine.proofs.MadeLemmas.{ended_then, has_served}
use Rattle.kp_engine.proofs.PartsLemmas.{accounted}
use Rattle.kp_engine.proofs.SinceLemmas.{end_served}
use Rattle.kp_client.specs.Serving.{GivesUpFor, LostFor}
use Rattle.kp_client.specs.declared.left.Ending.{Ending}
use Rattle.kp_client.proofs.AccountLemmas.{all_accounted}
use Rattle.kp_client.proofs.DoneLemmas.{holds_nothing}
use Rattle.kp_client.proofs.EndLemmas.{still_looks}
use Rattle.kp_client.proofs.ServiceLemmas.{lost_more}
use Rattle.kp_client.proofs.serving.ended.Goals as goal

pub new-requires-clause-accounted : goal.new-requires-clause-accounted
new-requires-clause-accounted g c =
    let h = c.requires.serves in
    let polled = subst (λ (e : ClusterEngine _ _). WasPolled h.core h.intake h.serves.calls e.exchange) (sym c.into_engine-engine.ensures) h.serves.polled in
    let s = has_served h.core h.intake h.serves.calls _ polled in
    let e = end_served h.core h.intake h.serves.calls _ _ _ s c.end-told.ensures.step c.end-told.ensures.only.0 in
    all_accounted _ (accounted _ _ _ _ _ e.0 e.1 c.into_parts.ensures)

pub new-requires-clause-done : goal.new-requires-clause-done
new-requires-clause-done g c is =
    let h = c.requires.serves in
    let polled = subst (λ (e : ClusterEngine _ _). WasPolled h.core h.intake h.serves.calls e.exchange) (sym c.into_engine-engine.ensures) h.serves.polled in
    let s = has_served h.core h.intake h.serves.calls _ polled in
    let d = subst (λ (e : ClusterEngine _ _). IsDone e.exchange) (sym c.into_engine-engine.ensures) (c.requires.done is) in
    let e = end_served h.core h.intake h.serves.calls _ _ _ s c.end-told.ensures.step c.end-told.ensures.only.0 in
    holds_nothing _ _ _ _ _ _ s e.0 e.1 c.end-told.ensures.only.0 d _ c.into_parts.ensures

pub returns-clause-ended : goal.returns-clause-ended
returns-clause-ended g c core intake h =
    let polled = subst (λ (e : ClusterEngine _ _). WasPolled core intake h.calls e.exchange) (sym c.into_engine-engine.ensures) h.polled in
    let w = ended_then core intake h.calls _ polled _ _ c.end-told.ensures.step c.end-told.ensures.only.0 _ c.into_parts.ensures in record {
      calls = _;
      how = inl (record {
        parts = c.into_parts.result;
        engine = w;
        same_core = ap (λ (p : Parts). p.core) c.new.ensures.0;
        same_held = ap (λ (p : Parts). p.held) c.new.ensures.0;
        looks = still_looks _ _ (ap (λ (p : Parts). p.intake) c.new.ensures.0);
        done = λ is.
            let d = subst (λ (e : ClusterEngine _ _). IsDone e.exchange) (sym c.into_engine-engine.ensures) (c.requires.done (sym c.new.ensures.1 ∙ is)) in
            c.end-told.ensures.only.0.closed ∙ d.closed;
        gave_up = λ cause is.
            let for : cause ≡ c.args.tended.fleet.why = subst (λ (how : Ending). GivesUpFor how c.args.tended.fleet) (sym c.new.ensures.1 ∙ is) c.requires.cause in
            lost_more core intake h.calls _ cause (subst (LostFor core intake h.calls) (sym for) h.lost);
        spent = λ is. record {
          earlier = h.calls;
          last = _;
          polled = polled;
          spent = subst (λ (e : ClusterEngine _ _). can_only_end e.exchange.core ≡ true) (sym c.into_engine-engine.ensures)
              (subst (λ (how : Ending). GivesUpFor how c.args.tended.fleet) (sym c.new.ensures.1 ∙ is) c.requires.cause);
          told = c.end-told.result;
          made = refl;
        };
      });
    }

pub returns-clause-told : goal.returns-clause-told
returns-clause-told g c = (c.new.ensures.1, c.new.ensures.2)
