use Rattle.std.proofs.Common.{◌∙◌, ℕ, Option, subst, sym}
use Rattle.kp_client.specs.Ends.{MayEnd}
use Rattle.kp_client.specs.Left.{new_connections_of}
use Rattle.kp_client.specs.Serving.{ending_for, GivesUpFor}
use Rattle.kp_client.specs.declared.left.Ending.{Ending}
use Rattle.kp_client.proofs.ServiceLemmas.{done_left, gave_up_for, may_end, runs_on, runs_out, runs_to, serving_on}
use Rattle.kp_client.proofs.serving.serve_on.Goals as goal

pub ended-requires-clause-serves : goal.ended-requires-clause-serves
ended-requires-clause-serves g c =
    serving_on _ _ (runs_on _ _ _ _ c.in-Ok.running.engine c.args.tended c.in_ok-tended-in-Ok.over c.in_ok-tended-in-Ok.tended c.in-Ok.ensures.ok c.in_ok-tended-in-Ok.ensures) c.requires.serves

pub ended-requires-clause-done : goal.ended-requires-clause-done
ended-requires-clause-done g c is =
    done_left c.in_ok-tended-in-Ok.over c.in_ok-tended-in-Ok.tended.fleet (sym c.ending_for.ensures ∙ is)
    (runs_to _ _ _ _ c.in-Ok.running.engine c.args.tended c.in_ok-tended-in-Ok.over c.in_ok-tended-in-Ok.tended c.in-Ok.ensures.ok c.in_ok-tended-in-Ok.ensures c.requires.going)

pub ended-requires-clause-cause : goal.ended-requires-clause-cause
ended-requires-clause-cause g c =
    subst (λ (how : Ending). GivesUpFor how c.in_ok-tended-in-Ok.tended.fleet) (sym c.ending_for.ensures)
    (gave_up_for c.in_ok-tended-in-Ok.over c.in_ok-tended-in-Ok.tended.fleet
    (runs_to _ _ _ _ c.in-Ok.running.engine c.args.tended c.in_ok-tended-in-Ok.over c.in_ok-tended-in-Ok.tended c.in-Ok.ensures.ok c.in_ok-tended-in-Ok.ensures c.requires.going))

pub returns-in_ok-tended-in-Ok-clause-ended : goal.returns-in_ok-tended-in-Ok-clause-ended
returns-in_ok-tended-in-Ok-clause-ended g c = λ core intake h. c.ended.ensures.ended core intake
    (runs_on _ _ _ _ c.in-Ok.running.engine c.args.tended c.in_ok-tended-in-Ok.over c.in_ok-tended-in-Ok.tended c.in-Ok.ensures.ok c.in_ok-tended-in-Ok.ensures core intake h)

pub returns-in_ok-tended-in-Ok-clause-gave_up : goal.returns-in_ok-tended-in-Ok-clause-gave_up
returns-in_ok-tended-in-Ok-clause-gave_up g c =
    let over = c.in_ok-tended-in-Ok.over in
    let limit : Option ℕ = g.K.Keeping.limit c.args.tended.fleet.keeping in
    let made : ℕ = g.K.Keeping.made c.in_ok-tended-in-Ok.tended.fleet.keeping in
    let may : MayEnd limit (ending_for over) made = may_end over limit made
    (runs_out _ _ _ _ c.in-Ok.running.engine c.args.tended c.in_ok-tended-in-Ok.over c.in_ok-tended-in-Ok.tended c.in-Ok.ensures.ok c.in_ok-tended-in-Ok.ensures) in
    subst (λ (how : Ending). MayEnd limit how (new_connections_of c.ended.result)) (sym (c.ended.ensures.told.0 ∙ c.ending_for.ensures))
    (subst (λ (n : ℕ). MayEnd limit (ending_for over) n) (sym (c.ended.ensures.told.1 ∙ c.new_connections-made.ensures)) may)

pub returns-in-Err-clause-gave_up : goal.returns-in-Err-clause-gave_up
returns-in-Err-clause-gave_up g c =
    let limit : Option ℕ = g.K.Keeping.limit c.args.tended.fleet.keeping in
    subst (λ (how : Ending). MayEnd limit how (new_connections_of c.ended-in-Err.result)) (sym c.ended-in-Err.ensures.told.0) tt

pub ended-requires-in-Err-clause-cause : goal.ended-requires-in-Err-clause-cause
ended-requires-in-Err-clause-cause g c = tt
