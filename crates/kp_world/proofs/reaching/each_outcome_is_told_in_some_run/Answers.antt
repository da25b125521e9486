use Rattle.std.proofs.Common.{refl, pos, [], ◌∷◌, arith}
use Rattle.std.proofs.lemmas.Int.{ints}
use Rattle.kp_rules.specs.declared.outcome.Outcome.TheVariants.{Delivered, Unknown, Rejected, Unsent}
use Rattle.kp_rules.specs.declared.outcome.Reason.TheVariants.{Expired, Fenced, Ended}
use Rattle.kp_world.specs.Reaching.{Tells, stored_and_repeated, sent_and_late, refused_and_followed, queued_and_late, queued_and_ended}
use Rattle.kp_world.specs.Replay.{MayAnswer}
use Rattle.kp_world.proofs.Evaluation.{evaluated}
use Rattle.kp_world.proofs.ReachingLemmas.{tells}
use Rattle.kp_world.proofs.reaching.each_outcome_is_told_in_some_run.Goals as goal

delivered : Tells stored_and_repeated (Delivered (pos 0) ∷ [])
unfolding evaluated
delivered = tells stored_and_repeated (Delivered (pos 0) ∷ []) (tt, (tt, (tt, (tt, (tt, (tt, (tt, (tt, (tt, (tt, (tt, (tt, tt)))))))))))) refl

unknown : Tells sent_and_late (Unknown ∷ [])
unfolding evaluated
unknown = tells sent_and_late (Unknown ∷ []) (tt, (tt, (tt, (tt, (tt, tt))))) refl

-- message too large
too_large : MayAnswer (pos 10)
too_large = (λ e. omega (arith, ints, e), λ e. omega (arith, ints, e))

rejected : Tells refused_and_followed (Rejected (pos 10) ∷ Unsent Fenced ∷ [])
unfolding evaluated
rejected = tells refused_and_followed (Rejected (pos 10) ∷ Unsent Fenced ∷ []) (tt, (tt, (tt, (too_large, (tt, (tt, (tt, tt))))))) refl

expired : Tells queued_and_late (Unsent Expired ∷ [])
unfolding evaluated
expired = tells queued_and_late (Unsent Expired ∷ []) (tt, (tt, (tt, (tt, tt)))) refl

ended : Tells queued_and_ended (Unsent Ended ∷ [])
unfolding evaluated
ended = tells queued_and_ended (Unsent Ended ∷ []) (tt, (tt, (tt, tt))) refl

pub returns : goal.returns
returns c = record { delivered = delivered; unknown = unknown; rejected = rejected; expired = expired; ended = ended }
