use Rattle.std.proofs.Common.{rules, Bool, true, false, List, [], ◌∷◌, ◌++◌}
use Rattle.std.specs.Prelude.{All, if◌then◌else◌}
use Rattle.std.proofs.lemmas.List.Elements.{All-push, All-same}
use Rattle.kp_lanes.specs.Intake.{lanes_of}
use Rattle.kp_lanes.specs.Sender.{IsSenderOf}
use Rattle.kp_lanes.specs.Settling.{IsOf}
use Rattle.kp_lanes.specs.declared.sender.Finished.{Finished}
use Rattle.kp_producer_runs.proofs.lanes.ends.Lanes.finish.Goals as goal

either : {X : Type 0} (P : X → Type 0) (b : Bool) (xs ys : List X) → All P xs → All P ys → All P (if b then xs else ys)
either P true xs ys of_xs of_ys = of_xs
either P false xs ys of_xs of_ys = of_ys

pub invariant_of-self-2-clause-ended : goal.invariant_of-self-2-clause-ended
invariant_of-self-2-clause-ended c =
    let Its : Finished → Type 0 = IsOf (lanes_of c.args.self.now.intake) in
    let mine : IsSenderOf (lanes_of c.args.self.now.intake) c.in_ok-sender.sender = search rules in
    let one : Its c.finish.result = search rules in
    let more : All Its (c.args.self.now.finished.items ++ c.finish.result ∷ []) = All-push Its _ _ c.args.self.now.ended one in
    All-same Its _ _ c.push.ensures.items (either Its _ _ _ more c.args.self.now.ended)
