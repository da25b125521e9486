use Rattle.std.proofs.Common.{◌≡◌, ◌∙◌, ◌∷◌, [], ◌++◌, List, ap, arith, subst}
use Rattle.kp_lanes.specs.Intake.{lanes_of}
use Rattle.kp_lanes.specs.Settling.{IsOf, SameFinished}
use Rattle.kp_lanes.specs.declared.sender.Finished.{Finished}
use Rattle.kp_client.specs.Ends.{ComesBack}
use Rattle.kp_client.specs.Left.{AccountsFor, IsSettled}
use Rattle.kp_client.proofs.SingleLemmas.{all_one, back_one, only_is_of, only_of, some_back, still_only}
use Rattle.kp_client.proofs.left.Ended.settle_single.Goals as goal

pub returns-in-Ok-clause-settled : goal.returns-in-Ok-clause-settled
returns-in-Ok-clause-settled c =
    let one : c.push.new.self.items ≡ c.args.finished ∷ [] = c.in_default.ensures.items ∙ ap (λ (l : List Finished). l ++ c.args.finished ∷ []) c.new-all.ensures.items in
    only_of (AccountsFor c.in-Ok.left) c.push.new.self.items c.args.finished one c.in-Ok.ensures.settled

pub returns-in-Some-clause-back : goal.returns-in-Some-clause-back
returns-in-Some-clause-back c =
    let one : c.push.new.self.items ≡ c.args.finished ∷ [] = c.in_default.ensures.items ∙ ap (λ (l : List Finished). l ++ c.args.finished ∷ []) c.new-all.ensures.items in
    let back : ComesBack c.args.self (c.args.finished ∷ []) c.in-Err-settle.ended c.in-Err-settle.all.items =
    subst (λ (fs : List Finished). ComesBack c.args.self fs c.in-Err-settle.ended c.in-Err-settle.all.items) one c.in-Err-settle.ensures.back in
    subst (λ (fs : List Finished). ComesBack c.args.self (c.args.finished ∷ []) c.in-Err-settle.ended fs)
    (back_one c.args.finished c.in-Err-settle.all.items c.pop.new.self.items c.in-Some.finished back.same_finished c.in-Some.ensures.items) back

pub returns-in-Some-clause-again : goal.returns-in-Some-clause-again
returns-in-Some-clause-again c = still_only c.args.self c.in-Err-settle.ended c.args.finished c.in-Some.finished (returns-in-Some-clause-back c) c.requires

pub returns-in-Ok-clause-rings : goal.returns-in-Ok-clause-rings
returns-in-Ok-clause-rings c =
    let one : c.push.new.self.items ≡ c.args.finished ∷ [] = c.in_default.ensures.items ∙ ap (λ (l : List Finished). l ++ c.args.finished ∷ []) c.new-all.ensures.items in
    subst (λ (fs : List Finished). IsSettled c.args.self.parts fs c.in-Ok.left) one c.in-Ok.ensures.rings

pub settle-requires : goal.settle-requires
settle-requires c =
    let one : c.push.new.self.items ≡ c.args.finished ∷ [] = c.in_default.ensures.items ∙ ap (λ (l : List Finished). l ++ c.args.finished ∷ []) c.new-all.ensures.items in
    all_one (IsOf (lanes_of c.args.self.parts.intake)) c.push.new.self.items c.args.finished one (only_is_of c.args.self.parts c.args.finished c.requires)

pub unreachable-requires : goal.unreachable-requires
unreachable-requires c =
    let one : c.push.new.self.items ≡ c.args.finished ∷ [] = c.in_default.ensures.items ∙ ap (λ (l : List Finished). l ++ c.args.finished ∷ []) c.new-all.ensures.items in
    some_back c.args.finished c.in-Err-settle.all.items (subst (λ (fs : List Finished). SameFinished fs c.in-Err-settle.all.items) one c.in-Err-settle.ensures.back.same_finished)
    (let none = c.in-None.ensures.cases.0 in omega (arith, none))
