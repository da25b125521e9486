use Rattle.std.proofs.Common.{◌≡◌, ◌∙◌, Ok, Some, sym, ap}
use Rattle.kp_rules.specs.declared.outgoing.Outgoing.{Outgoing}
use Rattle.kp_rules.specs.Framing.{frame_of}
use Rattle.kp_rules.specs.Records.{Core, InitProducerId}
use Rattle.kp_core.proofs.RequestStepLemmas.{answers_memory, answers_out, answers_spent}
use Rattle.kp_core.proofs.machine.Core.ask_for_id.Goals as goal

pub returns-then-is_spent : goal.returns-then-is_spent
returns-then-is_spent c =
    answers_spent c.args.node c.args.now c.args.self.now (InitProducerId c.args.partition) c.requires.going c.requires.demand (sym c.is_spent.ensures ∙ c.if-is_spent.true)

pub returns-in-Err : goal.returns-in-Err
returns-in-Err c =
    answers_memory c.args.node c.args.now c.args.self.now (InitProducerId c.args.partition) c.requires.going c.requires.demand (sym c.is_spent.ensures ∙ c.if-is_spent.false)

pub returns-in-Err-commit_asking : goal.returns-in-Err-commit_asking
returns-in-Err-commit_asking c =
    let s = c.args.self.now in
    let step = answers_memory c.args.node c.args.now s (InitProducerId c.args.partition) c.requires.going c.requires.demand (sym c.is_spent.ensures ∙ c.if-is_spent.false) in
    (step.0, c.in-Err-commit_asking.ensures.err)

pub returns-in-Ok-commit_asking : goal.returns-in-Ok-commit_asking
returns-in-Ok-commit_asking c =
    let s = c.args.self.now in
    let d = InitProducerId c.args.partition in
    let bytes : c.in-Ok.bytes ≡ frame_of s.config s.names (record { correlation = s.correlation; demand = d }) =
    c.in-Ok.ensures s.config c.args.partition ∙ ap (λ (x : Core). frame_of s.config x.names (record { correlation = x.correlation; demand = d })) c.self.view_is in
    let step = answers_out c.args.node c.args.now s c.commit_asking.new.self d c.in-Ok.bytes c.requires.going c.requires.demand (sym c.is_spent.ensures ∙ c.if-is_spent.false) bytes c.in-Ok-commit_asking.ensures.after in
    (step.0 ∙ ap (λ (out : Outgoing). Ok (Some out)) (sym c.in-Ok-commit_asking.ensures.out), step.1)
