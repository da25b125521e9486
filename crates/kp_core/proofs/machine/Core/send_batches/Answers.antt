use Rattle.std.proofs.Common.{◌∙◌, Some, Ok, sym, ap}
use Rattle.kp_rules.specs.declared.outgoing.Outgoing.{Outgoing}
use Rattle.kp_rules.specs.Next.{next_batches}
use Rattle.kp_rules.specs.Records.{Produce}
use Rattle.kp_core.proofs.RequestStepLemmas.{answers_memory, answers_none, answers_out, answers_spent, no_batches, none_if, some_batches, some_if}
use Rattle.kp_core.proofs.machine.Core.send_batches.Goals as goal

pub returns-then-has_batches : goal.returns-then-has_batches
returns-then-has_batches c =
    let s = c.args.self.now in
    let some = some_if (next_batches c.args.node c.args.now s) (sym c.has_batches.ensures ∙ c.if-has_batches.true) in
    answers_spent c.args.node c.args.now s (Produce (next_batches c.args.node c.args.now s)) c.requires.going (some_batches c.args.node c.args.now s c.requires.window c.requires.asking some)
    (sym c.is_spent.ensures ∙ c.if-is_spent.true)

pub returns-then-is_spent : goal.returns-then-is_spent
returns-then-is_spent c =
    let s = c.args.self.now in
    let none = none_if (next_batches c.args.node c.args.now s) (sym c.has_batches.ensures ∙ c.if-has_batches.false) in
    answers_none c.args.node c.args.now s c.requires.going (no_batches c.args.node c.args.now s c.requires.window c.requires.asking none)

pub commit_batches-requires-clause-demand : goal.commit_batches-requires-clause-demand
commit_batches-requires-clause-demand c =
    let framed = rw c.in-Ok-Some.field-0-is at c.in-Ok-Some.ensures.ok in
    some_batches c.args.node c.args.now c.args.self.now c.requires.window c.requires.asking framed.0

pub returns-in-Err : goal.returns-in-Err
returns-in-Err c =
    let s = c.args.self.now in
    answers_memory c.args.node c.args.now s (Produce (next_batches c.args.node c.args.now s)) c.requires.going
    (some_batches c.args.node c.args.now s c.requires.window c.requires.asking c.in-Err.ensures.err) (sym c.is_spent.ensures ∙ c.if-is_spent.false)

pub returns-in-Ok-None : goal.returns-in-Ok-None
returns-in-Ok-None c =
    let s = c.args.self.now in
    answers_none c.args.node c.args.now s c.requires.going (no_batches c.args.node c.args.now s c.requires.window c.requires.asking (rw c.in-Ok-None.field-0-is at c.in-Ok-None.ensures.ok))

pub returns-in-Err-commit_batches : goal.returns-in-Err-commit_batches
returns-in-Err-commit_batches c =
    let s = c.args.self.now in
    let framed = rw c.in-Ok-Some.field-0-is at c.in-Ok-Some.ensures.ok in
    let step = answers_memory c.args.node c.args.now s (Produce (next_batches c.args.node c.args.now s)) c.requires.going
    (some_batches c.args.node c.args.now s c.requires.window c.requires.asking framed.0) (sym c.is_spent.ensures ∙ c.if-is_spent.false) in
    (step.0, c.in-Err-commit_batches.ensures.err)

pub returns-in-Ok : goal.returns-in-Ok
returns-in-Ok c =
    let s = c.args.self.now in
    let d = Produce (next_batches c.args.node c.args.now s) in
    let framed = rw c.in-Ok-Some.field-0-is at c.in-Ok-Some.ensures.ok in
    let step = answers_out c.args.node c.args.now s c.commit_batches.new.self d c.in-Ok-Some.bytes c.requires.going
    (some_batches c.args.node c.args.now s c.requires.window c.requires.asking framed.0) (sym c.is_spent.ensures ∙ c.if-is_spent.false) framed.1 c.in-Ok.ensures.after in
    (step.0 ∙ ap (λ (out : Outgoing). Ok (Some out)) (sym c.in-Ok.ensures.out), step.1)
