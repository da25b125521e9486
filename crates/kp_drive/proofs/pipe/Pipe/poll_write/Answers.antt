use Rattle.std.proofs.Common.{◌∷◌, [], ℕ, List, Ok, Result, refl, sym, ap, ◌∙◌, subst}
use Rattle.std.specs.declared.io.Error.{Error}
use Rattle.futures.specs.declared.task.Poll.{Poll}
use Rattle.futures.specs.declared.task.Poll.TheVariants.{Ready}
use Rattle.kp_connection.specs.Answers.{write_answer}
use Rattle.kp_connection.specs.Answers.Answer.{Went, Write_failed, Write_waits}
use Rattle.kp_drive.specs.Serving.{Serves}
use Rattle.kp_drive.proofs.ServeLemmas.{moved_none, serves_same, wrote}
use Rattle.kp_drive.proofs.pipe.Pipe.poll_write.Goals as goal

pub returns-then-is_empty-clause-serves : goal.returns-then-is_empty-clause-serves
returns-then-is_empty-clause-serves g c = λ node now p. serves_same g.S.Stream.answers node now p c.args.self.now g.met.S.Stream.answers_nothing

pub returns-in-Pending-clause-serves : goal.returns-in-Pending-clause-serves
returns-in-Pending-clause-serves g c = λ node now p. moved_none g.S.Stream.answers node now p c.args.self.now Write_waits c.poll_give.new.self refl refl c.in-Pending.ensures.told

pub returns-in-Ready-Ok-clause-serves : goal.returns-in-Ready-Ok-clause-serves
returns-in-Ready-Ok-clause-serves g c = λ node now p.
    let a = c.args.self.now in
    let s = c.poll_give.new.self in
    let bytes = subst (λ (xs : List ℕ). g.S.Stream.answers a.stream (write_answer c.poll_give.result xs ∷ []) s) c.as_slice.ensures c.poll_give.ensures.told in
    let told = subst (λ (r : Poll (Result ℕ Error)). g.S.Stream.answers a.stream (write_answer r a.unwritten ∷ []) s) (c.in-Ready-Ok.is ∙ ap Ready c.in-Ready-Ok.field-0-is) bytes in
    subst (λ (xs : List ℕ). Serves g.S.Stream.answers node now p a p (record { stream = s; unwritten = xs })) (sym c.advance.ensures)
    (wrote g.S.Stream.answers node now p a c.in-Ready-Ok.count s told)

pub returns-in-Ready-Ok-eq0-clause-serves : goal.returns-in-Ready-Ok-eq0-clause-serves
returns-in-Ready-Ok-eq0-clause-serves g c = λ node now p.
    let a = c.args.self.now in
    let s = c.poll_give.new.self in
    let none = c.in-Ready-Ok-eq0.is ∙ ap Ready (c.in-Ready-Ok-eq0.field-0-is ∙ ap Ok c.in-Ready-Ok-eq0.field-0-0-test) in
    let told = subst (λ (r : Poll (Result ℕ Error)). g.S.Stream.answers a.stream (write_answer r c.as_slice.result.now ∷ []) s) none c.poll_give.ensures.told in
    moved_none g.S.Stream.answers node now p a (Went []) s refl refl told

pub returns-in-Ready-Err-clause-serves : goal.returns-in-Ready-Err-clause-serves
returns-in-Ready-Err-clause-serves g c = λ node now p.
    let a = c.args.self.now in
    let s = c.poll_give.new.self in
    let told = subst (λ (r : Result ℕ Error). g.S.Stream.answers a.stream (write_answer (Ready r) c.as_slice.result.now ∷ []) s) c.in-Ready-Err.field-0-is c.in-Ready-Err.ensures.told in
    moved_none g.S.Stream.answers node now p a Write_failed s refl refl told
