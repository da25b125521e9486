use Rattle.std.proofs.Common.{◌∷◌, [], ℕ, Ok, Result, take, refl, ap, ◌∙◌, subst}
use Rattle.std.specs.declared.io.Error.{Error}
use Rattle.futures.specs.declared.task.Poll.{Poll}
use Rattle.futures.specs.declared.task.Poll.TheVariants.{Ready}
use Rattle.kp_connection.specs.Answers.{read_answer}
use Rattle.kp_connection.specs.Answers.Answer.{Came, Read_failed, Read_waits}
use Rattle.kp_drive.proofs.ServeLemmas.{heard, moved_none, not_heard, stops_here}
use Rattle.kp_drive.proofs.pipe.Pipe.poll_read.Goals as goal

pub returns-in-Pending-clause-serves : goal.returns-in-Pending-clause-serves
returns-in-Pending-clause-serves g c =
    moved_none g.S.Stream.answers c.args.node c.args.now c.args.embed.now c.args.self.now Read_waits c.poll_take.new.self refl refl c.in-Pending.ensures.told

pub returns-in-Ok-clause-serves : goal.returns-in-Ok-clause-serves
returns-in-Ok-clause-serves g c =
    let a = c.args.self.now in
    let s = c.poll_take.new.self in
    let told = subst (λ (r : Result ℕ Error). g.S.Stream.answers a.stream (read_answer (Ready r) c.poll_take.new.buf ∷ []) s) c.in-Ready-Ok.field-0-is c.in-Ready-Ok.ensures.told in
    heard g.S.Stream.answers c.args.node c.args.now c.args.embed.now c.feed.new.self a (take c.in-Ready-Ok.count c.poll_take.new.buf) s told c.in-Ok.ensures.listens

pub returns-in-Err-clause-serves : goal.returns-in-Err-clause-serves
returns-in-Err-clause-serves g c =
    let a = c.args.self.now in
    let s = c.poll_take.new.self in
    let told = subst (λ (r : Result ℕ Error). g.S.Stream.answers a.stream (read_answer (Ready r) c.poll_take.new.buf ∷ []) s) c.in-Ready-Ok.field-0-is c.in-Ready-Ok.ensures.told in
    not_heard g.S.Stream.answers c.args.node c.args.now c.args.embed.now c.feed.new.self a (take c.in-Ready-Ok.count c.poll_take.new.buf) s told c.in-Err.ensures.refused

pub returns-in-Ready-Ok-eq0-clause-serves : goal.returns-in-Ready-Ok-eq0-clause-serves
returns-in-Ready-Ok-eq0-clause-serves g c =
    let a = c.args.self.now in
    let s = c.poll_take.new.self in
    let none = c.in-Ready-Ok-eq0.is ∙ ap Ready (c.in-Ready-Ok-eq0.field-0-is ∙ ap Ok c.in-Ready-Ok-eq0.field-0-0-test) in
    let told = subst (λ (r : Poll (Result ℕ Error)). g.S.Stream.answers a.stream (read_answer r c.poll_take.new.buf ∷ []) s) none c.poll_take.ensures.told in
    stops_here g.S.Stream.answers c.args.node c.args.now c.args.embed.now c.args.embed.now a (record { stream = s; unwritten = a.unwritten })
    (moved_none g.S.Stream.answers c.args.node c.args.now c.args.embed.now a (Came []) s refl refl told)

pub returns-in-Ready-Err-clause-serves : goal.returns-in-Ready-Err-clause-serves
returns-in-Ready-Err-clause-serves g c =
    let a = c.args.self.now in
    let s = c.poll_take.new.self in
    let told = subst (λ (r : Result ℕ Error). g.S.Stream.answers a.stream (read_answer (Ready r) c.poll_take.new.buf ∷ []) s) c.in-Ready-Err.field-0-is c.in-Ready-Err.ensures.told in
    stops_here g.S.Stream.answers c.args.node c.args.now c.args.embed.now c.args.embed.now a (record { stream = s; unwritten = a.unwritten })
    (moved_none g.S.Stream.answers c.args.node c.args.now c.args.embed.now a Read_failed s refl refl told)
