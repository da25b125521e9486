use Rattle.std.proofs.Common.{[], ◌∷◌, ◌++◌, ◌∙◌, ℕ, Option, Result, Ok, ap, subst}
use Rattle.std.specs.Global.{Vec}
use Rattle.futures.specs.declared.task.Poll.{Poll}
use Rattle.futures.specs.declared.task.Poll.TheVariants.{Ready}
use Rattle.kp_connection.proofs.WireLemmas.{Goes-then}
use Rattle.kp_connection.specs.Answers.Answer.{Came}
use Rattle.kp_connection.specs.Wire.{Brings, Gives, Hears, Reads, Writes}
use Rattle.kp_connection.specs.declared.fault.ReadFault.{ReadFault}
use Rattle.kp_network.proofs.asking.poll_content.Goals as goal

pub returns-in-Some-clause-hears : goal.returns-in-Some-clause-hears
returns-in-Some-clause-hears g c =
    let answers = g.S.Stream.answers in
    let in_order = g.met.S.Stream.answers_in_order in
    let a = c.args.wire.now in
    let b = c.poll_write.new.self in
    let d = c.poll_read_once.new.self in
    let e = c.next_frame.new.self in
    let writes : Writes answers a (Ready c.in-Ready-Ok.field-0) b = c.in-Ready-Ok.ensures.writes in
    let brings : Brings answers 65536 b c.in-Ready-Ok-poll_read_once.field-0-0 d =
    subst (λ (polled : Poll (Result ℕ ReadFault)). Reads answers 65536 b polled d) (c.in-Ready-Ok-poll_read_once.is ∙ ap Ready c.in-Ready-Ok-poll_read_once.field-0-is) c.poll_read_once.ensures.reads in
    let gives : Gives answers d c.in-Some.content.items e = subst (λ (o : Option (Vec ℕ)). Hears answers d (Ok o) e) c.in-Some.is c.in_ok-content.ensures in
    record {
      xs = (writes.xs ++ Came brings.bytes ∷ []) ++ [];
      goes = Goes-then answers in_order a d e [] [] [] (c.in-Some.content.items ∷ []) (writes.xs ++ Came brings.bytes ∷ []) []
          (Goes-then answers in_order a b d [] [] [] [] writes.xs (Came brings.bytes ∷ []) writes.goes brings.goes) gives.goes;
    }
