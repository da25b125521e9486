use Rattle.std.proofs.Common.{◌≡◌, ℕ, Err, length, length-take-le, take, sym, ap, ◌∙◌, subst, arith}
use Rattle.futures.specs.declared.task.Poll.TheVariants.{Ready}
use Rattle.kp_connection.specs.declared.fault.ReadFault.{ReadFault}
use Rattle.kp_connection.specs.Wire.{Reads}
use Rattle.kp_connection.proofs.HearingLemmas.{fed_refused}
use Rattle.kp_connection.proofs.wire.poll_feed.Goals as goal

pub returns-in-Err-clause-reads : goal.returns-in-Err-clause-reads
returns-in-Err-clause-reads g c = λ kept.
    let room = take c.args.most c.deref_mut.result.now in
    let size : length room ≡ c.args.most = length-take-le c.args.most c.deref_mut.result.now (omega (arith, c.requires, c.deref_mut.ensures.len)) in
    subst (λ (n : ℕ). Reads g.S.Stream.answers n (record { stream = c.args.stream.now; kept = kept; held = c.args.held.now }) (Ready (Err c.refusal.result)) (record { stream = c.poll_take.new.self; kept = kept; held = c.feed.new.self })) size
    (subst (λ (r : ReadFault). Reads g.S.Stream.answers (length room) (record { stream = c.args.stream.now; kept = kept; held = c.args.held.now }) (Ready (Err r)) (record { stream = c.poll_take.new.self; kept = kept; held = c.feed.new.self })) (sym c.refusal.ensures)
    (fed_refused g.S.Stream.answers c.args.stream.now c.poll_take.new.self kept c.args.held.now c.feed.new.self c.poll_take.new.buf c.in-Ready-Ok.count (length room) c.poll_take.result c.in-Err.fault
    (c.in-Ready-Ok.is ∙ ap Ready c.in-Ready-Ok.field-0-is) c.poll_take.ensures.bound c.poll_take.auto.buf c.poll_take.ensures.told c.in-Err.ensures.fed))
