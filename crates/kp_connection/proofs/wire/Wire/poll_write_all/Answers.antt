use Rattle.std.proofs.Common.{◌≡◌, [], Ok, ap, ◌∙◌, rules}
use Rattle.futures.specs.declared.task.Poll.TheVariants.{Ready}
use Rattle.kp_connection.proofs.WireLemmas.{wrote_more, writes_waited, writes_failed, writes_none}
use Rattle.kp_connection.proofs.wire.Wire.poll_write_all.Goals as goal

pub returns-in-Pending-clause-writes : goal.returns-in-Pending-clause-writes
returns-in-Pending-clause-writes g c =
    let inv = c.loop-self.invariant in
    let some : c.loop-self.self.kept ≡ [] → ⊥ = search rules in
    writes_waited g.S.Stream.answers g.met.S.Stream.answers_in_order _ _ _ c.poll_write_once.result inv.goes c.poll_write_once.ensures.goes (c.poll_write_once.ensures.held ∙ inv.held) c.poll_write_once.ensures.less some c.in-Pending.is

pub returns-in-Ready-Ok-eq0-clause-writes : goal.returns-in-Ready-Ok-eq0-clause-writes
returns-in-Ready-Ok-eq0-clause-writes g c =
    let inv = c.loop-self.invariant in
    let some : c.loop-self.self.kept ≡ [] → ⊥ = search rules in
    writes_none g.S.Stream.answers g.met.S.Stream.answers_in_order _ _ _ c.poll_write_once.result inv.goes c.poll_write_once.ensures.goes (c.poll_write_once.ensures.held ∙ inv.held) c.poll_write_once.ensures.less some _ (c.in-Ready-Ok-eq0.is ∙ ap Ready (c.in-Ready-Ok-eq0.field-0-is ∙ ap Ok c.in-Ready-Ok-eq0.field-0-0-test))

pub loop-self-preserved : goal.loop-self-preserved
loop-self-preserved g c =
    let inv = c.loop-self.invariant in
    record {
      goes = wrote_more g.S.Stream.answers g.met.S.Stream.answers_in_order _ _ _ c.poll_write_once.result inv.goes c.poll_write_once.ensures.goes;
      held = c.poll_write_once.ensures.held ∙ inv.held;
      keeps = search rules;
    }

pub returns-in-Ready-Err-clause-writes : goal.returns-in-Ready-Err-clause-writes
returns-in-Ready-Err-clause-writes g c =
    let inv = c.loop-self.invariant in
    let some : c.loop-self.self.kept ≡ [] → ⊥ = search rules in
    writes_failed g.S.Stream.answers g.met.S.Stream.answers_in_order _ _ _ c.poll_write_once.result inv.goes c.poll_write_once.ensures.goes (c.poll_write_once.ensures.held ∙ inv.held) c.poll_write_once.ensures.less some _ (c.in-Ready-Err.is ∙ ap Ready c.in-Ready-Err.field-0-is)
