use Rattle.std.proofs.Common.{◌≡◌, ◌∙◌, ap, sym, rules}
use Rattle.kp_accum.specs.Queue.{marked_in}
use Rattle.kp_accum.proofs.MarkLemmas.{marks-counted}
use Rattle.kp_accum.proofs.queue.Queue.marked.Goals as goal

pub returns : goal.returns
returns c =
    let same : c.self.inside.batches.items ≡ c.args.self.now = search rules in
    sym (marks-counted c.self.inside.marked c.self.inside.batches.items c.self.invariant) ∙ ap marked_in same
