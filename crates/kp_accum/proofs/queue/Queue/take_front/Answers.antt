use Rattle.std.proofs.Common.{◌∙◌, sym}
use Rattle.kp_accum.proofs.MarkLemmas.{marks-some, marks-less, marks-same}
use Rattle.kp_accum.proofs.queue.Queue.take_front.Goals as goal

pub overflow_sub-self : goal.overflow_sub-self
overflow_sub-self c =
    let marks = rw c.in_ok-front.ensures.items at c.self.invariant in
    marks-some c.self.inside.marked c.in_ok-front.front c.pop_front.new.self.items (sym c.is_marked.ensures ∙ c.if-is_marked.true) marks

pub invariant_of-self-then-is_marked : goal.invariant_of-self-then-is_marked
invariant_of-self-then-is_marked c =
    let marks = rw c.in_ok-front.ensures.items at c.self.invariant in
    marks-less c.self.inside.marked c.in_ok-front.front c.pop_front.new.self.items (sym c.is_marked.ensures ∙ c.if-is_marked.true) marks

pub invariant_of-self-else-is_marked : goal.invariant_of-self-else-is_marked
invariant_of-self-else-is_marked c =
    let marks = rw c.in_ok-front.ensures.items at c.self.invariant in
    marks-same c.self.inside.marked c.in_ok-front.front c.pop_front.new.self.items (sym c.is_marked.ensures ∙ c.if-is_marked.false) marks
