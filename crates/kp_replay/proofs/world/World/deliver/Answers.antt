use Rattle.std.proofs.Common.{ℕ, List, length, ap, subst, ◌∙◌}
use Rattle.kp_log.specs.Log.{Log}
use Rattle.kp_replay.specs.Line.{line_of}
use Rattle.kp_replay.specs.Serving.{Serves}
use Rattle.kp_replay.specs.contracts.world.World.{the_view}
use Rattle.kp_replay.proofs.DeliverLemmas.{all-written, deliver-returns, written-within}
use Rattle.kp_replay.proofs.world.World.deliver.Goals as goal

pub returns : goal.returns
returns c =
    let v = the_view c.self.inside in
    let how = c.args.treatment in
    let o = c.index.result.now in
    let bytes = c.in_ok-bytes.bytes in
    let line = line_of c.in_ok-bytes.line in
    let serves : Serves how (length v.replies) v.logs v.drawn o c.serve.new.logs c.serve.new.drawn bytes line =
    subst (λ (logs : List Log). Serves how (length v.replies) logs v.drawn o c.serve.new.logs c.serve.new.drawn bytes line) c.as_mut_slice.ensures.value
    (subst (λ (j : ℕ). Serves how j c.as_mut_slice.result.now v.drawn o c.serve.new.logs c.serve.new.drawn bytes line) (c.len-reply.ensures ∙ c.self.inside.replies.ok.0) c.in_ok-bytes.ensures) in
    deliver-returns c.note.result c.args.packet how c.args.self.now v c.note.new.self c.self.view_is o c.requires c.index.ensures c.flushed-was_flushed.result c.flushed-was_flushed.ensures
    c.serve.new.logs c.serve.new.drawn bytes line serves _ (all-written c.self.inside.logs.len c.serve.new.logs _ (c.serve.auto.logs ∙ c.as_mut_slice.ensures.len)) c.push.new.self.items c.in_ok-push.ensures.items c.note.ensures

pub invariant_of-self : goal.invariant_of-self
invariant_of-self c =
    written-within c.self.inside.logs.len c.serve.new.logs _ c.self.inside.logs.items (c.serve.auto.logs ∙ c.as_mut_slice.ensures.len) (c.serve.auto.logs ∙ ap (λ (logs : List Log). length logs) c.as_mut_slice.ensures.value) c.self.invariant

pub invariant_of-self-in_err-push : goal.invariant_of-self-in_err-push
invariant_of-self-in_err-push c =
    written-within c.self.inside.logs.len c.serve.new.logs _ c.self.inside.logs.items (c.serve.auto.logs ∙ c.as_mut_slice.ensures.len) (c.serve.auto.logs ∙ ap (λ (logs : List Log). length logs) c.as_mut_slice.ensures.value) c.self.invariant

pub invariant_of-self-2 : goal.invariant_of-self-2
invariant_of-self-2 c =
    written-within c.self.inside.logs.len c.serve.new.logs _ c.self.inside.logs.items (c.serve.auto.logs ∙ c.as_mut_slice.ensures.len) (c.serve.auto.logs ∙ ap (λ (logs : List Log). length logs) c.as_mut_slice.ensures.value) c.self.invariant
