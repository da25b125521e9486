use Rattle.std.proofs.Common.{◌≡◌, ◌∙◌, ap}
use Rattle.kp_accum.specs.Queue.{size_of}
use Rattle.kp_rules.specs.Next.{Sending}
use Rattle.kp_core.proofs.ChoosingLemmas.{fitting_all, fitting_here, fitting_past}
use Rattle.kp_core.proofs.machine.choosing.count_fitting.Goals as goal

pub returns-then-size-left : goal.returns-then-size-left
returns-then-size-left c =
    let x : Sending = c.index-sendings-place.result in
    let size : c.size-size.result ≡ size_of x.batch.items = c.size-size.ensures.value ∙ ap (λ (s : Sending). size_of s.batch.items) c.sending.view_is in
    fitting_past c.loop-place.left c.loop-place.place c.size-size.result c.args.sendings.now x c.loop-place-test.true c.index-sendings-place.is size c.if-size-left.true
    ∙ c.loop-place.invariant

pub loop-place-preserved : goal.loop-place-preserved
loop-place-preserved c =
    let x : Sending = c.index-sendings-place.result in
    let size : c.size-size.result ≡ size_of x.batch.items = c.size-size.ensures.value ∙ ap (λ (s : Sending). size_of s.batch.items) c.sending.view_is in
    fitting_here c.loop-place.left c.loop-place.place c.size-size.result c.args.sendings.now x c.loop-place-test.true c.index-sendings-place.is size c.if-size-left.false
    ∙ c.loop-place.invariant

pub returns : goal.returns
returns c = fitting_all c.loop-place.left c.loop-place.place c.args.sendings.now c.loop-place-test.false ∙ c.loop-place.invariant
