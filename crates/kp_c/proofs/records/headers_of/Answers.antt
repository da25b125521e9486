use Rattle.std.proofs.Common.{◌<◌, ◌≤◌, length, ◌∙◌, arith}
use Rattle.kp_c.proofs.HeaderLemmas.{headers_all, headers_more}
use Rattle.kp_c.proofs.records.headers_of.Goals as goal

pub loop-span-preserved : goal.loop-span-preserved
loop-span-preserved c =
    let within : c.loop-span.span-index < length c.args.spans.now = omega arith in
    headers_more _ c.args.spans.now c.loop-span.span-index _ c.loop-span.headers.items _ c.loop-span.rest.now _ within c.loop-span.invariant c.in-Ok.ensures.put c.in-Ok.ensures.rest

pub returns : goal.returns
returns c =
    let past : length c.args.spans.now ≤ c.loop-span.span-index = omega arith in
    c.new.ensures ∙ headers_all _ c.args.spans.now c.loop-span.span-index c.loop-span.headers.items c.loop-span.rest.now past c.loop-span.invariant
