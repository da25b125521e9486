use Rattle.std.proofs.Common.{◌≡◌, Ok, Err, ap, sym, ◌∙◌, length, arith}
use Rattle.kp_frames.specs.Stream.{Split, first}
use Rattle.kp_frames.proofs.StreamLemmas.{first_then, first_none, faulty_so, faulty_none, shorter}
use Rattle.kp_frames.proofs.splitter.rest_of.Goals as goal

pub loop-behind-smaller : goal.loop-behind-smaller
loop-behind-smaller c =
    let e : first c.loop-behind.rest.now ≡ Ok (c.in-Ok.field-0-0.now, c.in-Ok.behind.now) = c.in-Ok.ensures.first in
    omega (arith, shorter c.loop-behind.rest.now (c.in-Ok.field-0-0.now, c.in-Ok.behind.now) e)

pub loop-behind-preserved : goal.loop-behind-preserved
loop-behind-preserved c =
    let e : first c.loop-behind.rest.now ≡ Ok (c.in-Ok.field-0-0.now, c.in-Ok.behind.now) = c.in-Ok.ensures.first in
    let same = ap (λ (s : Split). s.rest) (first_then c.loop-behind.rest.now (c.in-Ok.field-0-0.now, c.in-Ok.behind.now) e) in
    record {
      rest = c.loop-behind.invariant.rest ∙ same;
      faulty = c.loop-behind.invariant.faulty ∙ faulty_so c.loop-behind.rest.now c.in-Ok.behind.now same;
    }

pub returns-in-Err-clause-len : goal.returns-in-Err-clause-len
returns-in-Err-clause-len c =
    let e : first c.loop-behind.rest.now ≡ Err c.in-Err.fault = c.in-Err.ensures.first in
    let all = c.loop-behind.invariant.rest ∙ ap (λ (s : Split). s.rest) (first_none c.loop-behind.rest.now c.in-Err.fault e) in
    ap length (sym all)

pub returns-in-Err-clause-tail : goal.returns-in-Err-clause-tail
returns-in-Err-clause-tail c =
    let e : first c.loop-behind.rest.now ≡ Err c.in-Err.fault = c.in-Err.ensures.first in
    c.tail_of.ensures ∙ sym (faulty_none c.loop-behind.rest.now c.in-Err.fault e) ∙ sym c.loop-behind.invariant.faulty
