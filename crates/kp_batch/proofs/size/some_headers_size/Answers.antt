use Rattle.std.proofs.Common.{◌≡◌, ◌∙◌, List, length, drop, refl, ap, arith}
use Rattle.std.specs.List.{flat_map}
use Rattle.std.specs.Int.{w32}
use Rattle.std.specs.Prelude.{ℤ, pos}
use mir.Val.{to_z}
use Rattle.std.proofs.lemmas.Int.{ints}
use Rattle.kp_wire.specs.Varint.{varint}
use Rattle.std.proofs.lemmas.List.{drop_all}
use Rattle.kp_batch.specs.declared.record.Header.{Header}
use Rattle.kp_batch.specs.Record.{header}
use Rattle.kp_batch.proofs.SizeLemmas.{headers_fit, header_more, length-headers, length-headers_step, many_headers}
use Rattle.kp_batch.proofs.size.some_headers_size.Goals as goal

pub returns-then-hs-gt-SIZE_LIMIT-clause-told : goal.returns-then-hs-gt-SIZE_LIMIT-clause-told
returns-then-hs-gt-SIZE_LIMIT-clause-told c = omega (arith, length-headers c.args.hs.now, many_headers c.args.hs.now)

pub returns-in-None-clause-told : goal.returns-in-None-clause-told
returns-in-None-clause-told c =
    let step = length-headers_step c.args.hs.now c.loop-h.h-index c.h-item.result (omega arith) c.h-item.is in
    omega (arith, step, c.loop-h.invariant.left, c.in-None.ensures.long refl, length-headers c.args.hs.now)

pub loop-h-preserved : goal.loop-h-preserved
loop-h-preserved c =
    let step = length-headers_step c.args.hs.now c.loop-h.h-index c.h-item.result (omega arith) c.h-item.is in
    record {
      fits = header_more c.args.hs.now c.loop-h.h-index c.h-item.result _ (omega arith) c.h-item.is c.in-Some.ensures.size.0 c.loop-h.invariant.fits;
      left = omega (arith, step, c.loop-h.invariant.left);
      so_far = omega (arith, step, c.loop-h.invariant.left, c.loop-h.invariant.so_far, c.in-Some.ensures.size.1, c.saturating_add.ensures, c.min-size.ensures);
    }

pub returns-clause-fits : goal.returns-clause-fits
returns-clause-fits c = λ _. headers_fit c.args.hs.now c.loop-h.h-index (omega arith) (omega arith) c.loop-h.invariant.fits

pub returns-clause-told : goal.returns-clause-told
returns-clause-told c =
    let none : length (flat_map (header 0).spell (drop c.loop-h.h-index c.args.hs.now)) ≡ 0 =
    ap (λ (t : List Header). length (flat_map (header 0).spell t)) (drop_all c.loop-h.h-index c.args.hs.now (omega arith)) in
    omega (arith, c.loop-h.invariant.so_far, none, length-headers c.args.hs.now)

pub loop-h-init : goal.loop-h-init
loop-h-init c =
    let widened : to_z w32 (length c.args.hs.now) ≡ pos (length c.args.hs.now) = omega (arith, ints) in
    let len : c.varint_len-size.result ≡ length (varint.spell (pos (length c.args.hs.now))) = c.varint_len-size.ensures.value ∙ ap (λ (z : ℤ). length (varint.spell z)) widened in
    record {
      fits = λ all. all;
      left = omega arith;
      so_far = omega (arith, c.varint_len-size.ensures.few, len);
    }
