use Rattle.std.proofs.Common.{◌≡◌, List, length, drop, pos, ap, arith}
use Rattle.std.specs.List.{flat_map}
use Rattle.std.proofs.lemmas.List.{drop_all}
use Rattle.kp_batch.specs.declared.record.Header.{Header}
use Rattle.kp_batch.specs.Record.{header}
use Rattle.kp_batch.proofs.SizeLemmas.{length-headers, length-headers_step, varint_few}
use Rattle.kp_batch.proofs.size.headers_room.Goals as goal

pub loop-h-init : goal.loop-h-init
loop-h-init c = record { left = omega arith; so_far = omega arith }

pub loop-h-preserved : goal.loop-h-preserved
loop-h-preserved c =
    let step = length-headers_step c.args.hs.now c.loop-h.h-index c.h-item.result (omega arith) c.h-item.is in
    record {
      left = omega (arith, step, c.loop-h.invariant.left);
      so_far = omega (arith, step, c.loop-h.invariant.left, c.loop-h.invariant.so_far, c.header_room.ensures, c.saturating_add-room.ensures);
    }

pub returns : goal.returns
returns c =
    let none : length (flat_map (header 0).spell (drop c.loop-h.h-index c.args.hs.now)) ≡ 0 =
    ap (λ (t : List Header). length (flat_map (header 0).spell t)) (drop_all c.loop-h.h-index c.args.hs.now (omega arith)) in
    omega (arith, c.loop-h.invariant.so_far, none, length-headers c.args.hs.now, varint_few (pos (length c.args.hs.now)))
