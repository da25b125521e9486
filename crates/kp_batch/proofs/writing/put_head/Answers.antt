use Rattle.std.proofs.Common.{rules}
use Rattle.std.specs.Prelude.{FitsSigned}
use Rattle.std.specs.Int.{w16, w32, w64}
use Rattle.std.proofs.lemmas.Int.{to_z-of_z}
use Rattle.kp_batch.proofs.WritingLemmas.{head_spelled}
use Rattle.kp_batch.proofs.writing.put_head.Goals as goal

pub returns : goal.returns
returns c =
    let h = c.args.h.now in
    let f1 : FitsSigned w64 h.producer_id = search rules in
    let e1 = rw to_z-of_z at c.in_ok-put_i64.ensures.ok in
    let f2 : FitsSigned w16 h.epoch = search rules in
    let e2 = rw to_z-of_z at c.in_ok-put_i16.ensures.ok in
    let f3 : FitsSigned w32 h.base_sequence = search rules in
    let e3 = rw to_z-of_z at c.in_ok-put_i32.ensures.ok in
    head_spelled h c.args.out.now.items _ _ _ e1 e2 e3
