use Rattle.std.proofs.Common.{rules}
use Rattle.std.specs.Prelude.{FitsSigned}
use Rattle.std.specs.Int.{w16, w32, w64}
use Rattle.std.proofs.lemmas.Int.{to_z-of_z}
use Rattle.kp_batch.proofs.WritingLemmas.{summary_spelled}
use Rattle.kp_batch.proofs.writing.put_summary.Goals as goal

pub returns : goal.returns
returns c =
    let s = c.args.s.now in
    let f1 : FitsSigned w16 s.attributes = search rules in
    let e1 = rw to_z-of_z at c.in_ok-put_i16.ensures.ok in
    let f2 : FitsSigned w32 s.last_offset_delta = search rules in
    let e2 = rw to_z-of_z at c.in_ok-put_i32.ensures.ok in
    let f3 : FitsSigned w64 s.base_timestamp = search rules in
    let e3 = rw to_z-of_z at c.in_ok-put_i64.ensures.ok in
    let f4 : FitsSigned w64 s.max_timestamp = search rules in
    let e4 = rw to_z-of_z at c.in_ok-put_i64-2.ensures.ok in
    let e5 = c.in_ok-put_head.ensures in
    let f6 : FitsSigned w32 s.count = search rules in
    let e6 = rw to_z-of_z at c.in_ok-put_i32-2.ensures.ok in
    summary_spelled s c.args.out.now.items _ _ _ _ _ _ e1 e2 e3 e4 e5 e6
