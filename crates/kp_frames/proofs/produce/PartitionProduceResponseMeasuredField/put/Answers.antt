use Rattle.std.specs.Prelude.{FitsSigned}
use Rattle.std.specs.Int.{w16, w32, w64}
use Rattle.std.proofs.lemmas.Int.{to_z-of_z}
use Rattle.kp_wire.specs.Fields.{int16, int32, int64}
use Rattle.kp_frames.specs.Produce.{partition_response}
use Rattle.kp_frames.proofs.PuttingLemmas.{four_put}
use Rattle.kp_frames.proofs.produce.PartitionProduceResponseMeasuredField.put.Goals as goal

pub returns : goal.returns
unfolding partition_response
returns c =
    let r = c.args.self.now in
    let f1 : FitsSigned w32 r.partition = c.requires.0 in
    let e1 = rw to_z-of_z at c.in_ok-put_i32.ensures.ok in
    let f2 : FitsSigned w16 r.error_code = c.requires.1.0 in
    let e2 = rw to_z-of_z at c.in_ok-put_i16.ensures.ok in
    let f3 : FitsSigned w64 r.base_offset = c.requires.1.1.0 in
    let e3 = rw to_z-of_z at c.in_ok-put_i64.ensures.ok in
    let f4 : FitsSigned w64 r.log_append_time_ms = c.requires.1.1.1 in
    let e4 = rw to_z-of_z at c.in_ok-put_i64-2.ensures.ok in
    four_put c.args.out.now.items _ _ _ _ (int32.spell r.partition) (int16.spell r.error_code) (int64.spell r.base_offset) (int64.spell r.log_append_time_ms) e1 e2 e3 e4
