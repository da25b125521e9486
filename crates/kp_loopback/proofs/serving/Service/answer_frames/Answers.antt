use Rattle.std.proofs.Common.{arith}
use Rattle.kp_frames.proofs.StreamLemmas.{shorter}
use Rattle.kp_loopback.proofs.serving.Service.answer_frames.Goals as goal

pub loop-content-smaller : goal.loop-content-smaller
loop-content-smaller g c =
    let given = rw c.in-Some.is at c.in_ok-content.ensures in
    omega (arith, shorter c.loop-content.splitter (c.in-Some.content.items, c.next_frame.new.self) given.0)
