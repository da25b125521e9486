use Rattle.std.proofs.Common.{length}
use Rattle.kp_loopback.proofs.serving.Service.answer_frames.Given as goal

abbrev pub decreases-loop-content : goal.decreases-loop-content
decreases-loop-content g l = length l.splitter
