use Rattle.kp_frames.proofs.KeptLemmas.{pieces_from_nothing}
use Rattle.kp_frames.proofs.laws.pieces_are_held_as_their_stream.Goals as goal

pub returns : goal.returns
returns c = pieces_from_nothing
