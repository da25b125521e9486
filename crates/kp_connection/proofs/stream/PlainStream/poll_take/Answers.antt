use Rattle.kp_connection.specs.Moves.{moves_of_read}
use Rattle.kp_connection.proofs.stream.PlainStream.poll_take.Goals as goal

pub returns-clause-told : goal.returns-clause-told
returns-clause-told g c =
    moves_of_read g.S.AsyncRead.reads g.S.AsyncWrite.writes _ _ c.poll_read.result _ c.poll_read.ensures.bytes
