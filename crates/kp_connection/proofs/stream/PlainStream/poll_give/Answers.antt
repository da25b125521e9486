use Rattle.kp_connection.specs.Moves.{moves_of_write}
use Rattle.kp_connection.proofs.stream.PlainStream.poll_give.Goals as goal

pub returns-clause-told : goal.returns-clause-told
returns-clause-told g c =
    moves_of_write g.S.AsyncRead.reads g.S.AsyncWrite.writes _ _ c.poll_write.result _ c.poll_write.ensures.bytes
