use Rattle.kp_drive.proofs.drive.Drive.flush.Goals as goal

pub returns-clause-calls : goal.returns-clause-calls
returns-clause-calls g c = assumption c
