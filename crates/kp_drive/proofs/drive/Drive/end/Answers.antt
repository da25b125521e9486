use Rattle.kp_drive.proofs.drive.Drive.end.Goals as goal

pub returns-clause-calls : goal.returns-clause-calls
returns-clause-calls g c = c.end.ensures.calls
