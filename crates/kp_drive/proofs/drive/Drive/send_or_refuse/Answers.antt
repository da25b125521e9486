use Rattle.kp_drive.proofs.drive.Drive.send_or_refuse.Goals as goal

pub returns-clause-sends : goal.returns-clause-sends
returns-clause-sends g c = assumption c

pub returns-clause-refused : goal.returns-clause-refused
returns-clause-refused g c = assumption c
