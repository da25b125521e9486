use Rattle.kp_drive.proofs.drive.Drive.next_report.Goals as goal

pub returns-clause-calls : goal.returns-clause-calls
returns-clause-calls g c = c.next_report.ensures.calls
