use Rattle.kp_drive.proofs.drive.Drive.send_at.Goals as goal

pub returns-clause-sends : goal.returns-clause-sends
returns-clause-sends g c = c.send.ensures.sends

pub returns-clause-to : goal.returns-clause-to
returns-clause-to g c = c.send.ensures.to

pub returns-clause-back : goal.returns-clause-back
returns-clause-back g c = c.send.ensures.back

pub returns-clause-refused : goal.returns-clause-refused
returns-clause-refused g c = c.send.ensures.refused

pub returns-clause-when : goal.returns-clause-when
returns-clause-when g c = c.send.ensures.when
