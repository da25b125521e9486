use Rattle.kp_drive.proofs.drive.Drive.new.Goals as goal

pub returns-clause-producer : goal.returns-clause-producer
returns-clause-producer g c = c.in_ok-embed.ensures
