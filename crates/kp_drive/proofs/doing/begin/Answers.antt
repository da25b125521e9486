use Rattle.kp_drive.proofs.doing.begin.Goals as goal

pub returns-in-Dialing-clause-closed : goal.returns-in-Dialing-clause-closed
returns-in-Dialing-clause-closed g c = tt
