use Rattle.kp_client_laws.specs.Told.{DeliveredStand}
use Rattle.kp_client_laws.proofs.OverLemmas.{of_whatever}
use Rattle.kp_client_laws.proofs.StandLemmas.{delivered_stand}
use Rattle.kp_client_laws.proofs.laws.told_offsets_stand.Goals as goal

pub returns : goal.returns
returns c = of_whatever DeliveredStand delivered_stand
