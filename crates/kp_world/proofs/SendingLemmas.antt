-- The batches of a request are those that their partitions may send; and the open batches of a partition, of which one
-- goes out again.
use Rattle.std.proofs.Common.{◌≡◌, ℕ, List, Some}
use Rattle.std.specs.Prelude.{find}
use Rattle.kp_log.proofs.PlaceLemmas.{In}
use Rattle.kp_rules.proofs.SendingLemmas.{all_again}
use Rattle.kp_rules.specs.Attempts.{is_waiting}
use Rattle.kp_rules.specs.HandingOver.{send_again_in}
use Rattle.kp_rules.specs.Records.{HandedBatch, Open}
use Rattle.kp_world.proofs.KeepingLemmas.{OpenIn}
use Rattle.kp_world.proofs.ListLemmas.{all_at}
use Rattle.kp_world.proofs.ListLemmas.{found_in}

-- ---- a batch goes out again

pub find_open : (handed : List HandedBatch) (os : List Open) (o : Open) → find is_waiting os ≡ Some o → OpenIn handed os → In o.batch handed
find_open handed os o e h = all_at (λ (x : Open). In x.batch handed) os o h (found_in is_waiting os o e).0

pub opens_again : (k : ℕ) (handed : List HandedBatch) (os : List Open) → OpenIn handed os → OpenIn handed (send_again_in k os)
opens_again k handed os h = all_again (λ (b : HandedBatch). In b handed) k os h
