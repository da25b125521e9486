-- A service that has run to its end and was settled, and what brokers and the network did around the calls on its core.
use Rattle.std.specs.Prelude.{ℕ, List, [], ◌∷◌, length, map, ◌==◌, if◌then◌else◌}
use Rattle.std.specs.List.{range_with_len}
use Rattle.kp_accum.specs.declared.item.Item.{Item}
use Rattle.kp_client.specs.Ends.{HasEnded}
use Rattle.kp_client.specs.Left.{parts_in, IsSettled}
use Rattle.kp_client.specs.Service.{audits_of, core_of, hello_of, intake_of, partitions_of}
use Rattle.kp_client.specs.declared.left.Ended.{Ended}
use Rattle.kp_client.specs.declared.left.Left.{Left}
use Rattle.kp_client.specs.declared.service.Service.{Service}
use Rattle.kp_headline.specs.Moves.{Move, led}
use Rattle.kp_headline.specs.Offering.{having_accepted}
use Rattle.kp_headline.specs.Outside.{State}
use Rattle.kp_lanes.specs.Sender.{all_accepted, finished_number}
use Rattle.kp_lanes.specs.declared.sender.Finished.{Finished}
use Rattle.kp_headline.specs.Around.{Around, AssumedAround}
use Rattle.kp_world.specs.World.{Opening}

-- what the service's core was made of
abbrev pub opening_of : Service → Opening
opening_of service = record {
  config = (core_of service).config;
  names = (core_of service).names;
  partitions = partitions_of service;
  senders = length (core_of service).reports;
  id = (hello_of service).producer_id;
  correlation = (hello_of service).next_correlation;
  audits = audits_of service;
}

-- The service has come to its end, and was settled with its senders once they had finished.
pub record IsOver (service : Service) (finished : List Finished) (left : Left) : Type 0 where
  pub ended : Ended
  pub has_ended : HasEnded (core_of service) (intake_of service) ended
  pub settled : IsSettled (parts_in ended) finished left

-- all that the sender with this number had accepted, in order
abbrev pub accepted_of : List Finished → ℕ → List Item
accepted_of [] i = []
accepted_of (f ∷ fs) i = if finished_number f == i then all_accepted f else accepted_of fs i

-- by sender
abbrev pub accepted_in : Service → List Finished → List (List Item)
accepted_in service finished =
    map (accepted_of finished) (range_with_len 0 (opening_of service).senders)

-- before the first call, when all was accepted
abbrev pub begin : Service → List Finished → State
begin service finished = having_accepted (opening_of service) (accepted_in service finished)

-- It holds of any service that is over, and of what is known once brokers and the network have done anything around the
-- calls on its core.
abbrev pub AfterAnyService : (Opening → State → Left → List Finished → Type 0) → Type 0
AfterAnyService Holds =
    (service : Service) (finished : List Finished) (left : Left) (ms : List Move)
    → (over : IsOver service finished left)
    → Around (opening_of service) (accepted_in service finished) over.has_ended.calls ms
    → AssumedAround (begin service finished) ms
    → Holds (opening_of service) (led (begin service finished) ms) left finished
