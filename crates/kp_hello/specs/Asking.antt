-- What a producer asks a broker, as frames (protocol guide, "Metadata API (Key: 3)" and "InitProducerId API (Key: 22)";
-- KIP-98).
use Rattle.std.specs.Prelude.{◌≡◌, ℕ, ◌^◌, ◌-◌, List, [], ◌∷◌, pos, Some, None, Result, Ok, Err}
use Rattle.std.specs.Global.{Vec}
use Rattle.kp_frames.specs.declared.fault.FrameFault.TheVariants as frame
use Rattle.kp_frames.specs.declared.request.Request.{Request}
use Rattle.kp_frames.specs.declared.request.RequestBody.TheVariants as body
use Rattle.kp_frames.specs.Request as message
use Rattle.kp_frames.specs.Stream as framing
use Rattle.kp_frames.specs.Writing as writing
use Rattle.kp_rules.specs.declared.names.Names.{Names}
use Rattle.kp_hello.specs.declared.fault.HandshakeFault.{HandshakeFault}
use Rattle.kp_hello.specs.declared.fault.HandshakeFault.TheVariants.{Frame, OutOfMemory}

unfoldable pub metadata_request : Names → Request
metadata_request names = record {
  correlation = pos 0;
  client = Some names.client;
  body = body.Metadata (record { topics = Some (names.topic ∷ []) });
}

unfoldable pub producer_id_request : Names → Request
producer_id_request names = record {
  correlation = pos 1;
  client = Some names.client;
  body = body.InitProducerId (record { transactional_id = None; transaction_timeout_ms = pos (2 ^ 31 - 1) });
}

abbrev pub frame_of : Request → List ℕ
frame_of r = framing.frame.spell (message.spelling r)

-- A request that has no frame is refused as it is when it is written.
abbrev pub Unwritable : Request → HandshakeFault → Type 0
Unwritable r (Frame frame.OutOfMemory) = ⊥
Unwritable r (Frame fault) = writing.IsRefused (message.FitsRequest r) (message.spelling r) fault
Unwritable r fault = ⊥

-- What writing it gave: its frame, or why it has none, unless memory was refused.
abbrev pub IsWritten : Request → Result (Vec ℕ) HandshakeFault → Type 0
IsWritten r (Ok bytes) = bytes.items ≡ frame_of r
IsWritten r (Err OutOfMemory) = Unit {0}
IsWritten r (Err fault) = Unwritable r fault
