-- What is asked over a producer's connection.
use Rattle.std.specs.Prelude.{ℕ, List, [], ◌∷◌, Option, Some, None, Ok, Err}
use Rattle.kp_embed.specs.declared.line.Question.{Question}
use Rattle.kp_embed.specs.declared.line.Question.TheVariants.{Metadata, ProducerId}
use Rattle.kp_hello.specs.Asking.{frame_of, metadata_request, producer_id_request}
use Rattle.kp_rules.specs.declared.fault.CoreFault.{CoreFault}
use Rattle.kp_rules.specs.declared.names.Names.{Names}
use Rattle.kp_rules.specs.declared.outgoing.Outgoing.{Outgoing}
use Rattle.kp_rules.specs.Calls.{Call, Request}

-- The core was not asked for a request to this node, or it has none, or gives none.
pub data HasNone (node now : ℕ) : List Call → Type 0 where
  unasked : HasNone node now []
  idle : HasNone node now (Request node now (Ok None) ∷ [])
  refused : (fault : CoreFault) → HasNone node now (Request node now (Err fault) ∷ [])

-- What is asked next over the connection to a node: what was asked before and is not answered, the bytes, the calls on the
-- core, and what is asked then and not answered.
pub data Asks (names : Names) (node now : ℕ) : Option Question → List ℕ → List Call → Option Question → Type 0 where
  nothing : (q : Option Question) (calls : List Call) → HasNone node now calls → Asks names node now q [] calls q
  metadata : Asks names node now None (frame_of (metadata_request names)) [] (Some Metadata)
  producer_id : Asks names node now None (frame_of (producer_id_request names)) [] (Some ProducerId)
  request : (q : Option Question) (o : Outgoing) → Asks names node now q o.bytes (Request node now (Ok (Some o)) ∷ []) q
