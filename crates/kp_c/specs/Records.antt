-- Records as C gives them.
use Rattle.std.specs.Prelude.{◌≡◌, ℕ, ℤ, pos, List, [], ◌∷◌, take, drop, Bool, Option, Some, None, if◌then◌else◌}
use Rattle.kp_batch.specs.declared.record.Header.{Header}
use Rattle.kp_batch.specs.declared.record.Record.{Record}
use Rattle.kp_c.specs.declared.values.KpSpan.{KpSpan}

-- bytes, or Kafka's null
abbrev pub given : Bool → List ℕ → Option (List ℕ)
given is_there bytes = if is_there then Some bytes else None

-- how many bytes a header's value has
abbrev pub value_len : KpSpan → ℕ
value_len s = if s.has_value then s.value_len else 0

-- the header at the front of the bytes: its name, and then its value
abbrev pub header_at : KpSpan → List ℕ → Header
header_at s bytes = record { key = take s.name_len bytes; value = given s.has_value (take (value_len s) (drop s.name_len bytes)) }

-- what stands behind it
abbrev pub behind : KpSpan → List ℕ → List ℕ
behind s bytes = drop (value_len s) (drop s.name_len bytes)

-- the headers, one after the other
unfoldable pub headers_in : List KpSpan → List ℕ → List Header
headers_in [] bytes = []
headers_in (s ∷ spans) bytes = header_at s bytes ∷ headers_in spans (behind s bytes)

-- The record has these parts; its timestamp is in milliseconds since the beginning of 1970.
pub record HasParts (timestamp : ℤ) (key value : Option (List ℕ)) (headers : List Header) (body : Record) : Type 0 where
  pub at : timestamp ≡ pos body.timestamp
  pub key_is : body.key ≡ key
  pub value_is : body.value ≡ value
  pub headers_are : body.headers ≡ headers
