-- The format of a record in a batch, field by field.
use Rattle.std.specs.Prelude.{◌≡◌, ℕ, zero, suc, ◌+◌, ◌-◌, List, [], ◌∷◌, length, ℤ, Option, Ok, Err, ◌==◌, if◌then◌else◌}
use Rattle.kp_wire.specs.declared.fault.WireFault.TheVariants.{Short, BadLength, BadByte}
use Rattle.kp_wire.specs.Reading.{Read, ◌>>=◌}
use Rattle.kp_wire.specs.Codec.{Codec, pair, made, within, sized, nullable_sized, plain, utf8, array}
use Rattle.kp_wire.specs.Varint.{varint, varlong}
use Rattle.kp_batch.specs.declared.record.Header.{Header}
use Rattle.kp_batch.specs.declared.relative.RelativeRecord.{RelativeRecord}

unfoldable pub read_zero : List ℕ → Read (Unit {0})
read_zero [] = Err Short
read_zero (zero ∷ rest) = Ok (tt, rest)
read_zero (suc b ∷ rest) = Err BadByte

-- a record's attributes: one byte, of which no bit is used
unfoldable pub attributes : Codec (Unit {0})
attributes = record { Fits = λ _. Unit {0}; spell = λ _. 0 ∷ []; read = read_zero }

-- ---- fields of a record behind which `after` bytes stand

unfoldable pub length_field : ℕ → Codec ℤ
length_field after = within after varint

unfoldable pub bytes_or_null : ℕ → Codec (Option (List ℕ))
bytes_or_null after = nullable_sized (length_field after) length (λ n. within after (plain n))

unfoldable pub text : ℕ → Codec (List ℕ)
text after = sized (length_field after) length (λ n. within after (utf8 n))

unfoldable pub header : ℕ → Codec Header
header after = made
    (λ (key, value). record { key = key; value = value })
    (λ h. (h.key, h.value))
    (pair (text after) (bytes_or_null after))

unfoldable pub headers : ℕ → Codec (List Header)
headers after = array (length_field after) (header after)

-- what stands behind a record's length
unfoldable pub fields : ℕ → Codec RelativeRecord
fields after = made
    (λ (_, (timestamp_delta, (offset_delta, (key, (value, headers))))). record { timestamp_delta = timestamp_delta; offset_delta = offset_delta; key = key; value = value; headers = headers })
    (λ r. (tt, (r.timestamp_delta, (r.offset_delta, (r.key, (r.value, r.headers))))))
    (pair (within after attributes) (pair (within after varlong) (pair (within after varint) (pair (bytes_or_null after) (pair (bytes_or_null after) (headers after))))))

-- ---- a record

abbrev pub fields_size : RelativeRecord → ℕ
fields_size r = length ((fields 0).spell r)

-- The fields of a record whose length is n. They end where the record ends.
unfoldable pub read_fields : ℕ → List ℕ → Read RelativeRecord
read_fields n bytes =
    (fields (length bytes - n)).read bytes >>= λ r.
    if length r.1 + n == length bytes then Ok r else Err BadLength

abbrev pub sized_fields : ℕ → Codec RelativeRecord
sized_fields n = record {
  Fits = λ r. (fields_size r ≡ n) × (fields 0).Fits r;
  spell = (fields 0).spell;
  read = read_fields n;
}

unfoldable pub relative_record : Codec RelativeRecord
relative_record = sized varint fields_size sized_fields
