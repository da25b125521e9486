-- STRING and NULLABLE_STRING are read as they are written.
use Rattle.std.proofs.Common.{length}
use Rattle.kp_wire.specs.Codec.{utf8}
use Rattle.kp_wire.specs.Fields.{int16}
use Rattle.kp_wire.specs.Strings.{string, nullable_string}
use Rattle.kp_wire.proofs.CodecLemmas.{IsExact, IsSizedBy, sized_exact, nullable_sized_exact, utf8_exact}
use Rattle.kp_wire.proofs.FieldLemmas.{int16_exact}

by_length : IsSizedBy length utf8
by_length = record { is_size = λ n s fits. fits.0 }

pub string_exact : IsExact 0 string
string_exact = sized_exact 0 int16 length utf8 int16_exact utf8_exact by_length

pub nullable_string_exact : IsExact 0 nullable_string
nullable_string_exact = nullable_sized_exact 0 int16 length utf8 int16_exact utf8_exact by_length
